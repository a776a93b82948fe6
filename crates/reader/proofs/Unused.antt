-- File 7: of an accepted file every entry beyond n of every record is zero. In order: what the test of one record says; n never falls;
-- the records from an offset on; all records of a file. Assumes nothing.
use mathlib.Core.Path.{◌≡◌, refl, sym, ap, subst, ◌∙◌}
use mathlib.Core.Bool.{Bool, true, false, cond, not, ◌&&◌, ◌||◌}
use mathlib.Core.Logic.{◌⊎◌}
use mathlib.Core.List.{List, []}
use Prim.Native.Nat.{ℕ, zero, suc, ◌+◌, ◌*◌, ◌-◌, ◌^◌, ◌≤◌, ◌<◌}
use native.Mathlib.Omega.{arith}
use borrow.Author.Tests.{eqb-true}
use lib.Dec.{eqb, ltb}
use lib.ListN.{length}
use Rattle.integers.proofs.Booleans.{and-true, or-false}
use Rattle.arrays.proofs.FirstOf.{first_of-zero}
use Rattle.coefficients.proofs.ZeroBits.{zero-patterns}
use Rattle.records.specs.declared.kinds.Part.{Part}
use Rattle.records.specs.declared.kinds.Part.TheVariants.{Head, Row, Drift, Initial, Input, Direction, Guard, End}
use Rattle.records.specs.declared.kinds.Layout.{Layout}
use Rattle.records.specs.Places.{start_place, rows_place}
use Rattle.records.specs.Kinds.{layout_of, part_of}
use Rattle.records.specs.Records.{Record, whole, nothing, record_at, record_kind, record_body}
use Rattle.records.proofs.KnownKinds.{layout-at}
use Rattle.integers.proofs.Machine.{AllBytes}
use Rattle.numbers.proofs.LittleEndian.{little_endian-lt}
use Rattle.records.proofs.RecordAt.{record_at-nothing, whole_of, whole-bytes}
use Rattle.columns.specs.Columns.{entry_at, fitted_width, bits_at, unused_zero}
use Rattle.columns.proofs.ColumnLaws.{entry_zero-is, column_zero-fitted, column_zero-whole, unused_zero-at, unused_zero-none}
use Rattle.std.specs.Prelude.{Ok}
use Rattle.reachability.specs.declared.model.Model.{Model}
use Rattle.reader.specs.declared.state.State.{State}
use Rattle.filling.specs.Models.{blank_model}
use Rattle.reader.specs.Models.{start, with_row, with_drift, with_set_point, with_direction, with_guard}
use Rattle.reader.specs.Values.{body_number}
use Rattle.reader.specs.Refusals.{refusal, stored_in, stored}
use Rattle.reader.specs.Reading.{Stop, stop_here, goes_on, behind, stored_record, stop_for, number_at, read_model}
use Rattle.reader.specs.Unused.{offset_of, record_no, ZeroFrom, Unused, UnusedIn}
use Rattle.reader.proofs.order.KindNumbers.{kind_number-zero}
use Rattle.reader.proofs.BodyNumbers.{body_number-zero}
use Rattle.reader.proofs.ReadingOn.{refusal-zero, whole-of-refusal, GoesOn, goes_on-true, stop_for-ind}
use Rattle.reader.proofs.OrderFacts.{fact, order-fact}
use Rattle.reader.proofs.AcceptedSoFar.{AcceptedSoFar, accepted_so_far-start, accepted_so_far-stored}
use Rattle.reader.proofs.ReadModels.{no_more, read_from-number, read_from-model}

-- ---- what the test of one record says

-- by offset and width of its layout
record ByLayout (n : ℕ) (l : Layout) (body : List ℕ) : Type 0 where
  whole : 0 < l.width → (l.width ≡ fitted_width → ⊥) → ZeroFrom n (entry_at body l.first)
  fitted : l.width ≡ fitted_width → (i : ℕ) → n ≤ i → i < 6 → (bits_at body l.first i ≡ 0) ⊎ (bits_at body l.first i ≡ 2 ^ 63)

abbrev LayoutIn : ℕ → Record → Type 0
LayoutIn n r = ByLayout n (layout_of (record_kind r)) (record_body r)

-- a part whose records are six numbers and nothing else
vector_part : Part → Bool
vector_part Head = false
vector_part Row = false
vector_part Drift = true
vector_part Initial = true
vector_part Input = true
vector_part Direction = true
vector_part Guard = false
vector_part End = false

vector-layout : (kind : ℕ) → vector_part (part_of kind) ≡ true → ((layout_of kind).first ≡ 0) × ((layout_of kind).width ≡ 4)
unfolding vector_part
vector-layout kind v =
    let t = layout-at (λ l. not (vector_part l.part) || (eqb l.first 0 && eqb l.width 4)) refl refl kind in
    let both = and-true (eqb (layout_of kind).first 0) (eqb (layout_of kind).width 4) (or-false (not (vector_part (part_of kind))) _ t (ap not v)) in
    (eqb-true (layout_of kind).first 0 both.0, eqb-true (layout_of kind).width 4 both.1)

-- and so with the offsets of File 3, which the table has
module _ {n : ℕ} {body : List ℕ} (kind : ℕ) (u : ByLayout n (layout_of kind) body) where
  of-vector : vector_part (part_of kind) ≡ true → ZeroFrom n (entry_at body 0)
  of-vector v =
      let l = vector-layout kind v in
      subst (λ (at : ℕ). ZeroFrom n (entry_at body at)) l.0 (u.whole (omega (arith, l.1)) (λ e. omega (arith, l.1, e)))

  of_part : {p : Part} → part_of kind ≡ p → vector_part p ≡ true → ZeroFrom n (entry_at body 0)
  of_part e v = of-vector (ap vector_part e ∙ v)

  unused-kind : Unused n kind body
  unfolding vector_part layout_of
  unused-kind =
      record {
        scaled = λ e. (subst (λ (k : ℕ). ByLayout n (layout_of k) body) e u).whole (omega arith) (λ f. omega (arith, f));
        fitted = λ e. (subst (λ (k : ℕ). ByLayout n (layout_of k) body) e u).fitted refl;
        drift = λ e. of_part e refl;
        initial = λ e. of_part e refl;
        input = λ e. of_part e refl;
        direction = λ e. of_part e refl;
      }

module _ (n : ℕ) (l : Layout) (body : List ℕ) (z : unused_zero n l body ≡ true) where
  unused-of : AllBytes body → ByLayout n l body
  unused-of bytes =
      record {
        whole = λ some ne i h k. entry_zero-is body l.first i (sym (column_zero-whole l.first l.width body i ne) ∙ unused_zero-at n l body z some i h k);
        fitted =
            λ e i h k. zero-patterns (bits_at body l.first i) (little_endian-lt 8 body (l.first + 8 * i) bytes)
            (sym (column_zero-fitted l.first l.width body i e) ∙ unused_zero-at n l body z (omega (arith, e)) i h k);
      }

-- with more coordinates fewer entries lie beyond them
unused-more : {n m : ℕ} {l : Layout} {body : List ℕ} → n ≤ m → ByLayout n l body → ByLayout m l body
unused-more h u =
    record {
      whole = λ some ne i k. u.whole some ne i (omega (arith, h, k));
      fitted = λ e i k. u.fitted e i (omega (arith, h, k));
    }

-- where no record stands there is no entry
unused-nothing : (n : ℕ) → LayoutIn n nothing
unfolding layout_of
unused-nothing n = unused-of n (layout_of 0) [] (unused_zero-none n (layout_of 0) [] refl) (λ i. record { fits = omega arith })

-- ---- n never falls: before the head it is 0, and no other record changes it

start-n : start.model.n ≡ 0
unfolding start blank_model
start-n = refl

n-onward : (s : State) (l : Layout) (body : List ℕ) → AcceptedSoFar s → (p : Part) → fact p s.place l ≡ true → s.model.n ≤ (stored_in p s l body).model.n
unfolding fact with_row with_drift with_set_point with_direction with_guard
n-onward s l body g Head f = omega (arith, ap (λ (x : State). x.model.n) (g.first (eqb-true s.place start_place (and-true (eqb s.place start_place) (eqb l.place rows_place) f).0)), start-n)
n-onward s l body g Row f = omega arith
n-onward s l body g Drift f = omega arith
n-onward s l body g Initial f = omega arith
n-onward s l body g Input f = omega arith
n-onward s l body g Direction f = omega arith
n-onward s l body g Guard f = omega arith
n-onward s l body g End f = omega arith

record Onward (n : ℕ) (p : Stop) : Type 0 where
  so_far : AcceptedSoFar p.state
  least : n ≤ p.state.model.n

onward-next : (file : List ℕ) (n at : ℕ) (s : State) (kind : ℕ) (body : List ℕ) → Onward n (stop_here at s) → GoesOn file at s kind body → Onward n (stop_here (at + 1 + length body) (stored s kind body))
unfolding stored
onward-next file n at s kind body o g =
    record {
      so_far = accepted_so_far-stored s kind body o.so_far g.allowed g.passes;
      least = omega (arith, o.least, n-onward s (layout_of kind) body o.so_far (part_of kind) (order-fact s.place kind (kind_number-zero s kind g.allowed).0));
    }

-- ---- the records from an offset on

module _ (file : List ℕ) (bytes : AllBytes file) where
  abbrev here : ℕ → Record
  here at = record_at file at

  -- a record whose body passes
  unused-here : (s : State) (at : ℕ) → here at ≡ whole (record_kind (here at)) (record_body (here at)) → body_number s (record_kind (here at)) (record_body (here at)) ≡ 0 → LayoutIn s.model.n (here at)
  unused-here s at w z =
      unused-of s.model.n (layout_of (record_kind (here at))) (record_body (here at)) (body_number-zero s (record_kind (here at)) (record_body (here at)) z).0
      (whole-bytes file at (record_kind (here at)) (record_body (here at)) w bytes)

  -- behind the end of the file
  unused-beyond : (n at k : ℕ) → length file ≤ at → LayoutIn n (here (offset_of file at k))
  unused-beyond n at zero h = subst (LayoutIn n) (sym (record_at-nothing file at h)) (unused-nothing n)
  unused-beyond n at (suc k) h = unused-beyond n (behind at (here at)) k (omega arith)

  unused-from : (turns at : ℕ) (s : State) → AcceptedSoFar s → length file - at < turns → number_at file (stop_for turns file at s) ≡ 0 → (k : ℕ) → LayoutIn (stop_for turns file at s).state.model.n (here (offset_of file at k))
  unfolding stop_for number_at
  unused-from zero at s so_far enough z k = absurd (omega arith)
  unused-from (suc turns) at s so_far enough z k = split (goes_on s (here at)) refl (unused-from turns (behind at (here at)) (stored_record s (here at))) z k
    where
      next : Stop
      next = stop_for turns file (behind at (here at)) (stored_record s (here at))

      split : (b : Bool) → goes_on s (here at) ≡ b → (AcceptedSoFar (stored_record s (here at)) → length file - behind at (here at) < turns → number_at file next ≡ 0 → (j : ℕ) → LayoutIn next.state.model.n (here (offset_of file (behind at (here at)) j))) → number_at file (cond b next (stop_here at s)) ≡ 0 → (j : ℕ) → LayoutIn (cond b next (stop_here at s)).state.model.n (here (offset_of file at j))
      split true t go z zero =
          let g = goes_on-true file at s t in
          let first = onward-next file s.model.n at s (record_kind (here at)) (record_body (here at)) (record { so_far = so_far; least = omega arith }) g in
          unused-more (stop_for-ind file (Onward s.model.n) (onward-next file s.model.n) turns (behind at (here at)) (stored_record s (here at)) first).least (unused-here s at g.stands g.passes)
      split true t go z (suc j) =
          let g = goes_on-true file at s t in
          let w = (whole_of file at (record_kind (here at)) (record_body (here at)) g.stands).within in
          go (accepted_so_far-stored s (record_kind (here at)) (record_body (here at)) so_far g.allowed g.passes) (omega (arith, w, enough)) z j
      split false t go z zero =
          let none = (first_of-zero (refusal s (here at)) (cond (ltb (at + 1) (length file)) 10 0) z).0 in
          let w = whole-of-refusal s (here at) none in
          unused-here s at w (refusal-zero s (record_kind (here at)) (record_body (here at)) (sym (ap (refusal s) w) ∙ none)).1
      split false t go z (suc j) =
          let none = (first_of-zero (refusal s (here at)) (cond (ltb (at + 1) (length file)) 10 0) z).1 in
          unused-beyond s.model.n (behind at (here at)) j (omega (arith, no_more file (stop_here at s) (ltb (at + 1) (length file)) refl none))

-- ---- all records of a file

pub read_model-unused-zero : (file : List ℕ) → AllBytes file → {m : Model} → read_model file ≡ Ok m → (k : ℕ) → UnusedIn m.n (record_no file k)
unfolding read_model
read_model-unused-zero file bytes e k =
    unused-kind (record_kind (record_no file k))
    (subst (λ (n : ℕ). LayoutIn n (record_no file k)) (sym (ap (λ (x : Model). x.n) (read_from-model file 0 start e)))
    (unused-from file bytes (suc (length file - 0)) 0 start accepted_so_far-start (omega arith) (read_from-number file 0 start e) k))
