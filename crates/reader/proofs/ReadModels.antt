-- Laws of `read_model`. In order: its number and offset; where a file is read, a state that the reader has reached; a model that was
-- read is accepted; an accepted file has at most 1,690 bytes; reading looks only at the first 2,048 bytes. Assumes nothing.
use mathlib.Core.Path.{◌≡◌, refl, sym, ap, ap₂, subst, ◌∙◌}
use mathlib.Core.Bool.{Bool, true, false, cond, not, ◌&&◌}
use mathlib.Core.List.{List}
use Prim.Native.Nat.{ℕ, zero, suc, ◌+◌, ◌*◌, ◌-◌, ◌≤◌}
use native.Mathlib.Decide.{dec_lt}
use native.Mathlib.Omega.{arith}
use borrow.Author.Tests.{le-leb, leb-true, eq-eqb, eqb-true, eqb-false, lt-ltb, le-ltb, ltb-false}
use lib.Dec.{eqb, ltb}
use lib.ListN.{length, take, length-take}
use lib.Seq.{take_all}
use Rattle.arrays.specs.Tests.{first_of, zero_outside}
use Rattle.records.specs.Records.{Record, record_at, record_kind, record_body}
use Rattle.records.proofs.RecordAt.{whole_length, record_at-take, reaches-of-le}
use Rattle.arrays.proofs.Tests.{Zeros, zero_outside-of, all_between-of}
use Rattle.stepping.specs.Limits.{entry_limit}
use Rattle.stepping.specs.Refusals.{matrix_ok}
use Rattle.limits.specs.Limits.{directions_ok, direction_limit}
use Rattle.reachability.proofs.motion.Laws.{motion_ok-of}
use Rattle.reachability.proofs.model.Facts.{accepted-of}
use Rattle.reachability.specs.Limits.{accepted}
use Rattle.reachability.specs.Motion.{rows_of}
use Rattle.std.specs.Prelude.{Result, Ok}
use Rattle.reachability.specs.declared.model.Model.{Model}
use Rattle.reader.specs.declared.refusals.Refused.{Refused}
use Rattle.reader.specs.declared.state.State.{State}
use Rattle.records.specs.declared.kinds.Layout.{Layout}
use Rattle.records.specs.declared.kinds.Part.{Part}
use Rattle.records.specs.declared.kinds.Part.TheVariants.{Head, Row, Drift, Initial, Input, Direction, Guard, End}
use Rattle.records.specs.Places.{initial_place, input_place, direction_place}
use Rattle.records.specs.Kinds.{layout_of, part_of}
use Rattle.reader.specs.Models.{start}
use Rattle.reader.specs.Refusals.{refusal, stored}
use Rattle.reader.specs.Reading.{is_end, Stop, stop_here, goes_on, behind, stored_record, stop_for, stop_from, number_at, offset_at, refused, read_as, reading_at, read_from, read_model, read_number, read_offset, status_number, status_offset, Reads}
use Rattle.reader.proofs.order.KindNumbers.{kind_number-zero}
use Rattle.arrays.proofs.FirstOf.{first_of-zero}
use Rattle.reader.proofs.ReadingOn.{refusal-zero, whole-of-refusal, GoesOn, goes_on-true, stop_for-ind, stop_for-enough, stop_for-stops}
use Rattle.reader.proofs.RowsOfSix.{some_nonzero-of, guards_ok-of}
use Rattle.reader.proofs.OrderFacts.{fact, order-fact, is_done-late}
use Rattle.reader.proofs.PartsSoFar.{n-most}
use Rattle.reader.proofs.AcceptedSoFar.{AcceptedSoFar, accepted_so_far-start, accepted_so_far-stored}
use Rattle.reader.proofs.Sizes.{used, used-stored, used_le}
use Rattle.reader.proofs.FileNumbers.{Numbered, file_number-of}
use Rattle.reader.proofs.RecordNumbers.{number_at-numbered}

-- ---- the number and the offset of a file

-- What a reading tells of its number and offset.
record Tells (r : Result Model Refused) (number offset : ℕ) : Type 0 where
  number_is : status_number r ≡ number
  offset-is : status_offset r ≡ cond (eqb number 0) 0 offset

reading_at-tells : (file : List ℕ) (p : Stop) → Tells (reading_at file p) (number_at file p) (offset_at file p)
unfolding reading_at
reading_at-tells file p = split (number_at file p) (offset_at file p) (number_at-numbered file p) (eqb (number_at file p) 0) refl
  where
    split : (n o : ℕ) → Numbered n → (b : Bool) → eqb n 0 ≡ b → Tells (cond (eqb n 0) (read_as p.state.model) (refused n o)) n o
    split n o k true e =
        let z = eqb-true n 0 e in
        subst (λ (m : ℕ). Tells (cond (eqb m 0) (read_as p.state.model) (refused m o)) m o) (sym z) (record { number_is = refl; offset-is = refl })
    split n o k false e = rw e (record { number_is = file_number-of k (eqb-false n 0 e); offset-is = rw e refl })

pub reads_of : (file : List ℕ) {r : Result Model Refused} → r ≡ read_model file → Reads file r
unfolding read_model read_from read_number read_offset
reads_of file {r} e =
    subst (Reads file) (sym e)
    (let t = reading_at-tells file (stop_from file 0 start) in
    record { answer = refl; number = t.number_is; offset = t.offset-is })

-- ---- where a file is read

-- A state that the reader reaches at an offset.
pub record Reachable (p : Stop) : Type 0 where
  pub so_far : AcceptedSoFar p.state
  pub within : p.at ≤ used p.state

reachable-next : (file : List ℕ) (at : ℕ) (s : State) (kind : ℕ) (body : List ℕ) → Reachable (stop_here at s) → GoesOn file at s kind body → Reachable (stop_here (at + 1 + length body) (stored s kind body))
reachable-next file at s kind body r g =
    record {
      so_far = accepted_so_far-stored s kind body r.so_far g.allowed g.passes;
      within = omega (arith, r.within, used-stored s kind body r.so_far (kind_number-zero s kind g.allowed).0 g.other (whole_length file at kind body g.stands));
    }

reachable-start : Reachable (stop_here 0 start)
reachable-start = record { so_far = accepted_so_far-start; within = omega arith }

-- The state before the end record, at the offset of that record.
pub record Reached (file : List ℕ) (m : Model) : Type 0 where
  pub last : Stop
  pub reachable : Reachable last
  pub ends : direction_place ≤ last.state.place
  pub length-le : length file ≤ last.at + 1
  pub model_is : m ≡ last.state.model

-- where an end may stand
pub end-place : (p : Part) (place : ℕ) (l : Layout) → is_end p ≡ true → fact p place l ≡ true → direction_place ≤ place
unfolding fact
end-place Head place l e f = let z : ◌≡◌ {A = ℕ} 0 1 = cc in absurd (omega arith)
end-place Row place l e f = let z : ◌≡◌ {A = ℕ} 0 1 = cc in absurd (omega arith)
end-place Drift place l e f = let z : ◌≡◌ {A = ℕ} 0 1 = cc in absurd (omega arith)
end-place Initial place l e f = let z : ◌≡◌ {A = ℕ} 0 1 = cc in absurd (omega arith)
end-place Input place l e f = let z : ◌≡◌ {A = ℕ} 0 1 = cc in absurd (omega arith)
end-place Direction place l e f = let z : ◌≡◌ {A = ℕ} 0 1 = cc in absurd (omega arith)
end-place Guard place l e f = let z : ◌≡◌ {A = ℕ} 0 1 = cc in absurd (omega arith)
end-place End place l e f = leb-true direction_place place f

module _ (file : List ℕ) (p : Stop) where
  abbrev here : Record
  here = record_at file p.at

  -- not refused, the record that reading stops at is the end
  end-here : goes_on p.state here ≡ false → refusal p.state here ≡ 0 → (b : Bool) → is_end (part_of (record_kind here)) ≡ b → is_end (part_of (record_kind here)) ≡ true
  end-here stops z true t = t
  end-here stops z false t =
      let u : ◌≡◌ {A = ℕ} 0 1 = cc (sym stops ∙ ap₂ (λ (a b : Bool). a && not b) (eq-eqb (refusal p.state here) 0 z) t) in
      absurd (omega arith)

  pub no_more : (b : Bool) → ltb (p.at + 1) (length file) ≡ b → ◌≡◌ {A = ℕ} (cond b 10 0) 0 → length file ≤ p.at + 1
  no_more true t z = absurd (omega arith)
  no_more false t z = omega (arith, ltb-false (p.at + 1) (length file) t)

  reading_at-number : {m : Model} → reading_at file p ≡ Ok m → number_at file p ≡ 0
  reading_at-number e = sym (reading_at-tells file p).number_is ∙ ap status_number e

  reading_at-model : {m : Model} → reading_at file p ≡ Ok m → m ≡ p.state.model
  unfolding reading_at
  reading_at-model e =
      let is = ap (λ (b : Bool). cond b (read_as p.state.model) (refused (number_at file p) (offset_at file p))) (eq-eqb (number_at file p) 0 (reading_at-number e)) in
      cc

  reading_at-reached : Reachable p → goes_on p.state here ≡ false → {m : Model} → reading_at file p ≡ Ok m → Reached file m
  unfolding number_at
  reading_at-reached r stops e =
      let n = reading_at-number e in
      let both = first_of-zero (refusal p.state here) _ n in
      let w = whole-of-refusal p.state here both.0 in
      let allowed = (refusal-zero p.state (record_kind here) (record_body here) (sym (ap (refusal p.state) w) ∙ both.0)).0 in
      record {
        last = p;
        reachable = r;
        ends = end-place (part_of (record_kind here)) p.state.place (layout_of (record_kind here)) (end-here stops both.0 (is_end (part_of (record_kind here))) refl) (order-fact p.state.place (record_kind here) (kind_number-zero p.state (record_kind here) allowed).0);
        length-le = no_more (ltb (p.at + 1) (length file)) refl both.1;
        model_is = reading_at-model e;
      }

-- Where a file is read, nothing is refused at the end record, and its model is that of the state before it.
pub read_from-number : (file : List ℕ) (at : ℕ) (s : State) {m : Model} → read_from file at s ≡ Ok m → number_at file (stop_from file at s) ≡ 0
unfolding read_from
read_from-number file at s e = reading_at-number file (stop_from file at s) e

pub read_from-model : (file : List ℕ) (at : ℕ) (s : State) {m : Model} → read_from file at s ≡ Ok m → m ≡ (stop_from file at s).state.model
unfolding read_from
read_from-model file at s e = reading_at-model file (stop_from file at s) e

pub reachable-stop : (file : List ℕ) (turns : ℕ) → Reachable (stop_for turns file 0 start)
reachable-stop file turns = stop_for-ind file Reachable (reachable-next file) turns 0 start reachable-start

pub read_model-reached : (file : List ℕ) {m : Model} → read_model file ≡ Ok m → Reached file m
unfolding read_model read_from
read_model-reached file e =
    reading_at-reached file (stop_from file 0 start) (reachable-stop file (suc (length file - 0))) (stop_for-stops file (suc (length file - 0)) 0 start (omega arith)) e

-- ---- a model that was read is accepted: number 11 never follows a good read

accepted-state : (s : State) → AcceptedSoFar s → direction_place ≤ s.place → accepted s.model ≡ true
accepted-state s g late =
    accepted-of s.model (record {
      motion = motion_ok-of s.model.n s.model.steps s.model.motion (g.frame.dimension (omega arith)) (g.frame.steps-ok (omega arith)) matrix-passes;
      initial = g.initial.done (is_done-late initial_place s.place (omega arith));
      input = g.input.done (is_done-late input_place s.place (omega arith));
      drift = ap₂ ◌&&◌ beyond (g.drift.entering (is_done-late input_place s.place (omega arith)));
      questions = ap₂ ◌&&◌ directions (guards_ok-of s.model.questions.directions s.model.questions.guards s.model.questions.watched s.model.questions.levels g.guards.few g.guards.guarded);
    })
  where
    matrix-passes : matrix_ok s.model.n (rows_of s.model.motion) ≡ true
    matrix-passes =
        ap₂ ◌&&◌ (all_between-of entry_limit (rows_of s.model.motion) g.frame.matrix-small)
        (zero_outside-of s.model.n s.model.n (rows_of s.model.motion) (subst (λ (k : ℕ). Zeros k s.model.n (rows_of s.model.motion)) (g.frame.all (omega arith)) g.frame.matrix-zeros))

    beyond : zero_outside 1 s.model.n s.model.drift ≡ true
    beyond =
        zero_outside-of 1 s.model.n s.model.drift
        (record {
          row = λ p i l h. g.drift.beyond (6 * p + i) (omega (arith, n-most s.model.n (g.frame.dimension (omega arith))));
          column = λ p i l h. g.drift.beyond (6 * p + i) (omega arith);
        })

    directions : directions_ok s.model.n s.model.questions.directions s.model.questions.entries ≡ true
    directions =
        ap₂ ◌&&◌ (ap₂ ◌&&◌ (le-leb 1 s.model.questions.directions (g.directions.some late)) (le-leb s.model.questions.directions 16 g.directions.few))
        (ap₂ ◌&&◌ (zero_outside-of s.model.questions.directions s.model.n s.model.questions.entries g.directions.entries-zeros)
        (ap₂ ◌&&◌ (all_between-of direction_limit s.model.questions.entries g.directions.entries-small) (some_nonzero-of s.model.questions.directions s.model.questions.entries g.directions.nonzero)))

pub read_model-accepted : (file : List ℕ) {m : Model} → read_model file ≡ Ok m → accepted m ≡ true
read_model-accepted file e =
    let r = read_model-reached file e in
    ap accepted r.model_is ∙ accepted-state r.last.state r.reachable.so_far r.ends

-- ---- File 9

pub read_model-length : (file : List ℕ) {m : Model} → read_model file ≡ Ok m → length file ≤ 1690
read_model-length file e =
    let r = read_model-reached file e in
    omega (arith, r.length-le, r.reachable.within, used_le r.last.state r.reachable.so_far)

-- ---- Reading 4: the first 2,048 bytes settle the reply

module _ (file : List ℕ) where
  abbrev first : List ℕ
  first = take 2048 file

  module _ (p : Stop) (r : Reachable p) where
    small : p.at ≤ 1689
    small = omega (arith, r.within, used_le p.state r.so_far)

    same-record : record_at first p.at ≡ record_at file p.at
    same-record = record_at-take 2048 file p.at (reaches-of-le 2048 file p.at (omega (arith, small)))

    same_test : ltb (p.at + 1) (length first) ≡ ltb (p.at + 1) (length file)
    same_test = elim (dec_lt (p.at + 1) (length file)) [ yes h ↦ lt-ltb (p.at + 1) (length first) (simp length-take (omega (arith, small))) ∙ sym (lt-ltb (p.at + 1) (length file) h) | no k ↦ le-ltb (p.at + 1) (length first) (simp length-take (omega (arith, k))) ∙ sym (le-ltb (p.at + 1) (length file) (omega (arith, k))) ]

    same-offset : cond (ltb p.at (length first)) p.at (length first) ≡ cond (ltb p.at (length file)) p.at (length file)
    same-offset = elim (dec_lt p.at (length file)) [ yes h ↦ simp (lt-ltb p.at (length file) h, lt-ltb p.at (length first) (simp length-take (omega (arith, small)))) | no k ↦ ap (λ (n : ℕ). cond (ltb p.at n) p.at n) (ap length (take_all 2048 file (omega (arith, k, small)))) ]

    reading_at-take : reading_at first p ≡ reading_at file p
    unfolding reading_at number_at offset_at
    reading_at-take =
        ap₂ (λ (n o : ℕ). cond (eqb n 0) (read_as p.state.model) (refused n o))
        (ap₂ (λ (x : Record) (b : Bool). first_of (refusal p.state x) (cond b 10 0)) same-record same_test)
        (ap₂ (λ (x : Record) (o : ℕ). cond (eqb (refusal p.state x) 0) (p.at + 1) o) same-record same-offset)

  stop_for-take : (turns at : ℕ) (s : State) → Reachable (stop_here at s) → stop_for turns first at s ≡ stop_for turns file at s
  unfolding stop_for
  stop_for-take zero at s r = refl
  stop_for-take (suc turns) at s r =
      ap (λ (x : Record). cond (goes_on s x) (stop_for turns first (behind at x) (stored_record s x)) (stop_here at s)) (same-record (stop_here at s) r)
      ∙ split (goes_on s (record_at file at)) refl (λ q. stop_for-take turns (behind at (record_at file at)) (stored_record s (record_at file at)) q)
    where
      split : (b : Bool) → goes_on s (record_at file at) ≡ b → (Reachable (stop_here (behind at (record_at file at)) (stored_record s (record_at file at))) → stop_for turns first (behind at (record_at file at)) (stored_record s (record_at file at)) ≡ stop_for turns file (behind at (record_at file at)) (stored_record s (record_at file at))) → cond b (stop_for turns first (behind at (record_at file at)) (stored_record s (record_at file at))) (stop_here at s) ≡ cond b (stop_for turns file (behind at (record_at file at)) (stored_record s (record_at file at))) (stop_here at s)
      split true t go = go (reachable-next file at s (record_kind (record_at file at)) (record_body (record_at file at)) r (goes_on-true file at s t))
      split false t go = refl

  pub read_model-take : read_model first ≡ read_model file
  unfolding read_model read_from
  read_model-take =
      ap (reading_at first)
      (stop_for-enough first (suc (length first - 0)) (suc (length file - 0)) 0 start (omega arith) (simp length-take (omega arith))
      ∙ stop_for-take (suc (length file - 0)) 0 start reachable-start)
      ∙ reading_at-take (stop_from file 0 start) (reachable-stop file (suc (length file - 0)))
