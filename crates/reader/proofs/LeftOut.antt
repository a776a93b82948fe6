-- Files in which a part that may be left out is left out: one law for every such part, over the rank of the first place behind it. In
-- order: a kind that follows in two states; what the order has to say of the part; records of the part; what no record behind the part
-- changes; the law. Assumes nothing.
use mathlib.Core.Path.{◌≡◌, refl, sym, ap, ap₂, subst, ◌∙◌}
use mathlib.Core.Bool.{Bool, true, false, cond, not, ◌&&◌, ◌||◌}
use mathlib.Core.List.{List, ◌++◌}
use Prim.Native.Nat.{ℕ, ◌+◌, ◌≤◌, ◌<◌}
use native.Mathlib.Omega.{arith}
use borrow.Author.Tests.{eq-eqb, eqb-true, le-leb, lt-ltb}
use lib.Dec.{eqb, leb}
use lib.ListN.{length}
use Rattle.integers.specs.Sums.{all_below}
use Rattle.integers.proofs.Booleans.{and-true, or-false}
use Rattle.integers.proofs.Sums.{all_below-at}
use Rattle.arrays.specs.Tests.{first_of}
use Rattle.records.specs.declared.kinds.Layout.{Layout}
use Rattle.records.specs.declared.kinds.Part.{Part}
use Rattle.records.specs.declared.kinds.Part.TheVariants.{Head, Row, Drift, Initial, Input, Direction, Guard, End}
use Rattle.records.specs.Places.{rows_place, matrix_place, input_place, direction_place}
use Rattle.records.specs.Kinds.{layout_of, part_of}
use Rattle.records.specs.Order.{order, may_follow}
use Rattle.records.specs.Records.{Record, whole, short, unknown, nothing, record_at, record_kind, record_body}
use Rattle.reachability.specs.declared.sets.Set.{Set}
use Rattle.reachability.specs.declared.model.Model.{Model}
use Rattle.reachability.specs.Sets.{zero_box}
use Rattle.columns.specs.Columns.{unused_zero, six_at}
use Rattle.std.specs.Prelude.{Ok}
use Rattle.reader.specs.declared.state.State.{State}
use Rattle.filling.specs.Models.{put_row, set_set, input_at}
use Rattle.reader.specs.Models.{set_directions, start, state_of, with_head, with_row, with_drift, with_set_point, with_direction, with_guard}
use Rattle.reader.specs.Values.{unless, row_number, value_number, body_number}
use Rattle.reader.specs.Refusals.{count_of, kind_number, refusal, stored_in, stored}
use Rattle.reader.specs.Reading.{is_end, stored_record, stop_for, read_from, read_model}
use Rattle.reader.specs.LeftOut.{LeftOutAt, put_in, moved}
use Rattle.reader.proofs.OrderFacts.{every, order-at, order-rises, fact, order-fact}
use Rattle.reader.proofs.order.KindNumbers.{kind_number-zero}
use Rattle.reader.proofs.ReadingOn.{refusal-whole-kind, refusal-zero, whole-of-refusal, read_from-alike}
use Rattle.reader.proofs.ReadModels.{end-place}
use Rattle.reader.proofs.Places.{read_model-put-in, read_model-behind}

-- ---- a kind that follows in two states

-- It is not the end; its part has equally many records; and a body of it has the same number, and leaves the same state.
pub record Follows (s t : State) (kind : ℕ) : Type 0 where
  pub other : is_end (part_of kind) ≡ false
  pub count_same : count_of (part_of kind) s ≡ count_of (part_of kind) t
  pub body_same : (body : List ℕ) → body_number s kind body ≡ body_number t kind body
  pub stored_same : (body : List ℕ) → stored s kind body ≡ stored t kind body

module _ (s t : State) (kind : ℕ) (may-same : may_follow s.place kind ≡ may_follow t.place kind) (follows : may_follow s.place kind ≡ true → Follows s t kind) where
  misplaced : (u : State) → may_follow u.place kind ≡ false → kind_number u kind ≡ 3
  unfolding kind_number
  misplaced u e = ap (λ (b : Bool). cond b (cond (leb (layout_of kind).most (count_of (part_of kind) u)) 9 0) 3) e

  kind-same : (b : Bool) → may_follow s.place kind ≡ b → kind_number s kind ≡ kind_number t kind
  unfolding kind_number
  kind-same true e = ap₂ (λ (b : Bool) (k : ℕ). cond b (cond (leb (layout_of kind).most k) 9 0) 3) may-same (follows e).count_same
  kind-same false e = misplaced s e ∙ sym (misplaced t (sym may-same ∙ e))

  whole_same : (body : List ℕ) (b : Bool) → may_follow s.place kind ≡ b → refusal s (whole kind body) ≡ refusal t (whole kind body)
  unfolding refusal
  whole_same body true e = ap₂ first_of (kind-same true e) ((follows e).body_same body)
  whole_same body false e = told s e ∙ sym (told t (sym may-same ∙ e))
    where
      told : (u : State) → may_follow u.place kind ≡ false → refusal u (whole kind body) ≡ 3
      told u f = let three = misplaced u f in refusal-whole-kind u kind body (λ z. omega arith) ∙ three

  short-same : refusal s (short kind) ≡ refusal t (short kind)
  unfolding refusal
  short-same = ap (λ (k : ℕ). first_of k 1) (kind-same (may_follow s.place kind) refl)

-- The record has the same number in both states.
number_same : (s t : State) (r : Record) → may_follow s.place (record_kind r) ≡ may_follow t.place (record_kind r) → (may_follow s.place (record_kind r) ≡ true → Follows s t (record_kind r)) → refusal s r ≡ refusal t r
unfolding refusal
number_same s t nothing m f = refl
number_same s t (unknown kind) m f = refl
number_same s t (short kind) m f = short-same s t kind m f
number_same s t (whole kind body) m f = whole_same s t kind m f body (may_follow s.place kind) refl

-- where it is not refused, it may stand there
may_of : (s : State) (r : Record) → refusal s r ≡ 0 → may_follow s.place (record_kind r) ≡ true
may_of s r z = (kind_number-zero s (record_kind r) (refusal-zero s (record_kind r) (record_body r) (sym (ap (refusal s) (whole-of-refusal s r z)) ∙ z)).0).0

-- an end stands behind a direction
pub no_end : (place kind : ℕ) → place < direction_place → may_follow place kind ≡ true → is_end (part_of kind) ≡ false
no_end place kind h m = by (is_end (part_of kind)) refl
  where
    by : (b : Bool) → is_end (part_of kind) ≡ b → b ≡ false
    by true e = absurd (omega (arith, end-place (part_of kind) place (layout_of kind) e (order-fact place kind m)))
    by false e = refl

-- Two states that differ in their place alone, both before the input set: a kind that is no end follows in both.
module _ (s : State) (place : ℕ) (early : s.place < input_place) (also : place < input_place) where
  abbrev t : State
  t = state_of place s.rows s.model

  count-alike : (p : Part) → count_of p s ≡ count_of p t
  count-alike Head = refl
  count-alike Row = refl
  count-alike Drift = refl
  count-alike Initial = refl
  count-alike Input = refl
  count-alike Direction = refl
  count-alike Guard = refl
  count-alike End = refl

  value-alike : (p : Part) (l : Layout) (body : List ℕ) → value_number p s l body ≡ value_number p t l body
  unfolding row_number
  value-alike Head l body = refl
  value-alike Row l body = refl
  value-alike Drift l body = refl
  value-alike Initial l body = refl
  value-alike Input l body = refl
  value-alike Direction l body = refl
  value-alike Guard l body = refl
  value-alike End l body = refl

  no-input-yet : input_at s.place s.model ≡ input_at place s.model
  no-input-yet = ap (λ (b : Bool). cond b zero_box s.model.input) (lt-ltb s.place input_place early) ∙ sym (ap (λ (b : Bool). cond b zero_box s.model.input) (lt-ltb place input_place also))

  stored-alike : (p : Part) (l : Layout) (body : List ℕ) → is_end p ≡ false → stored_in p s l body ≡ stored_in p t l body
  unfolding with_head with_row with_drift with_set_point with_direction with_guard
  stored-alike Head l body e = refl
  stored-alike Row l body e = refl
  stored-alike Drift l body e = refl
  stored-alike Initial l body e = refl
  stored-alike Input l body e = refl
  stored-alike Direction l body e =
      ap (λ (x : Set). state_of l.place s.rows (set_directions (set_set true s.model x) (s.model.questions.directions + 1) (put_row s.model.questions.entries s.model.questions.directions (six_at body l.first)))) no-input-yet
  stored-alike Guard l body e = refl
  stored-alike End l body e = let z : ◌≡◌ {A = ℕ} 0 1 = cc in absurd (omega arith)

  pub follows-place : (kind : ℕ) → is_end (part_of kind) ≡ false → Follows s t kind
  unfolding body_number stored
  follows-place kind e =
      record {
        other = e;
        count_same = count-alike (part_of kind);
        body_same = λ body. ap (first_of (unless (unused_zero s.model.n (layout_of kind) body) 16)) (value-alike (part_of kind) (layout_of kind) body);
        stored_same = λ body. stored-alike (part_of kind) (layout_of kind) body e;
      }

-- ---- what the order has to say of the part

-- The part begins before `rank`. A kind from `rank` on that may stand where the part begins may stand at `last`, behind records of the
-- part, and each kind that may stand there may stand wherever the part begins. Both are tests of `order`, which antt computes.
abbrev pub onward : (ℕ → Bool) → ℕ → ℕ → Bool
onward begins last rank = every (λ a b. not (begins a && leb rank (layout_of b).place) || may_follow last b) order

abbrev pub backward : (ℕ → Bool) → ℕ → ℕ → Bool
backward begins last rank = every (λ a b. not (eqb a last) || all_below rank (λ c. not (begins c) || may_follow c b)) order

pub record Skipped (begins : ℕ → Bool) (last rank : ℕ) : Type 0 where
  pub early : (place : ℕ) → begins place ≡ true → place < rank
  pub on : onward begins last rank ≡ true
  pub back : backward begins last rank ≡ true

module _ {begins : ℕ → Bool} {last rank : ℕ} (k : Skipped begins last rank) where
  -- so the next kind may stand at both places or at neither
  may-last : (place kind : ℕ) → begins place ≡ true → (may_follow place kind ≡ true → rank ≤ (layout_of kind).place) → may_follow place kind ≡ may_follow last kind
  may-last place kind here behind = by (may_follow place kind) refl (may_follow last kind) refl
    where
      forth : may_follow place kind ≡ true → may_follow last kind ≡ true
      forth m =
          or-false (not (begins place && leb rank (layout_of kind).place)) _ (order-at (λ a b. not (begins a && leb rank (layout_of b).place) || may_follow last b) k.on place kind m)
          (ap₂ (λ (a b : Bool). not (a && b)) here (le-leb rank (layout_of kind).place (behind m)))

      return : may_follow last kind ≡ true → may_follow place kind ≡ true
      return m =
          or-false (not (begins place)) _
          (all_below-at rank (λ c. not (begins c) || may_follow c kind)
          (or-false (not (eqb last last)) _ (order-at (λ a b. not (eqb a last) || all_below rank (λ c. not (begins c) || may_follow c b)) k.back last kind m) (ap not (eq-eqb last last refl)))
          place (k.early place here))
          (ap not here)

      by : (a : Bool) → may_follow place kind ≡ a → (b : Bool) → may_follow last kind ≡ b → may_follow place kind ≡ may_follow last kind
      by true e b f = e ∙ sym (forth e)
      by false e true f = return f ∙ sym f
      by false e false f = e ∙ sym f

-- ---- records of the part

-- Records of the part: at this state they are read wherever they stand, and lead to `t`; behind them a kind from `rank` on follows as
-- without them.
pub record Filled (rank : ℕ) (s : State) (more : List ℕ) (t : State) : Type 0 where
  pub brings : (before rest : List ℕ) → read_from (before ++ (more ++ rest)) (length before) s ≡ read_from ((before ++ more) ++ rest) (length (before ++ more)) t
  pub follows : (kind : ℕ) → may_follow s.place kind ≡ true → rank ≤ (layout_of kind).place → Follows s t kind

-- ---- what no record behind the part changes

module _ (rank : ℕ) (late : matrix_place < rank) (P : Model → Type 0) where
  -- No record from `rank` on changes it.
  abbrev pub Keeps : Type 0
  Keeps = (p : Part) (u : State) (l : Layout) (body : List ℕ) → rank ≤ l.place → fact p u.place l ≡ true → P u.model → P (stored_in p u l body).model

  record Since (u : State) : Type 0 where
    from : rank ≤ u.place
    holds : P u.model

  place-from : (p : Part) (u : State) (l : Layout) (body : List ℕ) → (is_end p ≡ true → rank ≤ u.place) → rank ≤ l.place → fact p u.place l ≡ true → rank ≤ (stored_in p u l body).place
  unfolding fact with_head with_row with_drift with_set_point with_direction with_guard
  place-from Head u l body h k f = k
  place-from Row u l body h k f = absurd (omega (arith, eqb-true l.place matrix_place (and-true (eqb u.place rows_place) (eqb l.place matrix_place) f).1))
  place-from Drift u l body h k f = k
  place-from Initial u l body h k f = k
  place-from Input u l body h k f = k
  place-from Direction u l body h k f = k
  place-from Guard u l body h k f = k
  place-from End u l body h k f = h refl

  since-stored : Keeps → (u : State) (kind : ℕ) (body : List ℕ) → kind_number u kind ≡ 0 → Since u → Since (stored u kind body)
  unfolding stored
  since-stored keeps u kind body allowed g =
      let m = (kind_number-zero u kind allowed).0 in
      let f = order-fact u.place kind m in
      let k = order-rises u.place kind m in
      record {
        from = place-from (part_of kind) u (layout_of kind) body (λ e. g.from) (omega (arith, g.from, k)) f;
        holds = keeps (part_of kind) u (layout_of kind) body (omega (arith, g.from, k)) f g.holds;
      }

  -- a kind that is no end brings it
  since-first : (u : State) (kind : ℕ) (body : List ℕ) → is_end (part_of kind) ≡ false → may_follow u.place kind ≡ true → rank ≤ (layout_of kind).place → P (stored u kind body).model → Since (stored u kind body)
  unfolding stored
  since-first u kind body other m k holds =
      record {
        from = place-from (part_of kind) u (layout_of kind) body (λ e. let z : ◌≡◌ {A = ℕ} 0 1 = cc in absurd (omega arith)) k (order-fact u.place kind m);
        holds = holds;
      }

-- ---- a file with the part left out

-- A place of it: where reading comes to after so many records.
module _ {begins : ℕ → Bool} {rank : ℕ} (file : List ℕ) (turns : ℕ) (place : LeftOutAt begins rank file (stop_for turns file 0 start)) where
  abbrev at : ℕ
  at = (stop_for turns file 0 start).at

  abbrev s : State
  s = (stop_for turns file 0 start).state

  abbrev here : Record
  here = record_at file at

  -- The file is read as with those records put in there: the same model, or the same number with the offset higher by their bytes.
  pub read_model-left-out : {last : ℕ} → Skipped begins last rank → (more : List ℕ) (t : State) → t.place ≡ last → Filled rank s more t → read_model (put_in more at file) ≡ moved (length more) (read_model file)
  read_model-left-out {last} k more t e f = read_model-put-in file turns more t f.brings (sym (read_from-alike file at s t same next))
    where
      may-same : may_follow s.place (record_kind here) ≡ may_follow t.place (record_kind here)
      may-same = may-last k s.place (record_kind here) place.begins-here place.next-behind ∙ ap (λ (p : ℕ). may_follow p (record_kind here)) (sym e)

      follows : may_follow s.place (record_kind here) ≡ true → Follows s t (record_kind here)
      follows m = f.follows (record_kind here) m (place.next-behind m)

      same : refusal s here ≡ refusal t here
      same = number_same s t here may-same follows

      next : refusal s here ≡ 0 → (is_end (part_of (record_kind here)) ≡ false) × (stored_record s here ≡ stored_record t here)
      next z = let w = follows (may_of s here z) in (w.other, w.stored_same (record_body here))

  -- What the next record brings to the model, and no record from `rank` on changes, holds of the model that is read.
  pub read_model-left-as : (late : matrix_place < rank) (P : Model → Type 0) → Keeps rank late P → ((kind : ℕ) (body : List ℕ) → may_follow s.place kind ≡ true → rank ≤ (layout_of kind).place → (is_end (part_of kind) ≡ false) × P (stored s kind body).model) → {m : Model} → read_model file ≡ Ok m → P m
  read_model-left-as late P keeps first e =
      let w = read_model-behind (Since rank late P) (since-stored rank late P keeps) file turns brings e in
      subst P (sym w.2) w.1.holds
    where
      brings : refusal s here ≡ 0 → (is_end (part_of (record_kind here)) ≡ false) × Since rank late P (stored_record s here)
      brings z =
          let m = may_of s here z in
          let k = place.next-behind m in
          let w = first (record_kind here) (record_body here) m k in
          (w.0, since-first rank late P s (record_kind here) (record_body here) w.0 m k w.1)
