-- File 10: files in which a direction stands straight after a complete initial set, by the law of a part that is left out. In order: where
-- the initial set is complete; what the two records of zero corners and the direction make of the state there; the reading of the file with
-- the two records, the input set of its model, and that model's runs (Runs 8); files that are refused before. Assumes nothing.
use mathlib.Core.Path.{◌≡◌, refl, sym, ap, ap₂, subst, ◌∙◌}
use mathlib.Core.Bool.{Bool, true, false, cond, ◌&&◌, ◌||◌}
use mathlib.Core.List.{List, ◌∷◌, ◌++◌, append_assoc}
use Prim.Native.Nat.{ℕ, ◌+◌, ◌≤◌, ◌<◌}
use native.Mathlib.Omega.{arith}
use borrow.Author.Tests.{eqb-true, lt-ltb, ltb-true, le-leb, leb-true}
use lib.Dec.{eqb, leb, ltb}
use lib.ListN.{length, drop}
use lib.IntN.{ℤ, pos}
use Rattle.integers.specs.Sums.{all_below}
use Rattle.integers.proofs.Booleans.{and-true}
use Rattle.arrays.specs.Tests.{first_of}
use Rattle.records.specs.declared.kinds.Layout.{Layout}
use Rattle.records.specs.declared.kinds.Part.{Part}
use Rattle.records.specs.declared.kinds.Part.TheVariants.{Head, Row, Drift, Initial, Input, Direction, Guard, End}
use Rattle.records.specs.Places.{start_place, rows_place, matrix_place, drift_place, initial_place, input_place, direction_place}
use Rattle.records.specs.Kinds.{body_length, layout_of, part_of}
use Rattle.records.specs.Order.{may_follow}
use Rattle.records.specs.Records.{record_at, record_kind}
use Rattle.records.proofs.RecordAt.{Reaches}
use Rattle.reachability.specs.declared.sets.Shape.{Shape}
use Rattle.reachability.specs.declared.sets.Shape.TheVariants.{Box}
use Rattle.reachability.specs.declared.sets.Set.{Set}
use Rattle.reachability.specs.declared.model.Model.{Model}
use Rattle.reachability.specs.Sets.{zero_box}
use Rattle.reachability.specs.Runs.{Run}
use Rattle.reachability.proofs.ZeroInput.{inputs-zero}
use Rattle.columns.specs.Columns.{unused_zero, six_at}
use Rattle.columns.proofs.ColumnLaws.{unused_zero-of}
use Rattle.std.specs.Prelude.{Ok}
use Rattle.reader.specs.declared.state.State.{State}
use Rattle.filling.specs.Models.{shape_of, zeros, blank_set, put_row, set_set, input_at}
use Rattle.reader.specs.Models.{set_directions, start, state_of, with_head, with_row, with_drift, with_point, with_set_point, with_direction, with_guard}
use Rattle.reader.specs.Values.{point_ok, entering_point_ok, unless, point_number_of, value_number, body_number}
use Rattle.reader.specs.Refusals.{count_of, kind_number, refusal, stored_in, stored}
use Rattle.reader.specs.Reading.{is_end, stop_for, read_from, read_model}
use Rattle.reader.specs.LeftOut.{LeftOutAt, zero_body, put_in, moved}
use Rattle.reader.specs.NoInput.{completes_initial, NoInputAt, zero_corners}
use Rattle.reader.proofs.BodyNumbers.{body_number-value}
use Rattle.reader.proofs.OrderFacts.{is_plain, point_fact, point-of, point-high, fact, order-fact}
use Rattle.reader.proofs.RecordInPlace.{read_from-behind}
use Rattle.reader.proofs.ReadingRest.{read_from-refused-before}
use Rattle.reader.proofs.ZeroBody.{six_at-zeros, entry_zero-zeros}
use Rattle.reader.proofs.PartsSoFar.{n-most, entering-zeros}
use Rattle.reader.proofs.AcceptedSoFar.{AcceptedSoFar, ordered-zeros}
use Rattle.reader.proofs.ReadModels.{reachable-stop}
use Rattle.reader.proofs.LeftOut.{Follows, Skipped, Filled, Keeps, read_model-left-out, read_model-left-as}

-- ---- where the initial set is complete

-- what holds at the three places holds there
at_place : (test : ℕ → Bool) → test (initial_place + 1) ≡ true → test (initial_place + 3) ≡ true → test (initial_place + 4) ≡ true → (place : ℕ) → completes_initial place ≡ true → test place ≡ true
at_place test a b d place complete = by (eqb place (initial_place + 1)) refl (eqb place (initial_place + 3)) refl complete
  where
    is : (k : ℕ) → eqb place k ≡ true → test k ≡ true → test place ≡ true
    is k e t = ap test (eqb-true place k e) ∙ t

    by : (x : Bool) → eqb place (initial_place + 1) ≡ x → (y : Bool) → eqb place (initial_place + 3) ≡ y → x || (y || eqb place (initial_place + 4)) ≡ true → test place ≡ true
    by true e y f t = is (initial_place + 1) e a
    by false e true f t = is (initial_place + 3) f b
    by false e false f t = is (initial_place + 4) t d

complete-early : (place : ℕ) → completes_initial place ≡ true → place < input_place
complete-early place e = ltb-true place input_place (at_place (λ k. ltb k input_place) refl refl refl place e)

-- The input set may begin there, and directions stand behind it.
skipped : Skipped completes_initial (input_place + 1) direction_place
unfolding all_below may_follow layout_of
skipped = record { early = λ place e. omega (arith, complete-early place e); on = refl; back = refl }

-- What stands there and behind the input set is a direction.
direction-only : (p : Part) (place : ℕ) (l : Layout) → place < input_place → direction_place ≤ l.place → fact p place l ≡ true → p ≡ Direction
unfolding fact
direction-only Head place l e k f = absurd (omega (arith, eqb-true l.place rows_place (and-true (eqb place start_place) (eqb l.place rows_place) f).1))
direction-only Row place l e k f = absurd (omega (arith, eqb-true l.place matrix_place (and-true (eqb place rows_place) (eqb l.place matrix_place) f).1))
direction-only Drift place l e k f =
    absurd (omega (arith, eqb-true l.place drift_place (and-true (eqb l.place drift_place) (is_plain l) (and-true (eqb place matrix_place) (eqb l.place drift_place && is_plain l) f).1).0))
direction-only Initial place l e k f = absurd (omega (arith, point-high (point-of initial_place place l (and-true (point_fact initial_place place l) _ f).0)))
direction-only Input place l e k f = absurd (omega (arith, point-high (point-of input_place place l (and-true (point_fact input_place place l) _ f).0)))
direction-only Direction place l e k f = refl
direction-only Guard place l e k f = absurd (omega (arith, leb-true direction_place place (and-true (eqb l.place _) (leb direction_place place) f).1))
direction-only End place l e k f = absurd (omega (arith, leb-true direction_place place f))

-- ---- a state straight after the initial set

-- A box of which so many corners are read, all of zeros.
abbrev zero_set : ℕ → Set
zero_set count = record { shape = Box; count = count; points = zeros 96 }

-- A state with this place and so many corners of zeros for its input set.
abbrev with_corners : State → ℕ → ℕ → State
with_corners s place count = state_of place s.rows (set_set true s.model (zero_set count))

module _ (s : State) (g : AcceptedSoFar s) (complete : completes_initial s.place ≡ true) where
  early : s.place < input_place
  early = complete-early s.place complete

  dimension : s.model.n ≤ 6
  dimension = n-most s.model.n (g.frame.dimension (ltb-true start_place s.place (at_place (λ k. ltb start_place k) refl refl refl s.place complete)))

  blank : s.model.input ≡ zero_set 0
  unfolding blank_set
  blank = g.input.none early

  -- a corner of zeros
  with-corner : (l : Layout) (count : ℕ) → shape_of l.point ≡ Box → l.first ≡ 0 → put_row (zeros 96) count (zeros 6) ≡ zeros 96 → with_point (zero_set count) l zero_body ≡ zero_set (count + 1)
  unfolding with_point
  with-corner l count box first still =
      ap₂ (λ (shape : Shape) (xs : List ℤ). record { shape = shape; count = count + 1; points = xs }) box
      (ap (put_row (zeros 96) count) (ap (six_at zero_body) first ∙ six_at-zeros) ∙ still)

  with-lower : with_point s.model.input (layout_of 0x20) zero_body ≡ zero_set 1
  unfolding put_row zeros layout_of
  with-lower = ap (λ (x : Set). with_point x (layout_of 0x20) zero_body) blank ∙ with-corner (layout_of 0x20) 0 refl refl refl

  with-upper : with_point (zero_set 1) (layout_of 0x21) zero_body ≡ zero_set 2
  unfolding put_row zeros layout_of
  with-upper = with-corner (layout_of 0x21) 1 refl refl refl

  lower-allowed : kind_number s 0x20 ≡ 0
  unfolding kind_number may_follow layout_of
  lower-allowed = ap₂ (λ (a : Bool) (x : Set). cond a (cond (leb 16 x.count) 9 0) 3) (at_place (λ k. may_follow k 0x20) refl refl refl s.place complete) blank

  -- a corner of zeros passes the test of number 17
  enters-ok : (count : ℕ) → 1 ≤ count → count ≤ 16 → entering_point_ok true (zero_set count) s.model.drift ≡ true
  enters-ok count a b = ap₂ ◌&&◌ (ap₂ ◌&&◌ (le-leb 1 count a) (le-leb count 16 b)) (entering-zeros g.drift count)

  -- and the other test settles its number
  corner-number : (l : Layout) (count : ℕ) {set : Set} → 1 ≤ count → count ≤ 16 → set ≡ zero_set count → point_ok s.model.n l.point (zero_set count) ≡ true → point_number_of true s.model.n l.point set s.model.drift ≡ 0
  corner-number l count a b e ok =
      ap (λ (x : Set). point_number_of true s.model.n l.point x s.model.drift) e
      ∙ ap₂ (λ (p q : Bool). first_of (unless p 6) (unless q 17)) ok (enters-ok count a b)

  lower-ok : body_number s 0x20 zero_body ≡ 0
  unfolding point_ok zeros all_below layout_of
  lower-ok =
      body_number-value s 0x20 zero_body (unused_zero-of s.model.n (layout_of 0x20) zero_body (λ i l. entry_zero-zeros i))
      ∙ corner-number (layout_of 0x20) 1 (omega arith) (omega arith) with-lower refl

  upper-allowed : kind_number (with_corners s input_place 1) 0x21 ≡ 0
  unfolding kind_number may_follow layout_of
  upper-allowed = refl

  upper-ok : body_number (with_corners s input_place 1) 0x21 zero_body ≡ 0
  unfolding point_ok zeros all_below layout_of
  upper-ok =
      body_number-value (with_corners s input_place 1) 0x21 zero_body (unused_zero-of s.model.n (layout_of 0x21) zero_body (λ i l. entry_zero-zeros i))
      ∙ corner-number (layout_of 0x21) 2 (omega arith) (omega arith) with-upper (ap₂ ◌&&◌ (le-leb s.model.n 6 dimension) (ordered-zeros s.model.n))

  lower-stored : stored s 0x20 zero_body ≡ with_corners s input_place 1
  unfolding stored layout_of with_set_point
  lower-stored = ap (λ (x : Set). state_of input_place s.rows (set_set true s.model x)) with-lower

  upper-stored : stored (with_corners s input_place 1) 0x21 zero_body ≡ with_corners s (input_place + 1) 2
  unfolding stored layout_of with_set_point
  upper-stored = ap (λ (x : Set). state_of (input_place + 1) s.rows (set_set true s.model x)) with-upper

  -- The two records are read wherever they stand.
  read-corners : (before rest : List ℕ) → read_from (before ++ (zero_corners ++ rest)) (length before) s ≡ read_from ((before ++ zero_corners) ++ rest) (length (before ++ zero_corners)) (with_corners s (input_place + 1) 2)
  unfolding body_length layout_of
  read-corners before rest =
      read_from-behind before 0x20 zero_body ((0x21 ∷ zero_body) ++ rest) s refl lower-allowed lower-ok refl
      ∙ ap (read_from ((before ++ (0x20 ∷ zero_body)) ++ ((0x21 ∷ zero_body) ++ rest)) (length (before ++ (0x20 ∷ zero_body)))) lower-stored
      ∙ read_from-behind (before ++ (0x20 ∷ zero_body)) 0x21 zero_body rest (with_corners s input_place 1) refl upper-allowed upper-ok refl
      ∙ ap₂ (λ (x : List ℕ) (t : State). read_from (x ++ rest) (length x) t) (append_assoc before (0x20 ∷ zero_body) (0x21 ∷ zero_body)) upper-stored

  -- A direction is tested and stored behind them as without them.
  abbrev filled_state : State
  filled_state = with_corners s (input_place + 1) 2

  zero-input : input_at s.place s.model ≡ zero_set 2
  unfolding zero_box zeros
  zero-input = ap (λ (b : Bool). cond b zero_box s.model.input) (lt-ltb s.place input_place early)

  direction-stored : (l : Layout) (body : List ℕ) → stored_in Direction s l body ≡ stored_in Direction filled_state l body
  unfolding with_direction
  direction-stored l body =
      ap (λ (x : Set). state_of l.place s.rows (set_directions (set_set true s.model x) (s.model.questions.directions + 1) (put_row s.model.questions.entries s.model.questions.directions (six_at body l.first)))) zero-input

  by_part : (kind : ℕ) → part_of kind ≡ Direction → Follows s filled_state kind
  unfolding body_number stored
  by_part kind e =
      record {
        other = ap is_end e;
        count_same = ap (λ (p : Part). count_of p s) e ∙ sym (ap (λ (p : Part). count_of p filled_state) e);
        body_same =
            λ body. ap (λ (p : Part). first_of (unless (unused_zero s.model.n (layout_of kind) body) 16) (value_number p s (layout_of kind) body)) e
            ∙ sym (ap (λ (p : Part). first_of (unless (unused_zero s.model.n (layout_of kind) body) 16) (value_number p filled_state (layout_of kind) body)) e);
        stored_same =
            λ body. ap (λ (p : Part). stored_in p s (layout_of kind) body) e ∙ direction-stored (layout_of kind) body
            ∙ sym (ap (λ (p : Part). stored_in p filled_state (layout_of kind) body) e);
      }

  filled : Filled direction_place s zero_corners filled_state
  filled = record { brings = read-corners; follows = λ kind m k. by_part kind (direction-only (part_of kind) s.place (layout_of kind) early k (order-fact s.place kind m)) }

-- ---- files in which a direction stands straight after a complete initial set

-- No record behind the input set changes a box from zero to zero.
abbrev ZeroInputIn : Model → Type 0
ZeroInputIn m = m.input ≡ zero_box

kept : Keeps direction_place (omega arith) ZeroInputIn
unfolding fact with_head with_row with_drift with_set_point with_direction with_guard
kept Head u l body k f z = z
kept Row u l body k f z = z
kept Drift u l body k f z = z
kept Initial u l body k f z = z
kept Input u l body k f z = absurd (omega (arith, point-high (point-of input_place u.place l (and-true (point_fact input_place u.place l) _ f).0)))
kept Direction u l body k f z = by (ltb u.place input_place)
  where
    by : (b : Bool) → cond b zero_box u.model.input ≡ zero_box
    by true = refl
    by false = z
kept Guard u l body k f z = z
kept End u l body k f z = z

-- the direction itself brings it
brought : (s : State) (l : Layout) (body : List ℕ) → s.place < input_place → (stored_in Direction s l body).model.input ≡ zero_box
unfolding with_direction
brought s l body early = ap (λ (b : Bool). cond b zero_box s.model.input) (lt-ltb s.place input_place early)

-- A place of such a file: where reading comes to after so many records, the initial set is complete, and a direction is next.
module _ (file : List ℕ) (turns : ℕ) (place : NoInputAt file (stop_for turns file 0 start)) where
  abbrev at : ℕ
  at = (stop_for turns file 0 start).at

  abbrev s : State
  s = (stop_for turns file 0 start).state

  so_far : AcceptedSoFar s
  so_far = (reachable-stop file turns).so_far

  direction-place : (l : Layout) → fact Direction s.place l ≡ true → direction_place ≤ l.place
  unfolding fact
  direction-place l f = omega (arith, eqb-true l.place direction_place (and-true (eqb l.place direction_place) (is_plain l) (and-true (eqb l.place direction_place && is_plain l) _ f).0).0)

  left_out : LeftOutAt completes_initial direction_place file (stop_for turns file 0 start)
  left_out =
      record {
        begins-here = place.complete;
        next-behind =
            λ m. direction-place (layout_of (record_kind (record_at file at)))
            (subst (λ (p : Part). fact p s.place (layout_of (record_kind (record_at file at))) ≡ true) place.direction (order-fact s.place (record_kind (record_at file at)) m));
      }

  -- The file is read as the file with two records of zero corners put before that direction: the same model, or the same number with
  -- the offset 50 higher.
  pub read_model-no-input : read_model (put_in zero_corners at file) ≡ moved 50 (read_model file)
  read_model-no-input = read_model-left-out file turns left_out skipped zero_corners (with_corners s (input_place + 1) 2) refl (filled s so_far place.complete)

  -- Its model, where it has one, has the box from zero to zero for its input set.
  pub read_model-zero-input : {m : Model} → read_model file ≡ Ok m → m.input ≡ zero_box
  unfolding stored
  read_model-zero-input =
      read_model-left-as file turns left_out (omega arith) ZeroInputIn kept
      (λ kind body m k.
      let e = direction-only (part_of kind) s.place (layout_of kind) (complete-early s.place place.complete) k (order-fact s.place kind m) in
      (ap is_end e, ap (λ (p : Part). (stored_in p s (layout_of kind) body).model.input) e ∙ brought s (layout_of kind) body (complete-early s.place place.complete)))

  -- Runs 8: its runs have no other input than zero.
  pub no-input-runs : {m : Model} → read_model file ≡ Ok m → {q : ℕ} (run : Run m q) (j : ℕ) → j < m.steps → (i : ℕ) → i < m.n → run.inputs j i ≡ pos 0
  no-input-runs {m} e run j h i l = inputs-zero m (read_model-zero-input e) run j h i l

-- File 10, File 15: of a file that is refused before such a place, bytes put in anywhere behind the record that it is refused at, the two
-- records before a later direction or a drift behind a later row among them, change nothing.
pub read_model-refused-before : (file more : List ℕ) (turns m : ℕ) → m ≤ length file → Reaches m file (stop_for turns file 0 start).at → (refusal (stop_for turns file 0 start).state (record_at file (stop_for turns file 0 start).at) ≡ 0 → ⊥) → read_model (put_in more m file) ≡ read_model file
unfolding read_model
read_model-refused-before file more turns m inside reach ne = read_from-refused-before file (more ++ drop m file) m inside turns 0 start reach ne
