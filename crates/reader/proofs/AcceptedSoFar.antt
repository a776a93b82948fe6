-- What every state that the reader reaches satisfies, and that each record that is not refused keeps it. In order: the start; each
-- kind of record; any record. Assumes nothing.
use mathlib.Core.Path.{◌≡◌, refl, sym, ap₂, subst, ◌∙◌}
use mathlib.Core.Bool.{Bool, true, false, cond, ◌&&◌, ◌||◌}
use mathlib.Core.List.{List}
use Prim.Native.Nat.{ℕ, ◌+◌, ◌*◌, ◌≤◌, ◌<◌}
use native.Mathlib.Omega.{arith}
use borrow.Author.Tests.{le-leb, leb-true, ltb-true, eqb-true, eqb-false}
use lib.Dec.{leb, ltb, eqb}
use lib.ListN.{length-set, replicate}
use lib.IntN.{nat_abs}
use lib.Signed.{le_z}
use Rattle.integers.specs.Sums.{all_below}
use Rattle.integers.proofs.Booleans.{and-true}
use Rattle.integers.proofs.Sums.{all_below-intro}
use Rattle.integers.proofs.Machine.{get_or-replicate-default}
use Rattle.arrays.proofs.Tests.{zero_outside-of}
use Rattle.arrays.proofs.FirstOf.{first_of-zero}
use Rattle.stepping.specs.Limits.{entry_limit}
use Rattle.stepping.specs.Refusals.{dimension_ok}
use Rattle.coefficients.specs.Entries.{entry_value}
use Rattle.coefficients.specs.Rows.{stored_six}
use Rattle.coefficients.proofs.RowLaws.{stored_six-within, stored_six-beyond, scaled_entry-ind, entry_of_bits-ind}
use Rattle.numbers.specs.Numbers.{little_endian, signed_at}
use Rattle.limits.specs.Limits.{direction_limit, steps_ok}
use Rattle.reachability.specs.declared.sets.Shape.TheVariants.{Box}
use Rattle.reachability.specs.Sets.{points, ordered_ok, zero_box}
use Rattle.records.specs.declared.kinds.Part.{Part}
use Rattle.records.specs.declared.kinds.Part.TheVariants.{Head, Row, Drift, Initial, Input, Direction, Guard, End}
use Rattle.reachability.specs.Motion.{rows_of}
use Rattle.reader.specs.declared.state.State.{State}
use Rattle.records.specs.declared.kinds.Layout.{Layout}
use Rattle.records.specs.Places.{start_place, rows_place, matrix_place, drift_place, initial_place, input_place, direction_place, guard_place}
use Rattle.records.specs.Kinds.{layout_of, part_of}
use Rattle.records.proofs.KnownKinds.{most-le}
use Rattle.columns.specs.Columns.{unused_zero, first_byte, six_at}
use Rattle.filling.specs.Models.{zeros, blank_set, blank_model, input_at}
use Rattle.reader.specs.Models.{start, usual_steps, default_steps, row_answer, row_place, with_head, with_row, with_drift, with_point, with_set_point, with_direction, with_guard}
use Rattle.reader.specs.Values.{head_ok, drift_ok, point_ok, entering_point_ok, direction_ok, guard_ok, value_number, body_number}
use Rattle.reader.specs.Refusals.{count_of, kind_number, stored_in, stored}
use Rattle.reader.proofs.BodyNumbers.{passed, body_number-zero}
use Rattle.reader.proofs.order.KindNumbers.{count-few, kind_number-zero}
use Rattle.reader.proofs.RowAnswers.{row_answer-ind}
use Rattle.reader.proofs.RowsOfSix.{vector-zeros, zeros-blank, small-blank, nonzero-none, guarded-more, guarded-set}
use Rattle.reader.proofs.OrderFacts.{is_done, is_done-late, is_done-early, is_plain, point_fact, PointOf, point-of, point-low, point-high, fact, order-fact}
use Rattle.reader.proofs.PartsSoFar.{Beyond, six_at-beyond, FrameAt, n-least, frame_on, frame_row, SetAt, set-early, set-late, set-point, DriftAt, drift-early, drift-blank, drift-new, drift-point, drift-late, drift-zero-box, DirectionsAt, directions-early, directions-late, directions-more, GuardsAt}

-- ---- the whole state

pub record AcceptedSoFar (s : State) : Type 0 where
  pub first : s.place ≡ start_place → s ≡ start
  pub frame : FrameAt s.place s.rows s.model.n s.model.steps (rows_of s.model.motion)
  pub initial : SetAt initial_place s.place s.model.n s.model.initial
  pub input : SetAt input_place s.place s.model.n s.model.input
  pub drift : DriftAt s.place s.model.n s.model.input s.model.drift
  pub directions : DirectionsAt s.place s.model.n s.model.questions.directions s.model.questions.entries
  pub guards : GuardsAt s.model.questions.directions s.model.questions.guards s.model.questions.watched s.model.questions.levels

-- corners of zeros are in order
pub ordered-zeros : (n : ℕ) → ordered_ok n Box (points (zeros 96)) ≡ true
ordered-zeros n = all_below-intro n (λ i. le_z (points (zeros 96) 0 i) (points (zeros 96) 1 i)) (λ i l. ap₂ le_z (vector-zeros 96 (6 * 0 + i)) (vector-zeros 96 (6 * 1 + i)))

blank-set : (base place n : ℕ) → place < base → SetAt base place n blank_set
unfolding zeros blank_set
blank-set base place n h =
    record {
      held = record { length-is = refl; outside = zeros-blank 96 0 n; most = omega arith };
      none = λ l. refl;
      box = λ e. absurd (omega arith);
      zonotope = λ l m. absurd (omega arith);
      vertices = λ e. absurd (omega arith);
      done = λ t. absurd (is_done-early base place (omega arith) t);
    }

-- File 10: behind a direction, the input set that no record told.
zero-box : (place n : ℕ) → input_place + 4 < place → SetAt input_place place n zero_box
unfolding zeros zero_box all_below
zero-box place n h =
    record {
      held = record { length-is = refl; outside = zeros-blank 96 2 n; most = omega arith };
      none = λ l. absurd (omega arith);
      box = λ e. absurd (omega arith);
      zonotope = λ l m. absurd (omega arith);
      vertices = λ e. absurd (omega arith);
      done = λ t. ap₂ ◌&&◌ (zero_outside-of 2 n (zeros 96) (zeros-blank 96 2 n)) (ordered-zeros n);
    }

blank-directions : (place n : ℕ) → place < direction_place → DirectionsAt place n 0 (zeros 96)
unfolding zeros
blank-directions place n h =
    record {
      entries-length = refl;
      entries-zeros = zeros-blank 96 0 n;
      entries-small = small-blank direction_limit 96;
      nonzero = nonzero-none (zeros 96);
      few = omega arith;
      some = λ l. absurd (omega arith);
    }

blank-guards : GuardsAt 0 0 (replicate 16 0) (zeros 16)
blank-guards =
    record {
      watched-length = refl;
      few = omega arith;
      guarded = record { on = λ g h. absurd (omega arith); none = λ g h. get_or-replicate-default {A = ℕ} 16 g 0; level = λ g h. vector-zeros 16 g };
    }

pub accepted_so_far-start : AcceptedSoFar start
unfolding zeros start blank_model
accepted_so_far-start =
    record {
      first = λ e. refl;
      frame =
          record {
            dimension = λ h. absurd (omega arith);
            steps-ok = λ h. absurd (omega arith);
            few = λ e. absurd (omega arith);
            all = λ h. absurd (omega arith);
            matrix-length = refl;
            matrix-zeros = zeros-blank 36 0 0;
            matrix-small = small-blank entry_limit 36;
          };
      initial = blank-set initial_place start_place 0 (omega arith);
      input = blank-set input_place start_place 0 (omega arith);
      drift = drift-blank start_place (omega arith);
      directions = blank-directions start_place 0 (omega arith);
      guards = blank-guards;
    }

-- ---- each kind of record

default_ok : (k : ℕ) → leb k 256 ≡ true → steps_ok (default_steps k) ≡ true
default_ok k h = split (eqb k 0) refl
  where
    split : (b : Bool) → eqb k 0 ≡ b → steps_ok (cond b usual_steps k) ≡ true
    split true e = refl
    split false e = ap₂ ◌&&◌ (le-leb 1 k (omega (arith, eqb-false k 0 e))) h

so-far-head : (l : Layout) (body : List ℕ) → l.place ≡ rows_place → head_ok body ≡ true → AcceptedSoFar (with_head start l body)
unfolding zeros start blank_model with_head
so-far-head l body next ok =
    let n = first_byte body in
    let both = and-true (dimension_ok n) (leb (little_endian 2 body 1) 256) ok in
    record {
      first = λ e. absurd (omega arith);
      frame =
          record {
            dimension = λ h. both.0;
            steps-ok = λ h. default_ok (little_endian 2 body 1) both.1;
            few = λ e. n-least n both.0;
            all = λ h. absurd (omega arith);
            matrix-length = refl;
            matrix-zeros = zeros-blank 36 0 n;
            matrix-small = small-blank entry_limit 36;
          };
      initial = blank-set initial_place l.place n (omega arith);
      input = blank-set input_place l.place n (omega arith);
      drift = drift-blank l.place (omega arith);
      directions = blank-directions l.place n (omega arith);
      guards = blank-guards;
    }

row-place-range : (l : Layout) (rows n : ℕ) → l.place ≡ matrix_place → (start_place < row_place l rows n) × (row_place l rows n < drift_place)
row-place-range l rows n next = split (ltb rows n)
  where
    split : (b : Bool) → (start_place < cond b rows_place l.place) × (cond b rows_place l.place < drift_place)
    split true = (omega arith, omega arith)
    split false = (omega arith, omega arith)

-- Limits 3: what a row stores, scaled or fitted, is within the limit
answer-within : (l : Layout) (body : List ℕ) (i : ℕ) → nat_abs (entry_value (row_answer l body i)) ≤ entry_limit
answer-within =
    row_answer-ind (λ a. nat_abs (entry_value a) ≤ entry_limit)
    (λ bits. entry_of_bits-ind (λ a. nat_abs (entry_value a) ≤ entry_limit) bits (λ h. h) (omega arith))
    (λ entry. scaled_entry-ind (λ a. nat_abs (entry_value a) ≤ entry_limit) entry (λ h. h) (omega arith))

module _ (s : State) (l : Layout) (body : List ℕ) (g : AcceptedSoFar s) where
  so-far-row : s.place ≡ rows_place → l.place ≡ matrix_place → AcceptedSoFar (with_row s l body)
  unfolding with_row
  so-far-row e next =
      let r = row-place-range l (s.rows + 1) s.model.n next in
      let p = row_place l (s.rows + 1) s.model.n in
      record {
        first = λ z. absurd (omega (arith, r.0));
        frame = frame_row g.frame l (stored_six s.model.n (row_answer l body)) e next (stored_six-within s.model.n (row_answer l body) (answer-within l body)) (stored_six-beyond s.model.n (row_answer l body));
        initial = set-early g.initial p (omega arith) (omega (arith, r.1));
        input = set-early g.input p (omega arith) (omega (arith, r.1));
        drift = drift-early p (omega (arith, r.1)) (λ k. g.drift.none (omega arith)) g.drift.beyond g.drift.small;
        directions = directions-early g.directions p (omega (arith, r.1));
        guards = g.guards;
      }

  so-far-drift : s.place ≡ matrix_place → l.place ≡ drift_place → Beyond s.model.n (six_at body l.first) → drift_ok l body ≡ true → AcceptedSoFar (with_drift s l body)
  unfolding with_drift
  so-far-drift e next beyond ok =
      record {
        first = λ z. absurd (omega arith);
        frame = frame_on g.frame l.place (omega arith) (omega arith);
        initial = set-early g.initial l.place (omega arith) (omega arith);
        input = set-early g.input l.place (omega arith) (omega arith);
        drift = drift-new l body (omega arith) (omega arith) beyond ok;
        directions = directions-early g.directions l.place (omega arith);
        guards = g.guards;
      }

  so-far-initial : PointOf initial_place s.place l → matrix_place ≤ s.place → s.place < input_place → s.model.initial.count < l.most → Beyond s.model.n (six_at body l.first) → point_ok s.model.n l.point (with_point s.model.initial l body) ≡ true → AcceptedSoFar (with_set_point false s l body)
  unfolding with_set_point
  so-far-initial of late early few beyond ok =
      let a = point-low of in
      let b = point-high of in
      record {
        first = λ z. absurd (omega arith);
        frame = frame_on g.frame l.place (omega arith) (omega arith);
        initial = set-point initial_place s.place s.model.n s.model.initial l body g.initial of few beyond ok;
        input = set-early g.input l.place early (omega arith);
        drift = drift-early l.place (omega arith) (λ k. absurd (omega arith)) g.drift.beyond g.drift.small;
        directions = directions-early g.directions l.place (omega arith);
        guards = g.guards;
      }

  so-far-input : PointOf input_place s.place l → is_done initial_place s.place ≡ true → matrix_place ≤ s.place → s.model.input.count < l.most → Beyond s.model.n (six_at body l.first) → point_ok s.model.n l.point (with_point s.model.input l body) ≡ true → entering_point_ok true (with_point s.model.input l body) s.model.drift ≡ true → AcceptedSoFar (with_set_point true s l body)
  unfolding with_set_point
  so-far-input of done late few beyond ok enters =
      let a = point-low of in
      let b = point-high of in
      record {
        first = λ z. absurd (omega arith);
        frame = frame_on g.frame l.place (omega arith) (omega arith);
        initial = set-late g.initial l.place (omega arith) done;
        input = set-point input_place s.place s.model.n s.model.input l body g.input of few beyond ok;
        drift = drift-point g.drift l body (omega arith) enters;
        directions = directions-early g.directions l.place (omega arith);
        guards = g.guards;
      }

  -- the input set that a direction finds or, straight after the initial set, leaves
  so-far-input-at : input_place + 4 < l.place → ltb s.place input_place || is_done input_place s.place ≡ true → SetAt input_place l.place s.model.n (input_at s.place s.model)
  so-far-input-at h t = split (ltb s.place input_place) refl t
    where
      split : (b : Bool) → ltb s.place input_place ≡ b → b || is_done input_place s.place ≡ true → SetAt input_place l.place s.model.n (cond b zero_box s.model.input)
      split true e t = zero-box l.place s.model.n h
      split false e t = set-late g.input l.place h t

  so-far-drift-at : input_place + 4 < l.place → ltb s.place input_place || is_done input_place s.place ≡ true → DriftAt l.place s.model.n (input_at s.place s.model) s.model.drift
  so-far-drift-at h t = split (ltb s.place input_place) t
    where
      split : (b : Bool) → b || is_done input_place s.place ≡ true → DriftAt l.place s.model.n (cond b zero_box s.model.input) s.model.drift
      split true t = drift-zero-box g.drift l.place (omega arith)
      split false t = drift-late g.drift l.place (omega arith) t

  so-far-direction : l.place ≡ direction_place → is_done initial_place s.place ≡ true → matrix_place ≤ s.place → ltb s.place input_place || is_done input_place s.place ≡ true → s.model.questions.directions < 16 → Beyond s.model.n (six_at body l.first) → direction_ok l body ≡ true → AcceptedSoFar (with_direction s l body)
  unfolding with_direction
  so-far-direction next done late input few beyond ok =
      record {
        first = λ z. absurd (omega arith);
        frame = frame_on g.frame l.place (omega arith) (omega arith);
        initial = set-late g.initial l.place (omega arith) done;
        input = so-far-input-at (omega arith) input;
        drift = so-far-drift-at (omega arith) input;
        directions = directions-more g.directions l body few beyond ok;
        guards = record { watched-length = g.guards.watched-length; few = g.guards.few; guarded = guarded-more _ _ _ _ g.guards.guarded };
      }

  so-far-guard : l.place ≡ guard_place → direction_place ≤ s.place → s.model.questions.guards < 16 → guard_ok s body ≡ true → AcceptedSoFar (with_guard s l body)
  unfolding with_guard
  so-far-guard next late few ok =
      record {
        first = λ z. absurd (omega arith);
        frame = frame_on g.frame l.place (omega arith) (omega arith);
        initial = set-late g.initial l.place (omega arith) (is_done-late initial_place s.place (omega arith));
        input = set-late g.input l.place (omega arith) (is_done-late input_place s.place (omega arith));
        drift = drift-late g.drift l.place (omega arith) (is_done-late input_place s.place (omega arith));
        directions = directions-late g.directions l.place late;
        guards =
            record {
              watched-length = length-set s.model.questions.watched s.model.questions.guards (first_byte body) ∙ g.guards.watched-length;
              few = omega arith;
              guarded =
                  guarded-set s.model.questions.directions s.model.questions.guards s.model.questions.watched s.model.questions.levels (first_byte body) (signed_at 8 body 1)
                  (omega (arith, g.guards.watched-length))
                  (ltb-true (first_byte body) s.model.questions.directions ok)
                  g.guards.guarded;
            };
      }

  so-far-part : (p : Part) → fact p s.place l ≡ true → count_of p s < l.most → l.most ≤ 16 → unused_zero s.model.n l body ≡ true → value_number p s l body ≡ 0 → AcceptedSoFar (stored_in p s l body)
  unfolding fact
  so-far-part Head f few most unused z =
      let both = and-true (eqb s.place start_place) (eqb l.place rows_place) f in
      subst (λ (x : State). AcceptedSoFar (with_head x l body)) (sym (g.first (eqb-true s.place start_place both.0))) (so-far-head l body (eqb-true l.place rows_place both.1) (passed (head_ok body) 4 (omega arith) z))
  so-far-part Row f few most unused z =
      let both = and-true (eqb s.place rows_place) (eqb l.place matrix_place) f in
      so-far-row (eqb-true s.place rows_place both.0) (eqb-true l.place matrix_place both.1)
  so-far-part Drift f few most unused z =
      let a = and-true (eqb s.place matrix_place) (eqb l.place drift_place && is_plain l) f in
      let b = and-true (eqb l.place drift_place) (is_plain l) a.1 in
      so-far-drift (eqb-true s.place matrix_place a.0) (eqb-true l.place drift_place b.0) (six_at-beyond s.model.n l body (eqb-true l.width 4 b.1) unused) (passed _ 17 (omega arith) z)
  so-far-part Initial f few most unused z =
      let a = and-true (point_fact initial_place s.place l) (leb matrix_place s.place && ltb s.place input_place) f in
      let b = and-true (leb matrix_place s.place) (ltb s.place input_place) a.1 in
      let of = point-of initial_place s.place l a.0 in
      so-far-initial of (leb-true matrix_place s.place b.0) (ltb-true s.place input_place b.1) few (six_at-beyond s.model.n l body of.plain unused) (passed _ 6 (omega arith) (first_of-zero _ _ z).0)
  so-far-part Input f few most unused z =
      let a = and-true (point_fact input_place s.place l) (is_done initial_place s.place && leb matrix_place s.place) f in
      let b = and-true (is_done initial_place s.place) (leb matrix_place s.place) a.1 in
      let of = point-of input_place s.place l a.0 in
      let numbers = first_of-zero _ _ z in
      so-far-input of b.0 (leb-true matrix_place s.place b.1) few (six_at-beyond s.model.n l body of.plain unused) (passed _ 6 (omega arith) numbers.0) (passed _ 17 (omega arith) numbers.1)
  so-far-part Direction f few most unused z =
      let a = and-true (eqb l.place direction_place && is_plain l) ((is_done initial_place s.place && leb matrix_place s.place) && (ltb s.place input_place || is_done input_place s.place)) f in
      let e = and-true (eqb l.place direction_place) (is_plain l) a.0 in
      let b = and-true (is_done initial_place s.place && leb matrix_place s.place) (ltb s.place input_place || is_done input_place s.place) a.1 in
      let d = and-true (is_done initial_place s.place) (leb matrix_place s.place) b.0 in
      so-far-direction (eqb-true l.place direction_place e.0) d.0 (leb-true matrix_place s.place d.1) b.1 (omega (arith, few, most)) (six_at-beyond s.model.n l body (eqb-true l.width 4 e.1) unused) (passed _ 7 (omega arith) z)
  so-far-part Guard f few most unused z =
      let a = and-true (eqb l.place guard_place) (leb direction_place s.place) f in
      so-far-guard (eqb-true l.place guard_place a.0) (leb-true direction_place s.place a.1) (omega (arith, few, most)) (passed _ 8 (omega arith) z)
  so-far-part End f few most unused z = g

pub accepted_so_far-stored : (s : State) (kind : ℕ) (body : List ℕ) → AcceptedSoFar s → kind_number s kind ≡ 0 → body_number s kind body ≡ 0 → AcceptedSoFar (stored s kind body)
unfolding stored
accepted_so_far-stored s kind body g k z =
    let both = kind_number-zero s kind k in
    let numbers = body_number-zero s kind body z in
    so-far-part s (layout_of kind) body g (part_of kind) (order-fact s.place kind both.0) (count-few s (layout_of kind) both.1) (most-le kind) numbers.0 numbers.1
