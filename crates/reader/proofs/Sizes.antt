-- How many bytes of a file the reader can have passed, by what it has read. In order: the longest body of each part; the count; that
-- each record adds at least its own bytes; the largest count. Assumes nothing.
use mathlib.Core.Path.{◌≡◌, refl, sym, ap₂, ap, subst}
use mathlib.Core.Bool.{Bool, true, false, cond, ◌&&◌}
use mathlib.Core.List.{List}
use Prim.Native.Nat.{ℕ, ◌+◌, ◌*◌, ◌≤◌, ◌<◌}
use native.Mathlib.Decide.{dec_lt}
use native.Mathlib.Omega.{arith}
use borrow.Author.Tests.{ne_eqb, eqb-true, leb-true, ltb-true, lt-ltb, le-ltb}
use lib.Dec.{eqb, leb, ltb}
use lib.ListN.{length}
use Rattle.integers.proofs.Booleans.{and-true}
use Rattle.records.specs.declared.kinds.Layout.{Layout}
use Rattle.records.specs.declared.kinds.Part.{Part}
use Rattle.records.specs.declared.kinds.Part.TheVariants.{Head, Row, Drift, Initial, Input, Direction, Guard, End}
use Rattle.records.specs.Places.{start_place, rows_place, matrix_place, drift_place, initial_place, input_place, direction_place, guard_place}
use Rattle.records.specs.Kinds.{body_bytes, body_length, layout_of, part_of}
use Rattle.records.specs.Order.{may_follow}
use Rattle.records.proofs.KnownKinds.{known_at, known-length}
use Rattle.reachability.specs.Sets.{zero_box}
use Rattle.reader.specs.declared.state.State.{State}
use Rattle.filling.specs.Models.{blank_set, blank_model, input_at}
use Rattle.reader.specs.Models.{start, row_place, with_head, with_row, with_drift, with_point, with_set_point, with_direction, with_guard}
use Rattle.reader.specs.Refusals.{stored_in, stored}
use Rattle.reader.proofs.OrderFacts.{is_plain, point_fact, point-of, point-low, fact, order-fact}
use Rattle.reader.proofs.PartsSoFar.{n-most, none-count}
use Rattle.reader.proofs.AcceptedSoFar.{AcceptedSoFar}
use Rattle.reader.specs.Reading.{is_end}

-- ---- the longest body of each part

unfoldable pub length_of : Part → ℕ
length_of Head = 3
length_of Row = 49
length_of Drift = 24
length_of Initial = 24
length_of Input = 24
length_of Direction = 24
length_of Guard = 9
length_of End = 0

pub body_length-part : (kind n : ℕ) → body_length kind ≡ body_bytes n → n ≤ length_of (part_of kind)
unfolding length_of
body_length-part kind n e =
    omega (arith, known-length kind n e, leb-true (layout_of kind).length (length_of (part_of kind)) (known_at kind n e (λ k l. leb l.length (length_of l.part)) refl))

-- ---- the count

-- At most 4 bytes for the head, 25 for the drift, told or not, 50 for a row, 25 for a point or a direction, 10 for a guard.
abbrev started : ℕ → ℕ
started place = cond (eqb place start_place) 0 (cond (ltb place drift_place) 4 29)

unfoldable pub used : State → ℕ
used s = started s.place + 50 * s.rows + 25 * (s.model.initial.count + s.model.input.count + s.model.questions.directions) + 10 * s.model.questions.guards

started-early : (place : ℕ) → start_place < place → place < drift_place → started place ≡ 4
started-early place h l = ap₂ (λ (a b : Bool). cond a 0 (cond b 4 29)) (ne_eqb place start_place (λ e. omega arith)) (lt-ltb place drift_place l)

started-late : (place : ℕ) → drift_place ≤ place → started place ≡ 29
started-late place h = ap₂ (λ (a b : Bool). cond a 0 (cond b 4 29)) (ne_eqb place start_place (λ e. omega arith)) (le-ltb place drift_place h)

started-le : (place : ℕ) → started place ≤ 29
started-le place = split (eqb place start_place) (ltb place drift_place)
  where
    split : (a b : Bool) → cond a 0 (cond b 4 29) ≤ 29
    split true b = omega arith
    split false true = omega arith
    split false false = omega arith

started-row : (l : Layout) (rows n : ℕ) → l.place ≡ matrix_place → started (row_place l rows n) ≡ 4
started-row l rows n next = split (ltb rows n)
  where
    split : (b : Bool) → started (cond b rows_place l.place) ≡ 4
    split true = refl
    split false = ap started next

module _ (s : State) (l : Layout) (body : List ℕ) (g : AcceptedSoFar s) where
  used-first : l.place ≡ rows_place → length body ≤ 3 → used start + (1 + length body) ≤ used (with_head start l body)
  unfolding used start blank_model blank_set with_head
  used-first next n = omega (arith, ap started next)

  used-head : s.place ≡ start_place → l.place ≡ rows_place → length body ≤ 3 → used s + (1 + length body) ≤ used (with_head s l body)
  used-head e next n = subst (λ (x : State). used x + (1 + length body) ≤ used (with_head x l body)) (sym (g.first e)) (used-first next n)

  module _ (late : start_place < s.place) (early : s.place < drift_place) where
    used-row : l.place ≡ matrix_place → length body ≤ 49 → used s + (1 + length body) ≤ used (with_row s l body)
    unfolding used with_row
    used-row next n = omega (arith, started-row l (s.rows + 1) s.model.n next, started-early s.place late early)

    used-drift : drift_place ≤ l.place → length body ≤ 24 → used s + (1 + length body) ≤ used (with_drift s l body)
    unfolding used with_drift
    used-drift new n = omega (arith, started-late l.place new, started-early s.place late early)

  module _ (new : drift_place ≤ l.place) where
    used-point : (input : Bool) → length body ≤ 24 → used s + (1 + length body) ≤ used (with_set_point input s l body)
    unfolding used with_set_point with_point
    used-point false n = omega (arith, started-late l.place new, started-le s.place)
    used-point true n = omega (arith, started-late l.place new, started-le s.place)

    -- straight after the initial set a direction brings the points of the input set too
    input-more : s.model.input.count ≤ (input_at s.place s.model).count
    unfolding zero_box
    input-more = split (ltb s.place input_place) refl
      where
        split : (b : Bool) → ltb s.place input_place ≡ b → s.model.input.count ≤ (cond b zero_box s.model.input).count
        split true e = omega (arith, none-count g.input (ltb-true s.place input_place e))
        split false e = omega arith

    used-direction : length body ≤ 24 → used s + (1 + length body) ≤ used (with_direction s l body)
    unfolding used with_direction
    used-direction n = omega (arith, started-late l.place new, started-le s.place, input-more)

    used-guard : length body ≤ 9 → used s + (1 + length body) ≤ used (with_guard s l body)
    unfolding used with_guard
    used-guard n = omega (arith, started-late l.place new, started-le s.place)

  used-part : (p : Part) → fact p s.place l ≡ true → is_end p ≡ false → length body ≤ length_of p → used s + (1 + length body) ≤ used (stored_in p s l body)
  unfolding length_of fact
  used-part Head f ne n =
      let both = and-true (eqb s.place start_place) (eqb l.place rows_place) f in
      used-head (eqb-true s.place start_place both.0) (eqb-true l.place rows_place both.1) n
  used-part Row f ne n =
      let both = and-true (eqb s.place rows_place) (eqb l.place matrix_place) f in
      let at = eqb-true s.place rows_place both.0 in
      used-row (omega arith) (omega arith) (eqb-true l.place matrix_place both.1) n
  used-part Drift f ne n =
      let a = and-true (eqb s.place matrix_place) (eqb l.place drift_place && is_plain l) f in
      let at = eqb-true s.place matrix_place a.0 in
      let next = eqb-true l.place drift_place (and-true (eqb l.place drift_place) (is_plain l) a.1).0 in
      used-drift (omega arith) (omega arith) (omega arith) n
  used-part Initial f ne n =
      let of = point-of initial_place s.place l (and-true (point_fact initial_place s.place l) _ f).0 in
      used-point (omega (arith, point-low of)) false n
  used-part Input f ne n =
      let of = point-of input_place s.place l (and-true (point_fact input_place s.place l) _ f).0 in
      used-point (omega (arith, point-low of)) true n
  used-part Direction f ne n =
      let next = eqb-true l.place direction_place (and-true (eqb l.place direction_place) (is_plain l) (and-true (eqb l.place direction_place && is_plain l) _ f).0).0 in
      used-direction (omega arith) n
  used-part Guard f ne n =
      let next = eqb-true l.place guard_place (and-true (eqb l.place guard_place) (leb direction_place s.place) f).0 in
      used-guard (omega arith) n
  used-part End f ne n = let z : ◌≡◌ {A = ℕ} 0 1 = cc in absurd (omega arith)

pub used-stored : (s : State) (kind : ℕ) (body : List ℕ) → AcceptedSoFar s → may_follow s.place kind ≡ true → is_end (part_of kind) ≡ false → body_length kind ≡ body_bytes (length body) → used s + (1 + length body) ≤ used (stored s kind body)
unfolding stored
used-stored s kind body g m ne known =
    used-part s (layout_of kind) body g (part_of kind) (order-fact s.place kind m) ne (body_length-part kind (length body) known)

-- ---- the largest count

rows-le : (s : State) → AcceptedSoFar s → s.rows ≤ 6
unfolding start
rows-le s g = elim (dec_lt start_place s.place) [ yes h ↦ elim (dec_lt rows_place s.place) [ yes l ↦ omega (arith, g.frame.all l, n-most s.model.n (g.frame.dimension h)) | no k ↦ omega (arith, g.frame.few (omega (arith, k)), n-most s.model.n (g.frame.dimension h)) ] | no k ↦ omega (arith, ap (λ (x : State). x.rows) (g.first (omega (arith, k)))) ]

pub used_le : (s : State) → AcceptedSoFar s → used s ≤ 1689
unfolding used
used_le s g =
    omega (arith, started-le s.place, rows-le s g, g.initial.held.most, g.input.held.most, g.directions.few, g.guards.few)
