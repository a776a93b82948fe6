-- Writing 3: the file of a model that is accepted is read as that model. Its parts are read one after the other, each from the state
-- that the one before has led to. Assumes nothing.
use mathlib.Core.Path.{◌≡◌, refl, sym, ap, ap₂, subst, ◌∙◌}
use mathlib.Core.Bool.{Bool, true, false, cond, not, ◌&&◌}
use mathlib.Core.List.{List}
use Prim.Native.Nat.{ℕ, ◌+◌, ◌*◌, ◌^◌, ◌≤◌, ◌<◌}
use native.Mathlib.Decide.{dec_lt}
use native.Mathlib.Omega.{arith}
use borrow.Author.Tests.{eqb-true, le-ltb, not-true}
use lib.Dec.{leb, ltb, eqb}
use lib.IntN.{ℤ, pos, neg_ℤ, nat_abs}
use lib.ListN.{length, get_or, replicate, get_or-eq_default}
use mir.Syntax.{w32}
use mir.Val.{hbits}
use Rattle.integers.specs.Sums.{vector}
use Rattle.integers.proofs.Booleans.{and-true}
use Rattle.integers.proofs.Machine.{sfits-of-nat_abs, zero-of-nat_abs}
use Rattle.integers.proofs.Sums.{all_below-at}
use Rattle.arrays.specs.Tests.{all_between, zero_outside}
use Rattle.arrays.proofs.Tests.{all_between-at, zero_outside-column}
use Rattle.stepping.specs.Limits.{entry_limit}
use Rattle.limits.specs.Limits.{direction_limit, all_zero, directions_ok, guard_ok, guards_ok}
use Rattle.reachability.specs.declared.sets.Shape.{Shape}
use Rattle.reachability.specs.declared.sets.Shape.TheVariants.{Box, Zonotope, Vertices}
use Rattle.reachability.specs.declared.sets.Set.{Set}
use Rattle.reachability.specs.declared.model.Model.{Model}
use Rattle.reachability.specs.Sets.{zero_box, reach_limit}
use Rattle.reachability.specs.Motion.{rows_of, matrix_at}
use Rattle.reachability.specs.Limits.{accepted}
use Rattle.reachability.proofs.model.Facts.{ModelFacts, model-facts, AcceptedParts, accepted-parts}
use Rattle.records.specs.Kinds.{layout_of}
use Rattle.records.specs.Places.{rows_place, matrix_place, drift_place, direction_place, guard_place}
use Rattle.records.specs.Order.{may_follow}
use Rattle.filling.specs.Models.{zeros, blank_set, blank_model, set_set, input_at}
use Rattle.filling.proofs.FromTheFront.{kept, kept-none, kept-all, rows_all}
use Rattle.reader.specs.declared.state.State.{State}
use Rattle.reader.specs.Models.{start, set_head, set_matrix, set_drift, set_directions, set_guards, state_of}
use Rattle.reader.specs.Reading.{read_as, read_model}
use Rattle.writer.specs.Writing.{is_zero_box, first_kind, other_kind, vector_records, head_record, row_records, drift_records, initial_records, input_records, direction_records, guard_records, file_of}
use Rattle.writer.specs.OneForm.{Stored}
use Rattle.writer.proofs.Leading.{Leads, leads-none, leads-then, leads-from, leads-to, leads-end}
use Rattle.writer.proofs.Bodies.{Fits32}
use Rattle.writer.proofs.ReadFrame.{head-leads, rows-lead, drift-leads}
use Rattle.writer.proofs.ReadPoints.{points-lead, so_far-none}
use Rattle.writer.proofs.ReadQuestions.{directions-lead, guards-lead, guards-end}

-- ---- small facts

fits-of : (limit : ℕ) (xs : List ℤ) → limit < 2 ^ hbits w32 → ((k : ℕ) → nat_abs (vector xs k) ≤ limit) → Fits32 xs
fits-of limit xs h small = record { at = λ p i l. sfits-of-nat_abs w32 (small (6 * p + i)) h }

-- a list of which nothing is put in yet
none_in : {A : Type 0} (z : A) (n : ℕ) (xs : List A) → length xs ≡ n → kept z 0 xs ≡ replicate n z
none_in z n xs e = kept-none z xs ∙ ap (λ (k : ℕ). replicate k z) e

-- Writing 2: the set that is left out is the one that a reader puts in.
zero-box-is : (s : Set) → length s.points ≡ 96 → is_zero_box s ≡ true → zero_box ≡ s
unfolding is_zero_box zero_box
zero-box-is s long z = by s.shape s.count s.points long z
  where
    by : (shape : Shape) (count : ℕ) (xs : List ℤ) → length xs ≡ 96 → is_zero_box (record { shape = shape; count = count; points = xs }) ≡ true → zero_box ≡ record { shape = shape; count = count; points = xs }
    by Box count xs e t =
        let both = and-true (eqb count 2) (zero_outside 0 0 xs) t in
        ap₂ (λ (c : ℕ) (l : List ℤ). record { shape = Box; count = c; points = l }) (sym (eqb-true count 2 both.0)) (sym (none_in (pos 0) 96 xs e) ∙ rows_all 0 0 xs both.1)
    by Zonotope count xs e t = absurd (let z : ◌≡◌ {A = ℕ} 0 1 = ap (λ (b : Bool). cond b 1 0) t in omega arith)
    by Vertices count xs e t = absurd (let z : ◌≡◌ {A = ℕ} 0 1 = ap (λ (b : Bool). cond b 1 0) t in omega arith)

-- File 5: a set may stand behind the rows or the drift, the next one behind it, and a direction behind either
initial-may : (b : Bool) (shape : Shape) → may_follow (cond b matrix_place drift_place) (first_kind 0x10 shape) ≡ true
unfolding may_follow
initial-may true Box = refl
initial-may true Zonotope = refl
initial-may true Vertices = refl
initial-may false Box = refl
initial-may false Zonotope = refl
initial-may false Vertices = refl

input-may : (before shape : Shape) → may_follow (layout_of (other_kind 0x10 before)).place (first_kind 0x20 shape) ≡ true
unfolding may_follow layout_of
input-may Box Box = refl
input-may Box Zonotope = refl
input-may Box Vertices = refl
input-may Zonotope Box = refl
input-may Zonotope Zonotope = refl
input-may Zonotope Vertices = refl
input-may Vertices Box = refl
input-may Vertices Zonotope = refl
input-may Vertices Vertices = refl

record MayAsk (place : ℕ) (own found : Set) : Type 0 where
  may : may_follow place 0x30 ≡ true
  input-is : (m : Model) → m.input ≡ own → input_at place m ≡ found

ask-early : (shape : Shape) (own : Set) → MayAsk (layout_of (other_kind 0x10 shape)).place own zero_box
unfolding may_follow layout_of
ask-early Box own = record { may = refl; input-is = λ m e. refl }
ask-early Zonotope own = record { may = refl; input-is = λ m e. refl }
ask-early Vertices own = record { may = refl; input-is = λ m e. refl }

ask-late : (shape : Shape) (own : Set) → MayAsk (layout_of (other_kind 0x20 shape)).place own own
unfolding may_follow layout_of
ask-late Box own = record { may = refl; input-is = λ m e. e }
ask-late Zonotope own = record { may = refl; input-is = λ m e. e }
ask-late Vertices own = record { may = refl; input-is = λ m e. e }

-- ---- part by part

module _ (m : Model) (st : Stored m) (ok : accepted m ≡ true) where
  abbrev n : ℕ
  n = m.n

  abbrev rows : List ℤ
  rows = rows_of m.motion

  facts : ModelFacts m
  facts = model-facts m ok

  parts : AcceptedParts m
  parts = accepted-parts m ok

  matrix-parts : (all_between (neg_ℤ (pos entry_limit)) (pos entry_limit) rows ≡ true) × (zero_outside n n rows ≡ true)
  unfolding matrix_at
  matrix-parts = and-true _ _ (facts.move-passes 0)

  -- the model after each part
  abbrev named : Model
  named = set_head blank_model n m.steps

  abbrev moved : Model
  moved = set_matrix named rows

  abbrev drifted : Model
  drifted = set_drift moved m.drift

  abbrev begun : Model
  begun = set_set false drifted m.initial

  abbrev driven : Model
  driven = set_set true begun m.input

  abbrev asked : Model
  asked = set_directions driven m.questions.directions m.questions.entries

  head-part : Leads (head_record m) start (state_of rows_place 0 named)
  head-part = head-leads n m.steps facts.dimension facts.steps-least facts.steps-most

  rows-part : Leads (row_records n rows) (state_of rows_place 0 named) (state_of matrix_place n moved)
  unfolding blank_model
  rows-part =
      let small : (k : ℕ) → nat_abs (vector rows k) ≤ entry_limit = all_between-at entry_limit rows matrix-parts.0 in
      rows-lead named rows (fits-of entry_limit rows (omega arith) small) (λ p i h. small (6 * p + i)) (λ p i h b. zero_outside-column n n rows matrix-parts.1 p i h b)
      facts.n-least st.lengths.motion.matrix (rows_all n n rows matrix-parts.1)

  abbrev drift_place_of : ℕ
  drift_place_of = cond (all_zero m.drift 0) matrix_place drift_place

  drift-part : Leads (drift_records m.drift) (state_of matrix_place n moved) (state_of drift_place_of n drifted)
  unfolding blank_model
  drift-part =
      drift-leads moved n m.drift drift-fits st.lengths.drift (λ i h. drift-small (6 * 0 + i)) (λ i h b. zero_outside-column 1 n m.drift facts.drift-beyond 0 i h b) refl
    where
      drift-small : (k : ℕ) → nat_abs (vector m.drift k) ≤ reach_limit
      drift-small k = elim (dec_lt k 6) [ yes h ↦ facts.movable.vector-small k h | no g ↦ subst (λ (z : ℤ). nat_abs z ≤ reach_limit) (sym (get_or-eq_default m.drift (pos 0) {n = k} (omega (arith, g, st.lengths.drift)))) (omega arith) ]

      drift-fits : Fits32 m.drift
      drift-fits = fits-of reach_limit m.drift (omega arith) drift-small

  initial-part : Leads (initial_records m.initial) (state_of drift_place_of n drifted) (state_of (layout_of (other_kind 0x10 m.initial.shape)).place n begun)
  unfolding blank_model
  initial-part =
      leads-from (ap (λ (s : Set). state_of drift_place_of n (set_set false drifted s)) (sym (so_far-none m.initial.shape m.initial.points st.lengths.initial.points)))
      (points-lead false drifted n m.initial.shape m.initial.count m.initial.points facts.n-most parts.initial (λ e. absurd (let z : ◌≡◌ {A = ℕ} 0 1 = ap (λ (b : Bool). cond b 1 0) e in omega arith))
      (fits-of reach_limit m.initial.points (omega arith) facts.initial.coordinates) drift_place_of (initial-may (all_zero m.drift 0) m.initial.shape))

  -- where the input set is left out, nothing happens yet
  abbrev input_place_of : Bool → ℕ
  input_place_of b = cond b (layout_of (other_kind 0x10 m.initial.shape)).place (layout_of (other_kind 0x20 m.input.shape)).place

  abbrev before-asking : Bool → State
  before-asking b = state_of (input_place_of b) n (set_set true begun (cond b blank_set m.input))

  input-part : Leads (input_records m.input) (state_of (layout_of (other_kind 0x10 m.initial.shape)).place n begun) (before-asking (is_zero_box m.input))
  unfolding blank_model
  input-part = split (is_zero_box m.input)
    where
      place : ℕ
      place = (layout_of (other_kind 0x10 m.initial.shape)).place

      split : (b : Bool) → Leads (vector_records (first_kind 0x20 m.input.shape) (other_kind 0x20 m.input.shape) (cond b 0 m.input.count) m.input.points) (state_of place n begun) (before-asking b)
      split true = leads-none (state_of place n begun)
      split false =
          leads-from (ap (λ (s : Set). state_of place n (set_set true begun s)) (sym (so_far-none m.input.shape m.input.points st.lengths.input.points)))
          (points-lead true begun n m.input.shape m.input.count m.input.points facts.n-most parts.input (λ e. (and-true (zero_outside 1 n m.drift) _ parts.drift).1)
          (fits-of reach_limit m.input.points (omega arith) facts.input.coordinates) place (input-may m.initial.shape m.input.shape))

  question-parts : (directions_ok n m.questions.directions m.questions.entries ≡ true) × (guards_ok m.questions.directions m.questions.guards m.questions.watched m.questions.levels ≡ true)
  question-parts = and-true _ _ parts.questions

  entries-outside : zero_outside m.questions.directions n m.questions.entries ≡ true
  entries-outside = (and-true (zero_outside m.questions.directions n m.questions.entries) _ (and-true (leb 1 m.questions.directions && leb m.questions.directions 16) _ question-parts.0).1).0

  entries-small : (k : ℕ) → nat_abs (vector m.questions.entries k) ≤ direction_limit
  entries-small =
      all_between-at direction_limit m.questions.entries
      (and-true (all_between (neg_ℤ (pos direction_limit)) (pos direction_limit) m.questions.entries) _ (and-true (zero_outside m.questions.directions n m.questions.entries) _ (and-true (leb 1 m.questions.directions && leb m.questions.directions 16) _ question-parts.0).1).1).0

  entries-nonzero : (d : ℕ) → d < m.questions.directions → all_zero m.questions.entries d ≡ false
  entries-nonzero d h =
      not-true _
      (all_below-at m.questions.directions (λ k. not (all_zero m.questions.entries k))
      (and-true (all_between (neg_ℤ (pos direction_limit)) (pos direction_limit) m.questions.entries) _ (and-true (zero_outside m.questions.directions n m.questions.entries) _ (and-true (leb 1 m.questions.directions && leb m.questions.directions 16) _ question-parts.0).1).1).1
      d h)

  asking : (place : ℕ) (own : Set) → MayAsk place own m.input → Leads (direction_records m.questions.directions m.questions.entries) (state_of place n (set_set true begun own)) (state_of direction_place n asked)
  unfolding blank_model zeros
  asking place own ask =
      leads-from (ap (λ (l : List ℤ). state_of place n (set_directions (set_set true begun own) 0 l)) (sym (none_in (pos 0) 96 m.questions.entries st.lengths.questions.entries)))
      (leads-to
      (directions-lead (set_set true begun own) place n m.questions.directions m.questions.entries (fits-of direction_limit m.questions.entries (omega arith) entries-small) facts.directions-most (λ d i h. entries-small (6 * d + i)) (λ d i h b. zero_outside-column m.questions.directions n m.questions.entries entries-outside d i h b) entries-nonzero ask.may
      facts.directions-least (rows_all m.questions.directions n m.questions.entries entries-outside))
      (ap (λ (s : Set). state_of direction_place n (set_directions (set_set true begun s) m.questions.directions m.questions.entries)) (ask.input-is (set_set true begun own) refl)))

  directions-part : Leads (direction_records m.questions.directions m.questions.entries) (before-asking (is_zero_box m.input)) (state_of direction_place n asked)
  directions-part = split (is_zero_box m.input) refl
    where
      split : (b : Bool) → is_zero_box m.input ≡ b → Leads (direction_records m.questions.directions m.questions.entries) (before-asking b) (state_of direction_place n asked)
      split true e = asking _ blank_set (subst (MayAsk (layout_of (other_kind 0x10 m.initial.shape)).place blank_set) (zero-box-is m.input st.lengths.input.points e) (ask-early m.initial.shape blank_set))
      split false e = asking _ m.input (ask-late m.input.shape m.input)

  abbrev all_in : State
  all_in = state_of (cond (eqb m.questions.guards 0) direction_place guard_place) n (set_guards asked m.questions.guards (kept 0 m.questions.guards m.questions.watched) (kept (pos 0) m.questions.guards m.questions.levels))

  guards-part : Leads (guard_records m.questions.guards m.questions.watched m.questions.levels) (state_of direction_place n asked) all_in
  unfolding blank_model zeros
  guards-part =
      leads-from (ap₂ (λ (w : List ℕ) (l : List ℤ). state_of direction_place n (set_guards asked 0 w l)) (sym (none_in 0 16 m.questions.watched st.lengths.questions.watched)) (sym (none_in (pos 0) 16 m.questions.levels st.lengths.questions.levels)))
      (guards-lead asked n m.questions.guards m.questions.watched m.questions.levels facts.guards-most facts.watches st.levels)

  -- beyond the guards both lists are zero
  no-guard : (g : ℕ) → m.questions.guards ≤ g → (get_or m.questions.watched g 0 ≡ 0) × (vector m.questions.levels g ≡ pos 0)
  no-guard g h = elim (dec_lt g 16) [ yes l ↦ stored-zero l | no k ↦ (get_or-eq_default m.questions.watched 0 {n = g} (omega (arith, k, st.lengths.questions.watched)), get_or-eq_default m.questions.levels (pos 0) {n = g} (omega (arith, k, st.lengths.questions.levels))) ]
    where
      stored-zero : g < 16 → (get_or m.questions.watched g 0 ≡ 0) × (vector m.questions.levels g ≡ pos 0)
      stored-zero l =
          let tests = (and-true (leb m.questions.guards 16) _ question-parts.1).1 in
          let here = all_below-at 16 (λ k. guard_ok m.questions.directions m.questions.guards k (get_or m.questions.watched k 0) (vector m.questions.levels k)) tests g l in
          let both = and-true (eqb (get_or m.questions.watched g 0) 0) (eqb (nat_abs (vector m.questions.levels g)) 0) (sym (ap (λ (b : Bool). cond b (ltb (get_or m.questions.watched g 0) m.questions.directions) (eqb (get_or m.questions.watched g 0) 0 && eqb (nat_abs (vector m.questions.levels g)) 0)) (le-ltb g m.questions.guards h)) ∙ here) in
          (eqb-true (get_or m.questions.watched g 0) 0 both.0, zero-of-nat_abs (vector m.questions.levels g) (eqb-true (nat_abs (vector m.questions.levels g)) 0 both.1))

  whole : all_in.model ≡ m
  whole =
      ap₂ (λ (w : List ℕ) (l : List ℤ). set_guards asked m.questions.guards w l) (kept-all 0 m.questions.guards m.questions.watched (λ g h. (no-guard g h).0)) (kept-all (pos 0) m.questions.guards m.questions.levels (λ g h. (no-guard g h).1))

  -- Writing 3.
  pub read_model-file_of : read_model (file_of m) ≡ read_as m
  unfolding file_of
  read_model-file_of =
      leads-end (leads-then (leads-then (leads-then (leads-then (leads-then (leads-then head-part rows-part) drift-part) initial-part) input-part) directions-part) guards-part)
      (guards-end asked n m.questions.guards m.questions.watched m.questions.levels facts.guards-most facts.watches st.levels)
      ∙ ap read_as whole
