-- What an accepted model is known to satisfy, part by part. The laws and proofs above cite these fields; none takes `accepted`
-- apart again. Assumes nothing.
use mathlib.Core.Path.{◌≡◌, refl, sym, ap, ap₂, ◌∙◌}
use mathlib.Core.Bool.{Bool, true, false, cond, not, ◌&&◌}
use mathlib.Core.List.{List}
use Prim.Native.Nat.{ℕ, ◌*◌, ◌+◌, ◌≤◌, ◌<◌}
use native.Mathlib.Nat.{lt_of_lt_of_le}
use native.Mathlib.Omega.{arith}
use borrow.Author.Tests.{leb-true, lt-ltb, ltb-true}
use lib.Dec.{leb, ltb, eqb}
use lib.ListN.{get_or}
use lib.IntN.{ℤ, pos, neg_ℤ, nat_abs}
use Rattle.integers.specs.Sums.{vector, all_below}
use Rattle.integers.proofs.Sums.{all_below-at, all_below-some}
use Rattle.arrays.specs.Tests.{all_between, zero_outside}
use Rattle.integers.proofs.Booleans.{and-true}
use Rattle.arrays.proofs.Tests.{all_between-at, zero_outside-column}
use Rattle.stepping.specs.Refusals.{dimension_ok, matrix_ok}
use Rattle.limits.specs.Limits.{direction_limit, all_zero, some_nonzero, directions_ok, guard_ok, guards_ok}
use Rattle.reachability.specs.Sets.{points, support_of, reach_of, reach_limit, count_ok, reach_ok, ordered_ok}
use Rattle.reachability.specs.Entering.{entering_reach, entering_ok}
use Rattle.reachability.specs.Moved.{moved_points, moved_set}
use Rattle.reachability.specs.EnteringInner.{EnteringSmall, Movable}
use Rattle.reachability.specs.Motion.{matrix_at, motion_ok}
use Rattle.reachability.specs.Limits.{accepted, set_accepted, drift_accepted, questions_accepted}
use Rattle.reachability.specs.Runs.{direction}
use Rattle.reachability.specs.Recurrence.{entering_support_of}
use Rattle.reachability.specs.SweepInner.{input_points}
use Rattle.reachability.specs.declared.sets.Set.{Set}
use Rattle.reachability.specs.declared.model.Model.{Model}
use Rattle.reachability.proofs.motion.Laws.{motion-facts}
use Rattle.reachability.proofs.sets.Facts.{SetFacts, set-facts, n-range}
use Rattle.reachability.proofs.sets.Moved.{MovedBy, points-moved, support-moved, set-ok-moved}

pub record ModelFacts (m : Model) : Type 0 where
  -- n and the steps
  pub dimension : dimension_ok m.n ≡ true
  pub n-least : 1 ≤ m.n
  pub n-most : m.n ≤ 6
  pub steps-least : 1 ≤ m.steps
  pub steps-most : m.steps ≤ 256
  -- the matrix of every move
  pub move-passes : (t : ℕ) → matrix_ok m.n (matrix_at m.motion t) ≡ true
  -- the sets
  pub initial : SetFacts m.n m.initial.shape m.initial.count m.initial.points
  pub input : SetFacts m.n m.input.shape m.input.count m.input.points
  -- the drift, and what enters
  pub drift-beyond : zero_outside 1 m.n m.drift ≡ true
  pub entering : EnteringSmall m.input.shape m.input.count m.input.points m.drift
  pub movable : Movable m.input.count m.input.points m.drift
  pub moved : SetFacts m.n m.input.shape m.input.count (input_points m)
  pub moved_ok : set_accepted m.n (moved_set m.input m.drift) ≡ true
  pub moved_by : MovedBy m.n m.input.shape m.input.count (points m.input.points) (points (input_points m)) (vector m.drift)
  pub entering-is : (r : ℕ → ℤ) → support_of m.n m.input.shape m.input.count (points (input_points m)) r ≡ entering_support_of m r
  -- the directions
  pub directions-least : 1 ≤ m.questions.directions
  pub directions-most : m.questions.directions ≤ 16
  pub direction-small : (d i : ℕ) → nat_abs (direction m d i) ≤ direction_limit
  pub direction-beyond : (d i : ℕ) → m.n ≤ i → i < 6 → direction m d i ≡ pos 0
  pub direction-nonzero : (d : ℕ) → d < m.questions.directions → (i : ℕ) × (i < 6) × (eqb (nat_abs (direction m d i)) 0 ≡ false)
  -- the guards
  pub guards-most : m.questions.guards ≤ 16
  pub watches : (g : ℕ) → g < m.questions.guards → get_or m.questions.watched g 0 < m.questions.directions

-- a set that is accepted, and a drift beside it
record DriftFacts (n : ℕ) (s : Set) (drift : List ℤ) : Type 0 where
  beyond : zero_outside 1 n drift ≡ true
  small : EnteringSmall s.shape s.count s.points drift
  movable : Movable s.count s.points drift
  moved_by : MovedBy n s.shape s.count (points s.points) (points (moved_points s.shape s.count s.points drift)) (vector drift)
  accepted : set_accepted n (moved_set s drift) ≡ true

drift-facts : (n : ℕ) → n ≤ 6 → (s : Set) (drift : List ℤ) → set_accepted n s ≡ true → drift_accepted n s drift ≡ true → DriftFacts n s drift
drift-facts n n≤6 s drift t u =
    let shape = s.shape in
    let count = s.count in
    let xs = s.points in
    let facts = set-facts n shape count xs t in
    let own = and-true (count_ok shape count) (zero_outside count n xs && (reach_ok shape count (points xs) && ordered_ok n shape (points xs))) t in
    let rest = and-true (zero_outside count n xs) (reach_ok shape count (points xs) && ordered_ok n shape (points xs)) own.1 in
    let ordered = (and-true (reach_ok shape count (points xs)) (ordered_ok n shape (points xs)) rest.1).1 in
    let both = and-true (zero_outside 1 n drift) (entering_ok shape count xs drift) u in
    let small : (i : ℕ) → i < 6 → entering_reach s.shape s.count s.points drift i ≤ reach_limit = λ i h. leb-true (entering_reach shape count xs drift i) reach_limit (all_below-at 6 (λ j. leb (entering_reach shape count xs drift j) reach_limit) both.1 i h) in
    record {
      beyond = both.0;
      small = record { counted = facts.counted; small = small };
      movable = record { counted = facts.counted; coordinates = facts.coordinates; vector-small = λ i h. alone (reach_of shape count (points xs) i) (nat_abs (vector drift i)) (small i h) };
      moved_by = points-moved shape count xs drift n n≤6 own.0;
      accepted = set-ok-moved n n≤6 shape count xs drift own.0 rest.0 both.0 ordered small;
    }
  where
    alone : (a b : ℕ) → a + b ≤ reach_limit → b ≤ reach_limit
    alone a b h = omega arith

-- The parts of a model that is accepted, each by its own rule.
pub record AcceptedParts (m : Model) : Type 0 where
  pub motion : motion_ok m.n m.steps m.motion ≡ true
  pub initial : set_accepted m.n m.initial ≡ true
  pub input : set_accepted m.n m.input ≡ true
  pub drift : drift_accepted m.n m.input m.drift ≡ true
  pub questions : questions_accepted m.n m.questions ≡ true

pub accepted-parts : (m : Model) → accepted m ≡ true → AcceptedParts m
accepted-parts m t =
    let questions = questions_accepted m.n m.questions in
    let drift = drift_accepted m.n m.input m.drift in
    let a = and-true (motion_ok m.n m.steps m.motion) (set_accepted m.n m.initial && (set_accepted m.n m.input && (drift && questions))) t in
    let b = and-true (set_accepted m.n m.initial) (set_accepted m.n m.input && (drift && questions)) a.1 in
    let c = and-true (set_accepted m.n m.input) (drift && questions) b.1 in
    let d = and-true drift questions c.1 in
    record { motion = a.0; initial = b.0; input = c.0; drift = d.0; questions = d.1 }

pub accepted-of : (m : Model) → AcceptedParts m → accepted m ≡ true
accepted-of m p = ap₂ ◌&&◌ p.motion (ap₂ ◌&&◌ p.initial (ap₂ ◌&&◌ p.input (ap₂ ◌&&◌ p.drift p.questions)))

pub model-facts : (m : Model) → accepted m ≡ true → ModelFacts m
model-facts m t =
    let parts = accepted-parts m t in
    let frame = motion-facts m.n m.steps m.motion parts.motion in
    let n = frame.dimension in
    let steps = and-true (leb 1 m.steps) (leb m.steps 256) frame.steps-pass in
    let own = drift-facts m.n (n-range m.n n).1 m.input m.drift parts.input parts.drift in
    let directions = directions_ok m.n m.questions.directions m.questions.entries in
    let e = and-true directions (guards_ok m.questions.directions m.questions.guards m.questions.watched m.questions.levels) parts.questions in
    let f = and-true (leb 1 m.questions.directions && leb m.questions.directions 16) _ e.0 in
    let count = and-true (leb 1 m.questions.directions) (leb m.questions.directions 16) f.0 in
    let outside = and-true (zero_outside m.questions.directions m.n m.questions.entries) _ f.1 in
    let entries = and-true (all_between (neg_ℤ (pos direction_limit)) (pos direction_limit) m.questions.entries) (some_nonzero m.questions.directions m.questions.entries) outside.1 in
    let g = and-true (leb m.questions.guards 16) (all_below 16 (λ i. guard_ok m.questions.directions m.questions.guards i (get_or m.questions.watched i 0) (vector m.questions.levels i))) e.1 in
    record {
      dimension = n;
      n-least = (n-range m.n n).0;
      n-most = (n-range m.n n).1;
      steps-least = leb-true 1 m.steps steps.0;
      steps-most = leb-true m.steps 256 steps.1;
      move-passes = frame.move-passes;
      initial = set-facts m.n m.initial.shape m.initial.count m.initial.points parts.initial;
      input = set-facts m.n m.input.shape m.input.count m.input.points parts.input;
      drift-beyond = own.beyond;
      entering = own.small;
      movable = own.movable;
      moved = set-facts m.n m.input.shape m.input.count (input_points m) own.accepted;
      moved_ok = own.accepted;
      moved_by = own.moved_by;
      entering-is = support-moved m.n m.input.shape m.input.count own.small.counted.some own.moved_by;
      directions-least = leb-true 1 m.questions.directions count.0;
      directions-most = leb-true m.questions.directions 16 count.1;
      direction-small = λ d i. all_between-at direction_limit m.questions.entries entries.0 (6 * d + i);
      direction-beyond = λ d i l h. zero_outside-column m.questions.directions m.n m.questions.entries outside.0 d i h l;
      direction-nonzero = λ d inside. all_below-some 6 (λ i. eqb (nat_abs (direction m d i)) 0) (not-not (all_zero m.questions.entries d) (all_below-at m.questions.directions (λ j. not (all_zero m.questions.entries j)) entries.1 d inside));
      guards-most = leb-true m.questions.guards 16 g.0;
      watches = λ i inside. on-direction i inside (all_below-at 16 (λ j. guard_ok m.questions.directions m.questions.guards j (get_or m.questions.watched j 0) (vector m.questions.levels j)) g.1 i (lt_of_lt_of_le inside (leb-true m.questions.guards 16 g.0)));
    }
  where
    not-not : (b : Bool) → not b ≡ true → b ≡ false
    not-not true e = sym e
    not-not false e = refl

    on-direction : (i : ℕ) → i < m.questions.guards → guard_ok m.questions.directions m.questions.guards i (get_or m.questions.watched i 0) (vector m.questions.levels i) ≡ true → get_or m.questions.watched i 0 < m.questions.directions
    on-direction i inside one =
        ltb-true (get_or m.questions.watched i 0) m.questions.directions (sym (ap (λ (x : Bool). cond x (ltb (get_or m.questions.watched i 0) m.questions.directions) (eqb (get_or m.questions.watched i 0) 0 && eqb (nat_abs (vector m.questions.levels i)) 0)) (lt-ltb i m.questions.guards inside)) ∙ one)
