-- Runs 1 to 7 and 9: moves, runs with a common denominator, what enters, states over whole numbers, the exact largest value. Definitions
-- only. Runs 3 and 5: the first state, the inputs and the drift are counted in 1 / q, and state k in 1 / (q × 65,536 ^ k), so that all is
-- said over whole numbers.
-- Assumes nothing.
use Rattle.std.specs.Prelude.{◌≡◌, ℕ, zero, suc, ◌*◌, ◌^◌, ◌≤◌, ◌<◌, ℤ, pos, ◌+ℤ◌, ◌*ℤ◌}
use Rattle.integers.specs.Whole.{◌⩽◌}
use Rattle.integers.specs.Sums.{vector, matrix, dot, times}
use Rattle.stepping.specs.Limits.{matrix_unit}
use Rattle.reachability.specs.Sets.{points, Member}
use Rattle.reachability.specs.Motion.{matrix_at}
use Rattle.reachability.specs.declared.sets.Set.{Set}
use Rattle.reachability.specs.declared.model.Model.{Model}

-- Model 6: the matrix of the move from step t to step t + 1.
abbrev pub moves : Model → ℕ → ℕ → ℕ → ℤ
moves m t = matrix (matrix_at m.motion t)

-- Model 4: direction number d of a model.
abbrev pub direction : Model → ℕ → ℕ → ℤ
direction m d = matrix m.questions.entries d

-- Sets 3, 5 and 7: x, in q-ths, lies in the set.
abbrev pub InSet : ℕ → Set → ℕ → (ℕ → ℤ) → Type 0
InSet n s q x = Member n s.shape s.count (points s.points) q x

-- Runs 1, 2 and 3: a run with the denominator q, of what it chooses and that each choice lies in its set.
pub record Run (m : Model) (q : ℕ) : Type 0 where
  pub positive : 1 ≤ q
  pub start : ℕ → ℤ
  pub inputs : ℕ → ℕ → ℤ
  pub starts : InSet m.n m.initial q start
  pub permitted : (j : ℕ) → j < m.steps → InSet m.n m.input q (inputs j)

-- Runs 9: what enters at move j, the input and the drift, in q-ths.
abbrev pub entering : (m : Model) {q : ℕ} → Run m q → ℕ → ℕ → ℤ
entering m {q} run j i = run.inputs j i +ℤ pos q *ℤ vector m.drift i

-- Runs 4: the motion. Runs 5: state k, in 1 / (q × 65,536 ^ k).
unfoldable pub state_of : ℕ → (ℕ → ℕ → ℕ → ℤ) → (ℕ → ℤ) → (ℕ → ℕ → ℤ) → ℕ → ℕ → ℤ
state_of n moves start entering zero i = start i
state_of n moves start entering (suc k) i = times n (moves k) (state_of n moves start entering k) i +ℤ pos (matrix_unit ^ suc k) *ℤ entering k i

abbrev pub state : (m : Model) {q : ℕ} → Run m q → ℕ → ℕ → ℤ
state m run = state_of m.n (moves m) run.start (entering m run)

-- Runs 6: the value of a run at step k, in 1 / (q × 65,536 ^ k).
abbrev pub value : (m : Model) (d : ℕ → ℤ) {q : ℕ} → Run m q → ℕ → ℤ
value m d run k = dot m.n d (state m run k)

-- Runs 5: the denominator of state k.
abbrev pub denominator : ℕ → ℕ → ℕ
denominator q k = q * matrix_unit ^ k

-- Runs 7: v / 65,536 ^ k is the exact largest value of d at step k.
pub record Largest (m : Model) (d : ℕ → ℤ) (k : ℕ) (v : ℤ) : Type 0 where
  pub above : (q : ℕ) (run : Run m q) → value m d run k ⩽ pos q *ℤ v
  pub attained : (q : ℕ) × (run : Run m q) × (value m d run k ≡ pos q *ℤ v)
