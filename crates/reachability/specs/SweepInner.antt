-- What the functions that fill the rows of a sweep ask of each other and leave. Definitions only; no public contract cites them.
-- Assumes nothing.
use Rattle.std.specs.Prelude.{◌≡◌, true, cond, List, ℕ, suc, ◌≤◌, ◌<◌, leb, length, ℤ, pos, Result, Ok, Err}
use Rattle.integers.specs.Sums.{vector, max_ℕ}
use Rattle.reachability.specs.Moved.{moved_points}
use Rattle.reachability.specs.Limits.{accepted}
use Rattle.reachability.specs.Recurrence.{growth_step, sum_at, bound, slack}
use Rattle.reachability.specs.declared.model.Model.{Model}
use Rattle.reachability.specs.declared.refusals.CallRefusal.{CallRefusal}
use Rattle.reachability.specs.declared.refusals.CallRefusal.TheVariants.{Growth}
use Rattle.reachability.specs.declared.sets.Set.{Set}

-- An accepted model, one of its directions, and two rows of 257.
pub record FillAsks (m : Model) (d : ℕ) (b s : List ℤ) : Type 0 where
  pub accepts : accepted m ≡ true
  pub inside : d < m.questions.directions
  pub bounds-long : 257 ≡ length b
  pub slacks-long : 257 ≡ length s

-- The points of the input set moved by the drift, and the set that they make (Sets 20).
abbrev pub input_points : Model → List ℤ
input_points m = moved_points m.input.shape m.input.count m.input.points m.drift

abbrev pub moved_input : Model → Set
moved_input m = record m.input { points = input_points m }

-- The largest growth sum of the steps 0 to K and both rows; or the first step with growth.
pub record Fills (m : Model) (d : ℕ) (a : Result ℕ CallRefusal) (b s : List ℤ) : Type 0 where
  pub answer : a ≡ cond (leb (growth_step m d) m.steps) (Err (Growth (growth_step m d))) (Ok (max_ℕ (suc m.steps) (sum_at m d)))
  pub bounds : m.steps < growth_step m d → (k : ℕ) → k ≤ m.steps → vector b k ≡ bound m d k
  pub slacks : m.steps < growth_step m d → (k : ℕ) → k ≤ m.steps → vector s k ≡ pos (slack m d k)
