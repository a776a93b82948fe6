-- Accuracy 1 to 8, the accuracy rule. In order: what is said of a bound, a slack and a verdict at a step; the same of all steps;
-- the rule of a model, as one statement over every direction, level and step and every run of any denominator. Definitions only.
-- Runs 5: a value at step k of a run with denominator q is counted in 1 / (q × 65,536 ^ k), so bounds, slacks and levels are
-- multiplied by that denominator where they meet it.
-- Assumes nothing.
use Rattle.std.specs.Prelude.{◌≡◌, true, ℕ, ◌*◌, ◌^◌, ◌≤◌, ℤ, pos, nat_abs, ◌-ℤ◌, ◌*ℤ◌}
use Rattle.integers.specs.Whole.{◌⩽◌, Near}
use Rattle.stepping.specs.Limits.{matrix_unit}
use Rattle.reachability.specs.Runs.{Run, value, direction, denominator, Largest}
use Rattle.reachability.specs.Recurrence.{bound, slack}
use Rattle.reachability.specs.Verdicts.{reaches, verdict}
use Rattle.reachability.specs.declared.model.Model.{Model}
use Rattle.reachability.specs.declared.verdicts.Verdict.{Verdict}
use Rattle.reachability.specs.declared.verdicts.Verdict.TheVariants.{Hit, Unknown, Clear}

-- Accuracy 2: no run passes the bound b at step k.
abbrev pub NoRunPasses : Model → ℕ → ℕ → ℤ → Type 0
NoRunPasses m d k b = (q : ℕ) (run : Run m q) → value m (direction m d) run k ⩽ pos (denominator q k) *ℤ b

-- Accuracy 3: some run comes at least to b - s at step k.
pub record SomeRunWithin (m : Model) (d k : ℕ) (b s : ℤ) : Type 0 where
  pub q : ℕ
  pub run : Run m q
  pub within : pos (denominator q k) *ℤ (b -ℤ s) ⩽ value m (direction m d) run k

-- Accuracy 5, by Verdicts 1: some run reaches the level at step k.
pub record ReachedBy (m : Model) (d : ℕ) (level : ℤ) (k : ℕ) : Type 0 where
  pub q : ℕ
  pub run : Run m q
  pub there : reaches (pos (denominator q k) *ℤ level) (value m (direction m d) run k) ≡ true

-- Accuracy 6: the exact largest value at step k, which is exact / 65,536 ^ k, differs from the level by s at most.
pub record WithinSlackOf (m : Model) (d : ℕ) (level : ℤ) (k : ℕ) (s : ℤ) : Type 0 where
  pub exact : ℤ
  pub largest : Largest m (direction m d) k exact
  pub near : Near exact (pos (matrix_unit ^ k) *ℤ level) (matrix_unit ^ k * nat_abs s)

-- Accuracy 2, 3 and 7 at every step 0 to K: over all runs, b k is a bound and s k its slack, and there is an exact largest value,
-- which a run attains. b and s are the bound and the slack at each step.
pub record Accurate (m : Model) (d : ℕ) (b s : ℕ → ℤ) : Type 0 where
  pub bounds : (k : ℕ) → k ≤ m.steps → NoRunPasses m d k (b k)
  pub slacks : (k : ℕ) → k ≤ m.steps → SomeRunWithin m d k (b k) (s k)
  pub exact : (k : ℕ) → k ≤ m.steps → (v : ℤ) × Largest m (direction m d) k v

-- Accuracy 4, 5 and 6: what CLEAR, HIT and UNKNOWN say of the runs.
abbrev pub VerdictHolds : Model → ℕ → ℤ → (ℕ → ℤ) → Verdict → Type 0
VerdictHolds m d level s (Hit k) = (k ≤ m.steps) × ReachedBy m d level k
VerdictHolds m d level s (Unknown k) = (k ≤ m.steps) × WithinSlackOf m d level k (s k)
VerdictHolds m d level s Clear = (k : ℕ) → k ≤ m.steps → ReachedBy m d level k → ⊥

-- Accuracy 1: the rule of a model, as one statement about the numbers of "Recurrence" and the verdicts of "Verdicts" (Accuracy 8).
-- Every accepted model has it (`proofs.AccuracyRule`). It holds of every direction number, refused for growth or not, so all the
-- more of those that are not.
pub record AccuracyRule (m : Model) : Type 0 where
  pub accurate : (d : ℕ) → Accurate m d (bound m d) (λ k. pos (slack m d k))
  pub verdicts : (d : ℕ) (level : ℤ) → VerdictHolds m d level (λ k. pos (slack m d k)) (verdict m d level)
