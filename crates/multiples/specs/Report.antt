-- Report 2, multiplied directions: what the figures of a direction whose entries are multiplied by a whole number say of the
-- direction itself. Definitions only, for a law; no contract cites them. In order: the multiplied model; what is said of a bound, a
-- slack and a verdict; the rule.
-- Nothing is divided here. Where the specification divides a bound or a slack by the factor, the value beside it is multiplied by
-- the factor, and the two meet over the denominator of the value (Runs 5).
-- Assumes nothing.
use Rattle.std.specs.Prelude.{◌≡◌, List, ℕ, ◌*◌, ◌^◌, ◌≤◌, ◌<◌, ℤ, pos, ◌-ℤ◌, ◌*ℤ◌}
use Rattle.integers.specs.Whole.{◌⩽◌, Near}
use Rattle.integers.specs.Sums.{matrix}
use Rattle.stepping.specs.Limits.{matrix_unit}
use Rattle.reachability.specs.Runs.{Run, value, direction, denominator, Largest}
use Rattle.reachability.specs.Recurrence.{bound, slack}
use Rattle.reachability.specs.Verdicts.{verdict}
use Rattle.reachability.specs.Accuracy.{ReachedBy}
use Rattle.reachability.specs.declared.model.Model.{Model}
use Rattle.reachability.specs.declared.verdicts.Verdict.{Verdict}
use Rattle.reachability.specs.declared.verdicts.Verdict.TheVariants.{Hit, Unknown, Clear}

-- Report 2: the model with other entries of directions and other levels of guards. All else is the model's.
abbrev pub with_entries : Model → List ℤ → List ℤ → Model
with_entries m entries levels =
    record {
      n = m.n;
      steps = m.steps;
      motion = m.motion;
      drift = m.drift;
      initial = m.initial;
      input = m.input;
      questions = record {
        directions = m.questions.directions;
        entries = entries;
        guards = m.questions.guards;
        watched = m.questions.watched;
        levels = levels;
      };
    }

-- Report 2: direction d of these entries is the model's, each of its n coordinates multiplied by the factor.
abbrev pub Multiplied : Model → List ℤ → ℕ → ℕ → Type 0
Multiplied m entries d factor = (i : ℕ) → i < m.n → matrix entries d i ≡ pos factor *ℤ direction m d i

-- Report 2, by Accuracy 2: no run passes b / factor in direction d at step k.
abbrev pub NoMultiplePasses : Model → ℕ → ℕ → ℕ → ℤ → Type 0
NoMultiplePasses m d factor k b = (q : ℕ) (run : Run m q) → pos factor *ℤ value m (direction m d) run k ⩽ pos (denominator q k) *ℤ b

-- Report 2, by Accuracy 3: some run comes at least to (b - s) / factor in direction d at step k.
pub record SomeMultipleWithin (m : Model) (d factor k : ℕ) (b s : ℤ) : Type 0 where
  pub q : ℕ
  pub run : Run m q
  pub within : pos (denominator q k) *ℤ (b -ℤ s) ⩽ pos factor *ℤ value m (direction m d) run k

-- Report 2, by Accuracy 6: the exact largest value in direction d at step k, which is exact / 65,536 ^ k, differs from the level by
-- s / factor at most.
pub record MultipleWithinSlackOf (m : Model) (d factor : ℕ) (level : ℤ) (k s : ℕ) : Type 0 where
  pub exact : ℤ
  pub largest : Largest m (direction m d) k exact
  pub near : Near (pos factor *ℤ exact) (pos (matrix_unit ^ k) *ℤ (pos factor *ℤ level)) (matrix_unit ^ k * s)

-- Report 2, by Accuracy 4, 5 and 6: what a verdict on the level `judged` says of the runs, in direction d and of the level `level`,
-- neither of them multiplied. `judged` is the factor times `level`, or the end of the 64 bits on its side: then HIT still says what it
-- says where it is not below that product, and CLEAR where it is not above. s is the slack at each step.
abbrev pub MultipliedVerdictHolds : Model → ℕ → ℕ → (level judged : ℤ) → (ℕ → ℕ) → Verdict → Type 0
MultipliedVerdictHolds m d factor level judged s (Hit k) = pos factor *ℤ level ⩽ judged → (k ≤ m.steps) × ReachedBy m d level k
MultipliedVerdictHolds m d factor level judged s (Unknown k) = judged ≡ pos factor *ℤ level → (k ≤ m.steps) × MultipleWithinSlackOf m d factor level k (s k)
MultipliedVerdictHolds m d factor level judged s Clear = judged ⩽ pos factor *ℤ level → (k : ℕ) → k ≤ m.steps → ReachedBy m d level k → ⊥

-- Report 2: the numbers of m' in direction d, said of the runs of m in its own direction d, at every step 0 to K: its bound divided by
-- the factor is a bound, and some run comes to its bound - slack divided by the factor. Its verdict on any level says of the level
-- that was multiplied what it can.
pub record MultipliedRule (m m' : Model) (d factor : ℕ) : Type 0 where
  pub bounds : (k : ℕ) → k ≤ m.steps → NoMultiplePasses m d factor k (bound m' d k)
  pub slacks : (k : ℕ) → k ≤ m.steps → SomeMultipleWithin m d factor k (bound m' d k) (pos (slack m' d k))
  pub verdicts : (level judged : ℤ) → MultipliedVerdictHolds m d factor level judged (slack m' d) (verdict m' d judged)
