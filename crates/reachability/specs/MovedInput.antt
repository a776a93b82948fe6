-- Runs 10: the model without a drift whose input set is moved by the drift. Definitions only, for a law; no contract cites them.
-- Assumes nothing.
use Rattle.std.specs.Prelude.{◌≡◌, true, ℕ, replicate, ℤ, pos}
use Rattle.reachability.specs.Moved.{moved_set}
use Rattle.reachability.specs.Limits.{accepted}
use Rattle.reachability.specs.Runs.{Largest}
use Rattle.reachability.specs.declared.model.Model.{Model}

-- All else is the model's.
abbrev pub moved_model : Model → Model
moved_model m =
    record {
      n = m.n;
      steps = m.steps;
      motion = m.motion;
      drift = replicate 6 (pos 0);
      initial = m.initial;
      input = moved_set m.input m.drift;
      questions = m.questions;
    }

-- Runs 10: it is accepted, and its exact largest values are the model's, of any direction and step.
pub record MovedAgrees (m : Model) : Type 0 where
  pub accepts : accepted (moved_model m) ≡ true
  pub largest : (x : ℕ → ℤ) (k : ℕ) (v : ℤ) → Largest m x k v → Largest (moved_model m) x k v
  pub largest-back : (x : ℕ → ℤ) (k : ℕ) (v : ℤ) → Largest (moved_model m) x k v → Largest m x k v
