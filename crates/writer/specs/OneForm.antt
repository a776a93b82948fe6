-- Writing 3 to 5: of which models the laws of written files speak. Definitions only; the laws are in `proofs.ReadBack` and
-- `proofs.OneForm`, and the writer's contract has the first of them for the model that it is given. Assumes nothing.
use Rattle.std.specs.Prelude.{ℕ}
use Rattle.std.specs.Int.{w64}
use Rattle.std.proofs.Common.{SFits}
use Rattle.integers.specs.Sums.{vector}
use Rattle.reachability.specs.Lengths.{Lengths}
use Rattle.reachability.specs.declared.model.Model.{Model}

-- What every stored model has by its type, and Limits 10 does not ask: lists of the lengths of its arrays (Sets 1), and levels that 64
-- bits with a sign can hold (Model 5).
pub record Stored (m : Model) : Type 0 where
  pub lengths : Lengths m
  pub levels : (g : ℕ) → SFits w64 (vector m.questions.levels g)
