-- A model that a function is given is a stored one: its type says so. `c.good.0` of a function whose first parameter is a model serves.
-- Assumes nothing.
use mathlib.Core.List.{List, [], ◌∷◌}
use Prim.Native.Nat.{ℕ, zero, suc}
use native.Mathlib.Omega.{arith}
use lib.IntN.{ℤ, pos}
use lib.ListN.{get_or}
use denote.Array.{each}
use denote.Shadow.{shadow}
use denote.Signed.{SInt}
use mir.Syntax.{w64}
use mir.Val.{Val, SFits}
use Rattle.reachability.specs.declared.model.Model.{Model}
use Rattle.reachability.proofs.model.Lengths.{IsModel, lengths}
use Rattle.writer.specs.OneForm.{Stored}

-- each element of an array of i64, as a struct's field has them, fits
elements-fit : (xs : List ℤ) (us : List Val) → shadow (each ℤ (SInt w64).own_val xs us) → (k : ℕ) → SFits w64 (get_or xs k (pos 0))
elements-fit [] us s k = record { sfits = omega arith }
elements-fit (x ∷ xs) [] s k = absurd s
elements-fit (x ∷ xs) (u ∷ us) s zero = record { sfits = s.0.1 }
elements-fit (x ∷ xs) (u ∷ us) s (suc k) = elements-fit xs us s.1 k

pub stored-model : (m : Model) {vs : List Val} → IsModel m vs → Stored m
stored-model m g =
    let levels = g.1.1.1.1.1.1.1.1.0.1.1.1.1.1.1.0 in
    record { lengths = lengths m g; levels = elements-fit m.questions.levels levels.0 levels.1.1 }
