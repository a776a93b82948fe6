-- Runs 8: a model whose input set is the box from zero to zero has no other input than zero, whatever the run's denominator.
-- Assumes nothing.
use mathlib.Core.Path.{◌≡◌, subst}
use Prim.Native.Nat.{ℕ, ◌+◌, ◌*◌, ◌<◌}
use native.Mathlib.Omega.{arith}
use lib.IntN.{ℤ, pos, ◌*ℤ◌}
use Rattle.integers.specs.Whole.{◌⩽◌}
use Rattle.integers.proofs.SignedParts.{v, #, ◌⊗◌, eq!, le?}
use Rattle.integers.proofs.Machine.{get_or-replicate-default}
use Rattle.reachability.specs.Sets.{InBox, points, zero_box}
use Rattle.reachability.specs.Runs.{InSet, Run}
use Rattle.reachability.specs.declared.sets.Set.{Set}
use Rattle.reachability.specs.declared.model.Model.{Model}

pub inputs-zero : (m : Model) → m.input ≡ zero_box → {q : ℕ} (run : Run m q) (j : ℕ) → j < m.steps → (i : ℕ) → i < m.n → run.inputs j i ≡ pos 0
unfolding zero_box
inputs-zero m e {q} run j h i l =
    between (run.inputs j i)
    (subst (λ (z : ℤ). pos q *ℤ z ⩽ run.inputs j i) (get_or-replicate-default 96 (6 * 0 + i) (pos 0)) (inside.low i l))
    (subst (λ (z : ℤ). run.inputs j i ⩽ pos q *ℤ z) (get_or-replicate-default 96 (6 * 1 + i) (pos 0)) (inside.high i l))
  where
    inside : InBox m.n q (points zero_box.points) (run.inputs j)
    inside = subst (λ (s : Set). InSet m.n s q (run.inputs j)) e (run.permitted j h)

    between : (x : ℤ) → pos q *ℤ pos 0 ⩽ x → x ⩽ pos q *ℤ pos 0 → x ≡ pos 0
    between x low high = eq! (v x) (# 0) (omega (arith, le? (# q ⊗ # 0) (v x) low, le? (v x) (# q ⊗ # 0) high))
