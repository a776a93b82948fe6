-- `stepping::column::error_sum` meets its contract. Assumes nothing.
use Rattle.std.proofs.Common.{◌≡◌, ap₂, refl, ◌+◌, ◌*◌, rules, arith, nat_abs, w64, to_z, of_z}
use native.Mathlib.Nat.{mul-le-mul}
use Rattle.integers.specs.Sums.{sum_ℕ, vector, magnitudes, matrix as matrix_of}
use Rattle.integers.proofs.Sums.{sum_ℕ-next}
use Rattle.stepping.proofs.column.error_sum.Goals as goal

pub loop-p-init : goal.loop-p-init
unfolding sum_ℕ
loop-p-init c = record { is = refl; small = omega arith }

product_is : (c : goal.After-sum-1) → c.from.result * nat_abs (to_z w64 (of_z w64 (vector c.args.e.now c.loop-p.p))) ≡ nat_abs (matrix_of c.args.matrix.now c.loop-p.p c.args.i) * magnitudes c.args.e.now c.loop-p.p
product_is c = ap₂ ◌*◌ (search rules) (search rules)

pub loop-p-preserved : goal.loop-p-preserved
loop-p-preserved c =
    record {
      is = sum_ℕ-next _ _ c.loop-p.invariant.is (product_is c);
      small = omega (arith, product_is c, c.loop-p.invariant.small, mul-le-mul (c.requires.1.bounded.entries (6 * c.loop-p.p + c.args.i)) (c.requires.1.bounded.values c.loop-p.p c.loop-p-test.true));
    }
