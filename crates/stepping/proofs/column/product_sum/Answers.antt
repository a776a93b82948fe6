-- `stepping::column::product_sum` meets its contract. Assumes nothing.
use Rattle.std.proofs.Common.{◌≡◌, ap, ap₂, sym, subst, ◌∙◌, ◌*◌, ◌≤◌, rules, arith, ℤ, nat_abs, ◌+ℤ◌, ◌*ℤ◌, w64, to_z, of_z}
use mir.Val.{SFits}
use mir.Facts.{to_z-of_z}
use lib.Dec.{lit<}
use Rattle.integers.specs.Sums.{vector, matrix as matrix_of}
use Rattle.integers.proofs.Machine.{sfits-of-nat_abs}
use Rattle.integers.proofs.Order.{nat_abs-add, nat_abs-mul-le}
use Rattle.integers.proofs.RunningSum.{running-start, running_more, running-done}
use Rattle.stepping.specs.Limits.{entry_limit, growth_limit}
use Rattle.stepping.proofs.column.product_sum.Goals as goal

-- a turn adds the product of an entry and a value
module _ (c : goal.After-sum-1) where
  abbrev product : ℤ
  product = matrix_of c.args.matrix.now c.loop-p.p c.args.i *ℤ vector c.args.r.now c.loop-p.p

  small : nat_abs product ≤ entry_limit * growth_limit
  small = nat_abs-mul-le (matrix_of c.args.matrix.now c.loop-p.p c.args.i) (vector c.args.r.now c.loop-p.p) (c.requires.1.entries _) (c.requires.1.values c.loop-p.p c.loop-p-test.true)

  product_is : to_z w64 (of_z w64 c.from.result) *ℤ to_z w64 (of_z w64 (vector c.args.r.now c.loop-p.p)) ≡ product
  product_is =
      let entry : to_z w64 (of_z w64 c.from.result) ≡ matrix_of c.args.matrix.now c.loop-p.p c.args.i = search rules in
      let value : to_z w64 (of_z w64 (vector c.args.r.now c.loop-p.p)) ≡ vector c.args.r.now c.loop-p.p = search rules in
      ap₂ ◌*ℤ◌ entry value

  read : to_z w64 (of_z w64 (to_z w64 (of_z w64 c.from.result) *ℤ to_z w64 (of_z w64 (vector c.args.r.now c.loop-p.p)))) ≡ product
  read = ap (λ (z : ℤ). to_z w64 (of_z w64 z)) product_is ∙ to_z-of_z (sfits-of-nat_abs w64 small (lit< tt))

  fits : SFits w64 (to_z w64 c.loop-p.sum-bits +ℤ product)
  fits = sfits-of-nat_abs w64 {b = 6 * (entry_limit * growth_limit)} (omega (arith, nat_abs-add (to_z w64 c.loop-p.sum-bits) product, small, c.loop-p.invariant.small)) (lit< tt)

pub loop-p-init : goal.loop-p-init
loop-p-init c = running-start _ _ _

pub overflow_mul-sum : goal.overflow_mul-sum
overflow_mul-sum c = subst (SFits w64) (sym (product_is c)) (sfits-of-nat_abs w64 (small c) (lit< tt))

pub overflow_add-sum : goal.overflow_add-sum
overflow_add-sum c = subst (λ (z : ℤ). SFits w64 (to_z w64 c.loop-p.sum-bits +ℤ z)) (sym (read c)) (fits c)

pub loop-p-preserved : goal.loop-p-preserved
loop-p-preserved c =
    running_more c.loop-p.invariant c.loop-p-test.true (small c) (ap (λ (z : ℤ). to_z w64 (of_z w64 (to_z w64 c.loop-p.sum-bits +ℤ z))) (read c) ∙ to_z-of_z (fits c))

pub returns : goal.returns
returns c = running-done c.loop-p.invariant (omega arith)
