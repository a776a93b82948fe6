-- `stepping::column::column_of` meets its contract: N is six products of a tested entry and a tested value, so that half a unit can
-- be added to it, and a shift rounds down; the errors are six such products too, far inside an i64 once they are divided. Assumes
-- nothing.
use Rattle.std.proofs.Common.{◌≡◌, sym, ap, ap₂, subst, ◌∙◌, ℕ, ◌+◌, ◌*◌, ◌≤◌, arith, List, ℤ, pos, negsuc, nat_abs, ◌+ℤ◌, w64, to_z, of_z}
use mir.Val.{SFits}
use mir.Facts.{to_z_pos, to_z-of_z}
use lib.Dec.{lit<}
use lib.Signed.{shr_z}
use Rattle.integers.specs.Whole.{ceil_div_ℕ, fraction}
use Rattle.integers.specs.Sums.{vector, magnitudes, matrix as matrix_of, transposed}
use Rattle.integers.proofs.Order.{nat_abs-add}
use Rattle.integers.proofs.Rounding.{fraction-le-one}
use Rattle.integers.proofs.Machine.{sfits-of-nat_abs, read-shifted}
use Rattle.stepping.specs.Limits.{matrix_unit, entry_limit, growth_limit, error_limit}
use Rattle.stepping.specs.Recurrence.{next_r, next_e, error_sum}
use Rattle.stepping.specs.Inner.{Bounded, BoundedErrors}
use Rattle.stepping.proofs.Recurrence.{transposed-small, error_sum-small}
use Rattle.stepping.proofs.column.column_of.Goals as goal

-- N, as the code holds it, and the next r
module _ (m r : List ℤ) (i : ℕ) (bounded : Bounded growth_limit m r) {product : ℤ} (is : product ≡ transposed 6 (matrix_of m) (vector r) i) where
  N-small : nat_abs (transposed 6 (matrix_of m) (vector r) i) ≤ 6 * (entry_limit * growth_limit)
  N-small = transposed-small 6 (matrix_of m) (λ p j. bounded.entries (6 * p + j)) i (vector r) bounded.values

  read : to_z w64 (of_z w64 product) ≡ transposed 6 (matrix_of m) (vector r) i
  read = ap (λ (z : ℤ). to_z w64 (of_z w64 z)) is ∙ to_z-of_z (sfits-of-nat_abs w64 N-small (lit< tt))

  more-fits : SFits w64 (to_z w64 (of_z w64 product) +ℤ pos 32768)
  more-fits =
      subst (λ (z : ℤ). SFits w64 (z +ℤ pos 32768)) (sym read) (sfits-of-nat_abs w64 {b = 6 * (entry_limit * growth_limit) + matrix_unit} (omega (arith, nat_abs-add (transposed 6 (matrix_of m) (vector r) i) (pos 32768), N-small)) (lit< tt))

  r-is : to_z w64 (of_z w64 (shr_z (to_z w64 (of_z w64 (to_z w64 (of_z w64 product) +ℤ pos 32768))) matrix_unit)) ≡ next_r 6 (matrix_of m) (vector r) i
  r-is =
      read-shifted w64 (to_z w64 (of_z w64 product) +ℤ pos 32768) matrix_unit more-fits.sfits ∙ ap (λ (z : ℤ). shr_z (z +ℤ pos 32768) matrix_unit) read

  r-small : nat_abs (next_r 6 (matrix_of m) (vector r) i) ≤ 12 * growth_limit + 2
  r-small = quotient (transposed 6 (matrix_of m) (vector r) i +ℤ pos 32768) (omega (arith, nat_abs-add (transposed 6 (matrix_of m) (vector r) i) (pos 32768), N-small))
    where
      quotient : (z : ℤ) → nat_abs z ≤ 6 * (entry_limit * growth_limit) + matrix_unit → nat_abs (shr_z z matrix_unit) ≤ 12 * growth_limit + 2
      quotient (pos a) l = omega arith
      quotient (negsuc a) l = omega arith

-- the errors before they are divided, and the next e
module _ (m r e : List ℤ) (i : ℕ) (bounded : BoundedErrors m e) where
  sum-small : error_sum 6 (matrix_of m) (magnitudes e) i ≤ 6 * (entry_limit * error_limit)
  sum-small = error_sum-small 6 (matrix_of m) (λ p j. bounded.bounded.entries (6 * p + j)) i (magnitudes e) bounded.bounded.values

  e-small : next_e 6 (matrix_of m) (vector r) (magnitudes e) i ≤ 12 * error_limit + 1
  e-small =
      omega (arith, sum-small, fraction-le-one (transposed 6 (matrix_of m) (vector r) i) matrix_unit)

pub overflow_add-nearest : goal.overflow_add-nearest
overflow_add-nearest c = more-fits c.args.matrix.now c.args.r.now c.args.i c.requires.1 c.product_sum-product.ensures

pub overflow_add-up : goal.overflow_add-up
overflow_add-up c = omega (arith, sum-small c.args.matrix.now c.args.r.now c.args.e.now c.args.i c.requires.2, c.error_sum-errors.ensures)

pub returns : goal.returns
returns c =
    let a = c.args in
    let m = a.matrix.now in
    let r = a.r.now in
    let e = a.e.now in
    let of-r = r-is m r a.i c.requires.1 c.product_sum-product.ensures in
    let of-e = ap₂ ◌+◌ (ap (λ (s : ℕ). ceil_div_ℕ s matrix_unit) c.error_sum-errors.ensures) (c.fraction.ensures ∙ ap (λ (z : ℤ). fraction z matrix_unit) (read m r a.i c.requires.1 c.product_sum-product.ensures)) in
    let small-e = e-small m r e a.i c.requires.2 in
    let of-halves = ap₂ (λ (x y : ℕ). 2 * x + y) (c.unsigned_abs.ensures.value ∙ ap nat_abs of-r) of-e in
    record {
      direction = of-r;
      error = to_z_pos w64 (omega (arith, of-e, small-e)) ∙ ap pos of-e;
      halves = of-halves;
      small = omega (arith, of-halves, small-e, r-small m r a.i c.requires.1 c.product_sum-product.ensures);
    }
