-- The law of a step: where a working direction with its errors, which count half units, stands for an exact direction, so do the
-- stepped ones, at 65,536 times the scale. For any matrix, so that a sequence of matrices needs nothing new. Assumes nothing.
use mathlib.Core.Path.{◌≡◌, subst, ◌∙◌}
use Prim.Native.Nat.{ℕ, ◌+◌, ◌*◌, ◌≤◌}
use native.Mathlib.Nat.{le_refl, mul-le-mul_left}
use native.Mathlib.Omega.{arith}
use lib.Dec.{lit<}
use lib.IntN.{ℤ, pos, nat_abs, ◌*ℤ◌}
use Rattle.integers.specs.Whole.{NearHalves, ceil_div_ℕ, fraction}
use Rattle.integers.specs.Sums.{sum, sum_ℕ, transposed}
use Rattle.integers.proofs.SignedParts.{v, #, ◌⊗◌, eq! }
use Rattle.integers.proofs.Order.{halves-of-eq, halves-mono, halves-trans, halves-scale, halves-times}
use Rattle.integers.proofs.Rounding.{halves-nearest_div, ceil_div_ℕ-le}
use Rattle.integers.proofs.Sums.{sum-cong, sum-scale, sum_ℕ-cong, sum_ℕ-scale, halves-sum}
use Rattle.stepping.specs.Limits.{matrix_unit}
use Rattle.stepping.specs.Recurrence.{Stands, first_r, first_e, next_r, next_e, error_sum}

-- The first working direction is exact.
pub stands-first : (n : ℕ) (d : ℕ → ℤ) → Stands n 1 (first_r d) (first_r d) first_e
stands-first n d = record { near = λ i h. halves-of-eq (eq! (v (first_r d i)) (# 1 ⊗ v (first_r d i)) (omega arith)) }

module _ (n s : ℕ) (m : ℕ → ℕ → ℤ) (x r : ℕ → ℤ) (e : ℕ → ℕ) (stands : Stands n s x r e) (i : ℕ) where
  -- before rounding: column i of the exact direction, and of s × r
  column : NearHalves (transposed n m x i) (sum n (λ p. m p i *ℤ (pos s *ℤ r p))) (sum_ℕ n (λ p. nat_abs (m p i) * (s * e p)))
  column = halves-sum n (λ p h. halves-times (m p i) (le_refl (nat_abs (m p i))) (stands.near p h))

  scaled-sum : sum n (λ p. m p i *ℤ (pos s *ℤ r p)) ≡ pos s *ℤ transposed n m r i
  scaled-sum =
      sum-cong n (λ p h. eq! (v (m p i) ⊗ (# s ⊗ v (r p))) (# s ⊗ (v (m p i) ⊗ v (r p))) (omega arith)) ∙ sum-scale n (pos s) (λ p. m p i *ℤ r p)

  scaled-errors : sum_ℕ n (λ p. nat_abs (m p i) * (s * e p)) ≡ s * error_sum n m e i
  scaled-errors = sum_ℕ-cong n (λ p h. turned (nat_abs (m p i)) (e p)) ∙ sum_ℕ-scale n s (λ p. nat_abs (m p i) * e p)
    where
      turned : (a b : ℕ) → a * (s * b) ≡ s * (a * b)
      turned a b = omega arith

  before : NearHalves (transposed n m x i) (pos s *ℤ transposed n m r i) (s * error_sum n m e i)
  before = subst (λ (z : ℤ). NearHalves (transposed n m x i) z (s * error_sum n m e i)) scaled-sum (subst (λ (k : ℕ). NearHalves (transposed n m x i) (sum n (λ p. m p i *ℤ (pos s *ℤ r p))) k) scaled-errors column)

  -- what rounding adds
  rounded : NearHalves (pos s *ℤ transposed n m r i) (pos s *ℤ (pos matrix_unit *ℤ next_r n m r i)) (s * (matrix_unit * fraction (transposed n m r i) matrix_unit))
  rounded = halves-scale s (halves-nearest_div (transposed n m r i) matrix_unit (lit< tt))

  regrouped : pos s *ℤ (pos matrix_unit *ℤ next_r n m r i) ≡ pos (matrix_unit * s) *ℤ next_r n m r i
  regrouped = eq! (# s ⊗ (# matrix_unit ⊗ v (next_r n m r i))) (# (matrix_unit * s) ⊗ v (next_r n m r i)) (omega arith)

  enough : s * error_sum n m e i + s * (matrix_unit * fraction (transposed n m r i) matrix_unit) ≤ matrix_unit * s * next_e n m r e i
  enough = within (error_sum n m e i) (ceil_div_ℕ (error_sum n m e i) matrix_unit) (fraction (transposed n m r i) matrix_unit) (ceil_div_ℕ-le (error_sum n m e i) matrix_unit (lit< tt))
    where
      within : (a q f : ℕ) → a ≤ matrix_unit * q → s * a + s * (matrix_unit * f) ≤ matrix_unit * s * (q + f)
      within a q f h = omega (arith, mul-le-mul_left s h)

  stands_at : NearHalves (transposed n m x i) (pos (matrix_unit * s) *ℤ next_r n m r i) (matrix_unit * s * next_e n m r e i)
  stands_at = halves-mono enough (subst (λ (z : ℤ). NearHalves (transposed n m x i) z (s * error_sum n m e i + s * (matrix_unit * fraction (transposed n m r i) matrix_unit))) regrouped (halves-trans before rounded))

pub stands-step : (n s : ℕ) (m : ℕ → ℕ → ℤ) (x r : ℕ → ℤ) (e : ℕ → ℕ) → Stands n s x r e → Stands n (matrix_unit * s) (transposed n m x) (next_r n m r) (next_e n m r e)
stands-step n s m x r e h = record { near = λ i l. stands_at n s m x r e h i }
