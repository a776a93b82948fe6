-- Laws of the recurrence's definitions, which callers cite in place of unfolding them. In order: equal matrices, r and e give
-- equal next ones and equal growth sums; what the growth limit says of each r and e; the first working direction; sizes; the raw
-- slack.
-- Assumes nothing.
use mathlib.Core.Path.{◌≡◌, refl, ap, ap₂, ◌∙◌}
use Prim.Native.Nat.{ℕ, zero, suc, ◌+◌, ◌*◌, ◌≤◌, ◌<◌, max}
use native.Mathlib.Nat.{le_refl, le_trans, mul-le-mul, mul-le-mul_left}
use native.Mathlib.Omega.{arith}
use lib.Dec.{lit<}
use lib.IntN.{ℤ, pos, nat_abs, ◌*ℤ◌}
use Rattle.integers.specs.Whole.{nearest_div, ceil_div_ℕ, fraction}
use Rattle.integers.specs.Sums.{transposed, max_ℕ}
use Rattle.integers.proofs.SignedParts.{v, #, ◌⊗◌, abs!, abs?, halves?}
use Rattle.integers.proofs.Order.{nat_abs_mul, nat_abs-mul-le, halves-mono}
use Rattle.integers.proofs.Rounding.{halves-nearest_div, fraction-le-one}
use Rattle.integers.proofs.Sums.{sum-cong, sum_ℕ-cong, sum_ℕ-bound, nat_abs-sum, max_ℕ-cong, le-max_ℕ, max_ℕ-le}
use Rattle.stepping.specs.Limits.{matrix_unit, direction_unit, entry_limit, growth_limit, error_limit}
use Rattle.stepping.specs.Recurrence.{first_r, first_e, next_r, next_e, error_sum, half_up, growth_sum, slack_of}

-- ---- equal in the first n coordinates

module _ (n : ℕ) {m m' : ℕ → ℕ → ℤ} {r r' : ℕ → ℤ} (same-m : (p i : ℕ) → p < n → m p i ≡ m' p i) (same-r : (p : ℕ) → p < n → r p ≡ r' p) where
  transposed-cong : (i : ℕ) → transposed n m r i ≡ transposed n m' r' i
  transposed-cong i = sum-cong n (λ p h. ap₂ ◌*ℤ◌ (same-m p i h) (same-r p h))

  pub next_r-cong : (i : ℕ) → next_r n m r i ≡ next_r n m' r' i
  next_r-cong i = ap (λ (z : ℤ). nearest_div z matrix_unit) (transposed-cong i)

  pub next_e-cong : {e e' : ℕ → ℕ} → ((p : ℕ) → p < n → e p ≡ e' p) → (i : ℕ) → next_e n m r e i ≡ next_e n m' r' e' i
  next_e-cong same-e i =
      ap₂ (λ (s : ℕ) (z : ℤ). ceil_div_ℕ s matrix_unit + fraction z matrix_unit) (sum_ℕ-cong n (λ p h. ap₂ (λ (z : ℤ) (k : ℕ). nat_abs z * k) (same-m p i h) (same-e p h))) (transposed-cong i)

pub growth_sum-cong : (n : ℕ) {r r' : ℕ → ℤ} {e e' : ℕ → ℕ} → ((i : ℕ) → i < n → r i ≡ r' i) → ((i : ℕ) → i < n → e i ≡ e' i) → growth_sum n r e ≡ growth_sum n r' e'
growth_sum-cong n same-r same-e = max_ℕ-cong n (λ i h. ap₂ (λ (z : ℤ) (k : ℕ). nat_abs z + half_up k) (same-r i h) (same-e i h))

-- The growth sum is half of the largest sum in half units, rounded up.
pub growth_sum-halves : (n : ℕ) (r : ℕ → ℤ) (e : ℕ → ℕ) → half_up (max_ℕ n (λ i. 2 * nat_abs (r i) + e i)) ≡ growth_sum n r e
unfolding max_ℕ
growth_sum-halves zero r e = refl
growth_sum-halves (suc n) r e = larger-halved (max_ℕ n (λ i. 2 * nat_abs (r i) + e i)) (nat_abs (r n)) (e n) ∙ ap (λ (k : ℕ). max k (nat_abs (r n) + half_up (e n))) (growth_sum-halves n r e)
  where
    larger-halved : (k a b : ℕ) → half_up (max k (2 * a + b)) ≡ max (half_up k) (a + half_up b)
    larger-halved k a b = omega arith

-- ---- within the growth limit

module _ (n : ℕ) (r : ℕ → ℤ) (e : ℕ → ℕ) (in-limit : growth_sum n r e ≤ growth_limit) (i : ℕ) (h : i < n) where
  each : nat_abs (r i) + half_up (e i) ≤ growth_limit
  each = le_trans (le-max_ℕ n (λ j. nat_abs (r j) + half_up (e j)) i h) in-limit

  pub value-le-limit : nat_abs (r i) ≤ growth_limit
  value-le-limit = omega (arith, each)

  pub error-le-limit : e i ≤ error_limit
  error-le-limit = omega (arith, each)

-- The first working direction of entries within a limit such as 1,000, since 1,048,576 × 1,000 is below 1,073,741,824.
pub growth_sum-first : (n limit : ℕ) → direction_unit * limit ≤ growth_limit → (d : ℕ → ℤ) → ((i : ℕ) → i < n → nat_abs (d i) ≤ limit) → growth_sum n (first_r d) first_e ≤ growth_limit
growth_sum-first n limit fits d small =
    max_ℕ-le n growth_limit (λ i h. omega (arith, nat_abs_mul (pos direction_unit) (d i), small i h))

-- ---- how large N, the errors of a column, and the next r and e can be

module _ (n : ℕ) (m : ℕ → ℕ → ℤ) (entries : (p i : ℕ) → nat_abs (m p i) ≤ entry_limit) (i : ℕ) where
  pub transposed-small : (r : ℕ → ℤ) → ((p : ℕ) → p < n → nat_abs (r p) ≤ growth_limit) → nat_abs (transposed n m r i) ≤ n * (entry_limit * growth_limit)
  transposed-small r values =
      le_trans (nat_abs-sum n (λ p. m p i *ℤ r p) (λ p. entry_limit * growth_limit) (λ p h. nat_abs-mul-le (m p i) (r p) (entries p i) (values p h))) (sum_ℕ-bound n (entry_limit * growth_limit) (λ p h. le_refl (entry_limit * growth_limit)))

  pub error_sum-small : (e : ℕ → ℕ) → ((p : ℕ) → p < n → e p ≤ error_limit) → error_sum n m e i ≤ n * (entry_limit * error_limit)
  error_sum-small e values = sum_ℕ-bound n (entry_limit * error_limit) (λ p h. mul-le-mul (entries p i) (values p h))

pub nearest-small : (z : ℤ) → nat_abs z ≤ 6 * (entry_limit * growth_limit) → nat_abs (nearest_div z matrix_unit) ≤ 12 * growth_limit
nearest-small z h =
    let q = nearest_div z matrix_unit in
    let near = halves? (v z) (# matrix_unit ⊗ v q) (matrix_unit * 1) (halves-mono (mul-le-mul_left matrix_unit (fraction-le-one z matrix_unit)) (halves-nearest_div z matrix_unit (lit< tt))) in
    let size = abs? (v z) (6 * (entry_limit * growth_limit)) h in
    abs! (v q) (12 * growth_limit) (omega arith) (omega arith)

-- the nearest whole number is no larger than a whole number that the quotient doesn't pass
pub nearest-within : (z : ℤ) (b : ℕ) → nat_abs z ≤ b * matrix_unit → nat_abs (nearest_div z matrix_unit) ≤ b
nearest-within z b h =
    let q = nearest_div z matrix_unit in
    let near = halves? (v z) (# matrix_unit ⊗ v q) (matrix_unit * 1) (halves-mono (mul-le-mul_left matrix_unit (fraction-le-one z matrix_unit)) (halves-nearest_div z matrix_unit (lit< tt))) in
    let size = abs? (v z) (b * matrix_unit) h in
    abs! (v q) b (omega arith) (omega arith)

pub ceil-small : (a f : ℕ) → a ≤ 6 * (entry_limit * error_limit) → f ≤ 1 → ceil_div_ℕ a matrix_unit + f ≤ 12 * error_limit + 1
ceil-small a f h k = omega arith

-- ---- the raw slack

-- Two halves of an odd t, rounded up, are t + 1; they have the slack that t has, since an odd t is no multiple of 1,048,576.
pub slack_of-halves : (raw : ℤ) (t : ℕ) → slack_of raw (2 * half_up t) ≡ slack_of raw t
slack_of-halves raw t = ap (λ (k : ℕ). k + fraction raw direction_unit) (alike t)
  where
    alike : (t : ℕ) → ceil_div_ℕ (2 * half_up t) direction_unit ≡ ceil_div_ℕ t direction_unit
    alike t = omega arith
