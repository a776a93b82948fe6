-- The growth sum that a step leaves: each r is a sum of at most six products of an entry and a value, divided by 65,536, and each e
-- likewise; 6 × 131,072 / 65,536 is 12, and the roundings add at most 1. Assumes nothing.
use mathlib.Core.Path.{◌≡◌, ap}
use mathlib.Core.Bool.{true}
use mathlib.Core.List.{List}
use Prim.Native.Nat.{ℕ, ◌+◌, ◌*◌, ◌≤◌, ◌<◌}
use native.Mathlib.Nat.{le_trans, mul-le-mul_right}
use native.Mathlib.Omega.{arith}
use lib.IntN.{ℤ, pos, neg_ℤ, nat_abs}
use Rattle.integers.specs.Whole.{fraction}
use Rattle.integers.specs.Sums.{vector, magnitudes, matrix, transposed}
use Rattle.integers.proofs.Booleans.{and-true}
use Rattle.integers.proofs.Rounding.{fraction-le-one}
use Rattle.integers.proofs.Sums.{max_ℕ-le}
use Rattle.integers.proofs.Machine.{get_or-tabulate}
use Rattle.arrays.specs.Tests.{all_between, zero_outside}
use Rattle.arrays.proofs.Tests.{all_between-at}
use Rattle.stepping.specs.Limits.{matrix_unit, entry_limit, growth_limit, error_limit}
use Rattle.stepping.specs.Recurrence.{next_r, next_e, error_sum, half_up, growth_sum}
use Rattle.stepping.specs.Refusals.{working_ok, matrix_ok, step_ok, stepped_r, stepped_e}
use Rattle.stepping.proofs.Recurrence.{value-le-limit, error-le-limit, transposed-small, error_sum-small, nearest-small, ceil-small}
use Rattle.stepping.proofs.Working.{WorkingFacts, working-facts, dimension-most}

module _ (n : ℕ) (m r e : List ℤ) (ok : step_ok n m r e ≡ true) where
  tests : (working_ok n r e ≡ true) × (matrix_ok n m ≡ true)
  tests = and-true (working_ok n r e) (matrix_ok n m) ok

  facts : WorkingFacts n r e
  facts = working-facts n r e tests.0

  entry : (k : ℕ) → nat_abs (vector m k) ≤ entry_limit
  entry = all_between-at entry_limit m (and-true (all_between (neg_ℤ (pos entry_limit)) (pos entry_limit) m) (zero_outside n n m) tests.1).0

  -- n terms of at most c are at most six
  six : (c : ℕ) → n * c ≤ 6 * c
  six c = mul-le-mul_right c (dimension-most facts.dimension)

  next_r-small : (i : ℕ) → nat_abs (next_r n (matrix m) (vector r) i) ≤ 12 * growth_limit
  next_r-small i =
      nearest-small (transposed n (matrix m) (vector r) i) (le_trans (transposed-small n (matrix m) (λ p j. entry (6 * p + j)) i (vector r) (value-le-limit n (vector r) (magnitudes e) facts.in-limit)) (six (entry_limit * growth_limit)))

  next_e-small : (i : ℕ) → next_e n (matrix m) (vector r) (magnitudes e) i ≤ 12 * error_limit + 1
  next_e-small i =
      ceil-small (error_sum n (matrix m) (magnitudes e) i) (fraction (transposed n (matrix m) (vector r) i) matrix_unit) (le_trans (error_sum-small n (matrix m) (λ p j. entry (6 * p + j)) i (magnitudes e) (error-le-limit n (vector r) (magnitudes e) facts.in-limit)) (six (entry_limit * error_limit))) (fraction-le-one (transposed n (matrix m) (vector r) i) matrix_unit)

  pub growth_sum-stepped-small : growth_sum n (vector (stepped_r n m r)) (magnitudes (stepped_e n m r e)) ≤ 24 * growth_limit + 1
  growth_sum-stepped-small = max_ℕ-le n (24 * growth_limit + 1) (λ i h. each i (native.Mathlib.Nat.lt_of_lt_of_le h (dimension-most facts.dimension)))
    where
      each : (i : ℕ) → i < 6 → nat_abs (vector (stepped_r n m r) i) + half_up (magnitudes (stepped_e n m r e) i) ≤ 24 * growth_limit + 1
      each i h =
          let of-r = ap nat_abs (get_or-tabulate 6 (next_r n (matrix m) (vector r)) i (pos 0) h) in
          let of-e = ap nat_abs (get_or-tabulate 6 (λ j. pos (next_e n (matrix m) (vector r) (magnitudes e) j)) i (pos 0) h) in
          omega (arith, of-r, next_r-small i, of-e, next_e-small i)
