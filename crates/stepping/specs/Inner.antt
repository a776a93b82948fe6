-- What the inner functions ask of each other and leave, after `step` has tested its arguments. Definitions only; no public
-- contract cites them. Assumes nothing.
use Rattle.std.specs.Prelude.{◌≡◌, Bool, cond, ◌||◌, List, ℕ, ◌+◌, ◌*◌, ◌≤◌, ◌<◌, T, ltb, eqb, ℤ, pos, nat_abs}
use Rattle.std.specs.Int.Signed.{non_neg}
use Rattle.integers.specs.Sums.{vector, magnitudes, matrix, all_below, tabulate}
use Rattle.stepping.specs.Limits.{entry_limit, growth_limit, error_limit}
use Rattle.stepping.specs.Recurrence.{next_r, next_e, growth_sum}

-- Entries and values within their limits.
pub record Bounded (limit : ℕ) (m xs : List ℤ) : Type 0 where
  pub entries : (k : ℕ) → nat_abs (vector m k) ≤ entry_limit
  pub values : (i : ℕ) → i < 6 → nat_abs (vector xs i) ≤ limit

-- The same of errors, none of which is below 0.
pub record BoundedErrors (m e : List ℤ) : Type 0 where
  pub bounded : Bounded error_limit m e
  pub natural : (i : ℕ) → i < 6 → T (non_neg (vector e i))

-- Where the zeros of row p of an n by n matrix begin: past its n columns, or in a row past its n rows at once.
abbrev pub zeros_from : ℕ → ℕ → ℕ
zeros_from n p = cond (ltb p n) n 0

-- Row p is zero from column `from` on.
abbrev pub row_zero : ℕ → ℕ → List ℤ → Bool
row_zero p from m = all_below 6 (λ i. ltb i from || eqb (nat_abs (matrix m p i)) 0)

-- Each entry outside the n by n matrix is zero, row by row.
abbrev pub zero_around : ℕ → List ℤ → Bool
zero_around n m = all_below 6 (λ p. row_zero p (zeros_from n p) m)

-- r and e one step on in coordinate i, and their sum s in half units; columns have six rows.
pub record Advances (m r e : List ℤ) (i : ℕ) (r' e' : ℤ) (s : ℕ) : Type 0 where
  pub direction : r' ≡ next_r 6 (matrix m) (vector r) i
  pub error : e' ≡ pos (next_e 6 (matrix m) (vector r) (magnitudes e) i)
  pub halves : s ≡ 2 * nat_abs (next_r 6 (matrix m) (vector r) i) + next_e 6 (matrix m) (vector r) (magnitudes e) i
  pub small : s ≤ 48 * growth_limit + 5

-- r and e one step on in all six coordinates, and their growth sum.
pub record Advanced (m r e r' e' : List ℤ) (s : ℕ) : Type 0 where
  pub direction : r' ≡ tabulate 6 (next_r 6 (matrix m) (vector r))
  pub errors : e' ≡ tabulate 6 (λ i. pos (next_e 6 (matrix m) (vector r) (magnitudes e) i))
  pub sum : s ≡ growth_sum 6 (next_r 6 (matrix m) (vector r)) (next_e 6 (matrix m) (vector r) (magnitudes e))
