-- Sixteen rows of six numbers in a stored array: a row, and what a column comes to (Routines 16). Definitions only.
-- Assumes nothing.
use Rattle.std.specs.Prelude.{Bool, cond, ◌&&◌, List, ℕ, leb, ltb, ℤ, pos, nat_abs}
use Rattle.integers.specs.Sums.{matrix, sum_ℕ, max_ℕ, tabulate}

-- Row number k; zeros where there is no such row.
abbrev pub row_of : List ℤ → ℕ → List ℤ
row_of xs k = cond (ltb k 16) (tabulate 6 (matrix xs k)) (tabulate 6 (λ i. pos 0))

-- There are so many rows, and a column i.
abbrev pub in_rows : ℕ → ℕ → Bool
in_rows count i = leb count 16 && ltb i 6

-- The sum of |element i| over the first rows, and the largest; 0 where there are not so many rows, or no such column.
abbrev pub column_sum : List ℤ → ℕ → ℕ → ℕ
column_sum xs count i = cond (in_rows count i) (sum_ℕ count (λ k. nat_abs (matrix xs k i))) 0

abbrev pub column_most : List ℤ → ℕ → ℕ → ℕ
column_most xs count i = cond (in_rows count i) (max_ℕ count (λ k. nat_abs (matrix xs k i))) 0
