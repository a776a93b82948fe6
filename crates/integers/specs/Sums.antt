-- Vectors, matrices, sums and dot products. Definitions only.
-- A vector is a function of the coordinate's number, counted from 0, with the count n of coordinates beside it; a stored
-- list enters by `vector`. A matrix is a function of the row and then the column.
-- Assumes nothing.
use Rattle.std.specs.Prelude.{ℕ, zero, suc, ◌+◌, ◌*◌, max, Bool, true, ◌&&◌, List, [], ◌∷◌, get_or, ℤ, pos, nat_abs, ◌+ℤ◌, ◌*ℤ◌}

-- The sum of f 0 up to f (n - 1).
unfoldable pub sum : ℕ → (ℕ → ℤ) → ℤ
sum zero f = pos 0
sum (suc n) f = sum n f +ℤ f n

unfoldable pub sum_ℕ : ℕ → (ℕ → ℕ) → ℕ
sum_ℕ zero f = 0
sum_ℕ (suc n) f = sum_ℕ n f + f n

-- The largest of f 0 up to f (n - 1), 0 where n is 0.
unfoldable pub max_ℕ : ℕ → (ℕ → ℕ) → ℕ
max_ℕ zero f = 0
max_ℕ (suc n) f = max (max_ℕ n f) (f n)

-- The test holds of 0 up to n - 1.
unfoldable pub all_below : ℕ → (ℕ → Bool) → Bool
all_below zero f = true
all_below (suc n) f = all_below n f && f n

-- a · b, as the specification writes it.
abbrev pub dot : ℕ → (ℕ → ℤ) → (ℕ → ℤ) → ℤ
dot n a b = sum n (λ i. a i *ℤ b i)

abbrev pub dot_ℕ : ℕ → (ℕ → ℕ) → (ℕ → ℕ) → ℕ
dot_ℕ n a b = sum_ℕ n (λ i. a i * b i)

-- The matrix m times x (Runs 4).
abbrev pub times : ℕ → (ℕ → ℕ → ℤ) → (ℕ → ℤ) → ℕ → ℤ
times n m x p = sum n (λ i. m p i *ℤ x i)

-- The transpose of m times r (Recurrence 3).
abbrev pub transposed : ℕ → (ℕ → ℕ → ℤ) → (ℕ → ℤ) → ℕ → ℤ
transposed n m r i = sum n (λ p. m p i *ℤ r p)

-- A stored list as a vector: 0 past its end.
abbrev pub vector : List ℤ → ℕ → ℤ
vector xs i = get_or xs i (pos 0)

-- The magnitudes of a stored list's elements.
abbrev pub magnitudes : List ℤ → ℕ → ℕ
magnitudes xs i = nat_abs (vector xs i)

-- Six rows of six, stored one after the other.
abbrev pub matrix : List ℤ → ℕ → ℕ → ℤ
matrix xs p i = vector xs (6 * p + i)

-- The list of f 0 up to f (n - 1).
abbrev pub tabulate : ℕ → (ℕ → ℤ) → List ℤ
tabulate zero f = []
tabulate (suc n) f = f 0 ∷ tabulate n (λ i. f (suc i))
