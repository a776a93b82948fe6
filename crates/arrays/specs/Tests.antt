-- Tests over the elements of a stored array, and the first number that applies (Routines 16). Definitions only. Assumes nothing.
use Rattle.std.specs.Prelude.{Bool, cond, ◌&&◌, ◌||◌, List, ℕ, ◌/◌, ◌%◌, ltb, eqb, length, ℤ, nat_abs}
use Rattle.std.specs.Int.Signed.{le_z}
use Rattle.integers.specs.Sums.{vector, all_below}

-- x is from low to high.
abbrev pub between : ℤ → ℤ → ℤ → Bool
between low high x = le_z low x && le_z x high

-- Each element is from low to high (Limits 3, Limits 5).
abbrev pub all_between : ℤ → ℤ → List ℤ → Bool
all_between low high xs = all_below (length xs) (λ k. between low high (vector xs k))

-- Place k of rows of six lies in the first `rows` rows and the first `columns` columns, or x is zero.
abbrev pub zero_unless : ℕ → ℕ → ℕ → ℤ → Bool
zero_unless rows columns k x = (ltb (k / 6) rows && ltb (k % 6) columns) || eqb (nat_abs x) 0

-- Each element outside the first `rows` rows and the first `columns` columns is zero (Limits 9).
abbrev pub zero_outside : ℕ → ℕ → List ℤ → Bool
zero_outside rows columns xs = all_below (length xs) (λ k. zero_unless rows columns k (vector xs k))

-- Reading 1: the first of two numbers that is not 0.
abbrev pub first_of : ℕ → ℕ → ℕ
first_of a b = cond (eqb a 0) b a
