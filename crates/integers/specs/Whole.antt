-- Whole numbers: an order, the roundings of a quotient, divisibility, and distance. They serve "Recurrence", "Accuracy" and "File"
-- of docs/SPECIFICATION.md. Definitions only.
-- The numbers are the library's ℤ (`lib.IntN`); sums, products and `nat_abs`, the magnitude, are the library's too.
-- Assumes nothing.
use Rattle.std.specs.Prelude.{ℕ, ◌+◌, ◌*◌, ◌-◌, ◌/◌, ◌%◌, ◌≤◌, Bool, cond, eqb, ltb, ℤ, pos, neg_ℤ, nat_abs, ◌+ℤ◌, ◌-ℤ◌, ◌≤ℤ◌}
use Rattle.std.specs.Int.Signed.{shr_z}

-- The library's order `◌≤ℤ◌`, which binds tighter than a sum, at the usual precedence.
infix 4 ◌⩽◌
abbrev pub ◌⩽◌ : ℤ → ℤ → Type 0
a ⩽ b = a ≤ℤ b

-- a / m rounded down, whatever the sign of a.
abbrev pub floor_div : ℤ → ℕ → ℤ
floor_div a m = shr_z a m

-- a / m rounded to the nearest whole number, a half going up, whatever the sign of a (Recurrence 4).
abbrev pub nearest_div : ℤ → ℕ → ℤ
nearest_div a m = floor_div (a +ℤ pos (m / 2)) m

-- a / m of natural numbers rounded to the nearest whole number, and of two that are equally near to the even one (File 12).
unfoldable pub nearest_even : ℕ → ℕ → ℕ
nearest_even a m = cond (ltb (2 * (a % m)) m) (a / m) (cond (ltb m (2 * (a % m))) (a / m + 1) (a / m + a / m % 2))

-- a / m rounded up (Recurrence 13).
abbrev pub ceil_div : ℤ → ℕ → ℤ
ceil_div a m = neg_ℤ (floor_div (neg_ℤ a) m)

-- The same of a natural number (Recurrence 5, 6, 11 and 14).
abbrev pub ceil_div_ℕ : ℕ → ℕ → ℕ
ceil_div_ℕ a m = (a + (m - 1)) / m

-- a is a multiple of m.
abbrev pub is_multiple : ℤ → ℕ → Bool
is_multiple a m = eqb (nat_abs a % m) 0

-- 0 where m divides a, else 1: what Recurrence 5 and Recurrence 14 add.
abbrev pub fraction : ℤ → ℕ → ℕ
fraction a m = cond (is_multiple a m) 0 1

-- a and b are at most e apart (Accuracy 6).
pub record Near (a b : ℤ) (e : ℕ) : Type 0 where
  pub within : nat_abs (a -ℤ b) ≤ e

-- a and b are at most e half units apart (Recurrence 1, File 13).
pub record NearHalves (a b : ℤ) (e : ℕ) : Type 0 where
  pub within : 2 * nat_abs (a -ℤ b) ≤ e
