-- File 11: the value of a fitted entry, a binary64 number of IEEE 754, from its 64 bits and over whole numbers. Definitions only.
-- Assumes nothing.
use Rattle.std.specs.Prelude.{ℕ, ◌+◌, ◌-◌, ◌*◌, ◌/◌, ◌%◌, ◌^◌, Bool, cond, ◌&&◌, ℤ, pos, neg_ℤ, ◌==◌, nat_le, nat_lt}

-- The highest bit: the sign.
abbrev pub is_negative : ℕ → Bool
is_negative bits = nat_le (2 ^ 63) bits

-- The 11 bits below it: the exponent.
abbrev pub exponent_of : ℕ → ℕ
exponent_of bits = bits % 2 ^ 63 / 2 ^ 52

-- The 52 lowest bits: the fraction.
abbrev pub fraction_of : ℕ → ℕ
fraction_of bits = bits % 2 ^ 52

-- An exponent of ones, 2,047, marks infinities and NaNs.
abbrev pub is_finite : ℕ → Bool
is_finite bits = nat_lt (exponent_of bits) 2047

-- The fraction with a leading 1, which an exponent of 0 does not have.
abbrev pub significand_of : ℕ → ℕ
significand_of bits = cond (exponent_of bits == 0) (fraction_of bits) (2 ^ 52 + fraction_of bits)

-- The smallest number above 0 is 1 / 2^1074: so many of them make 1.
unfoldable pub binary64_unit : ℕ
binary64_unit = 2 ^ 1074

-- The magnitude of a finite number, counted in 1 / 2^1074. An exponent of 0 counts as 1.
unfoldable pub magnitude_of : ℕ → ℕ
magnitude_of bits = significand_of bits * 2 ^ (exponent_of bits - 1)

-- A magnitude with a sign.
abbrev pub signed : Bool → ℕ → ℤ
signed negative n = cond negative (neg_ℤ (pos n)) (pos n)

-- File 11: the exact value of a finite number, counted in 1 / 2^1074.
abbrev pub exact_value : ℕ → ℤ
exact_value bits = signed (is_negative bits) (magnitude_of bits)

-- File 11: zero, which has two patterns.
unfoldable pub is_zero : ℕ → Bool
is_zero bits = is_finite bits && magnitude_of bits == 0
