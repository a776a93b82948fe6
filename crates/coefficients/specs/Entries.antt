-- File 12, Refusals 5 and 15, Routines 18: the matrix entry that a scaled or a fitted entry of a row becomes. Definitions only.
-- Assumes nothing.
use Rattle.std.specs.Prelude.{ℕ, ◌*◌, Bool, cond, ◌&&◌, ℤ, pos, nat_le, to_bits, unsigned_abs, Result, Ok, Err}
use Rattle.std.specs.Float.{binary64}
use Rattle.integers.specs.Whole.{nearest_even}
use Rattle.stepping.specs.Limits.{matrix_unit, entry_limit}
use Rattle.coefficients.specs.declared.Coefficient.{Coefficient}
use Rattle.coefficients.specs.declared.Coefficient.TheVariants.{Scaled, Fitted}
use Rattle.coefficients.specs.declared.EntryRefusal.{EntryRefusal}
use Rattle.coefficients.specs.Binary64.{is_negative, is_finite, binary64_unit, magnitude_of, signed}

-- Refusals 15 does not apply: the number is finite and not above 2 in magnitude.
unfoldable pub fitted_ok : ℕ → Bool
fitted_ok bits = is_finite bits && nat_le (magnitude_of bits) (2 * binary64_unit)

-- File 12: the whole number nearest to 65,536 times the exact value, a tie to the even one. The magnitude is rounded: the sign
-- changes neither the distance nor what is even.
unfoldable pub fitted_entry : ℕ → ℤ
fitted_entry bits = signed (is_negative bits) (nearest_even (matrix_unit * magnitude_of bits) binary64_unit)

-- Routines 18: the entry of 64 bits, or number 15.
unfoldable pub entry_of_bits : ℕ → Result ℤ EntryRefusal
entry_of_bits bits = cond (fitted_ok bits) (Ok (fitted_entry bits)) (Err EntryRefusal.Fitted)

-- Limits 3: a scaled entry, or number 5.
unfoldable pub scaled_entry : ℤ → Result ℤ EntryRefusal
scaled_entry entry = cond (nat_le (unsigned_abs entry) entry_limit) (Ok entry) (Err EntryRefusal.Scaled)

-- Forms 9: an entry is either scaled or fitted. `to_bits` gives the bits of a binary64 number and, of the NaN, one of its patterns.
unfoldable pub entry_of : Coefficient → Result ℤ EntryRefusal
entry_of (Scaled entry) = scaled_entry entry
entry_of (Fitted value) = entry_of_bits (to_bits binary64 value)

-- Forms 7: the number of each refusal.
abbrev pub entry_refusal_number : EntryRefusal → ℕ
entry_refusal_number EntryRefusal.Scaled = 5
entry_refusal_number EntryRefusal.Fitted = 15

-- Forms 7: the number of an answer, 0 where it is an entry, and the entry, 0 where there is none.
abbrev pub entry_number : Result ℤ EntryRefusal → ℕ
entry_number (Ok entry) = 0
entry_number (Err refusal) = entry_refusal_number refusal

abbrev pub entry_value : Result ℤ EntryRefusal → ℤ
entry_value (Ok entry) = entry
entry_value (Err refusal) = pos 0
