-- File 3, File 7, Refusals 16 and Forms 11: the numbers of a body, and that the entries beyond n are zero. Definitions only. The table
-- of kinds (records *Kinds*) says which records have entries, where the first of them stands and how many bytes each has. Bytes beyond
-- the end of a body count as 0. Assumes nothing.
use Rattle.std.specs.Prelude.{Bool, cond, ◌||◌, List, ◌∷◌, [], ℕ, ◌+◌, ◌*◌, eqb, ltb, Float, ℤ, nat_abs, get_or}
use Rattle.std.specs.Float.{binary64}
use Rattle.std.specs.Float.Ieee.{of_bits}
use Rattle.integers.specs.Sums.{all_below, tabulate}
use Rattle.coefficients.specs.declared.rows.FittedRow.{FittedRow}
use Rattle.coefficients.specs.Binary64.{is_zero}
use Rattle.numbers.specs.Numbers.{little_endian, signed_at}
use Rattle.records.specs.declared.kinds.Layout.{Layout}

-- ---- the numbers of a body

-- File 3, Routines 21: n, the number of a row and the number of a guard's direction are the byte that a body starts with.
abbrev pub first_byte : List ℕ → ℕ
first_byte body = get_or body 0 0

-- File 3: entry i of six, of 4 bytes each, the first of which stands at the offset `at` of a body.
abbrev pub entry_at : List ℕ → ℕ → ℕ → ℤ
entry_at body at i = signed_at 4 body (at + 4 * i)

-- File 3, Routines 21: the six entries of a body, of 4 bytes each.
unfoldable pub six_at : List ℕ → ℕ → List ℤ
six_at body at = tabulate 6 (entry_at body at)

-- File 3: an entry of 8 bytes is fitted; these are its 64 bits.
abbrev pub fitted_width : ℕ
fitted_width = 8

abbrev pub bits_at : List ℕ → ℕ → ℕ → ℕ
bits_at body at i = little_endian 8 body (at + 8 * i)

-- Forms 11, Routines 21: the number of a fitted row and its six values.
abbrev pub fitted_at : List ℕ → ℕ → ℕ → Float
fitted_at body at i = of_bits binary64 (bits_at body at i)

abbrev pub held_row : List ℕ → ℕ → FittedRow
held_row body at =
    record {
      number = first_byte body;
      values = fitted_at body at 0 ∷ fitted_at body at 1 ∷ fitted_at body at 2 ∷ fitted_at body at 3 ∷ fitted_at body at 4 ∷ fitted_at body at 5 ∷ [];
    }

-- ---- the entries beyond n

abbrev pub entry_zero : List ℕ → ℕ → ℕ → Bool
entry_zero body at i = eqb (nat_abs (entry_at body at i)) 0

-- Entry i is zero, by the bytes of an entry. Of a fitted one either zero is.
abbrev pub column_zero : ℕ → ℕ → List ℕ → ℕ → Bool
column_zero at width body i = cond (eqb width fitted_width) (is_zero (bits_at body at i)) (entry_zero body at i)

-- Refusals 16 does not apply (Routines 19): each of the six entries, if there are any, is one of the first n, or zero.
unfoldable pub unused_zero : ℕ → Layout → List ℕ → Bool
unused_zero n l body = eqb l.width 0 || all_below 6 (λ i. ltb i n || column_zero l.first l.width body i)
