-- Figures 28: one coordinate, a fitted row with 0.5 and something in its last column, and a drift with something in its second. By
-- computation. Assumes nothing.
use mathlib.Core.Path.{◌≡◌, refl}
use mathlib.Core.List.{List, ◌∷◌, ◌++◌, []}
use Prim.Native.Nat.{ℕ}
use lib.ListN.{replicate}
use Rattle.integers.specs.Sums.{all_below, sum_ℕ, max_ℕ}
use Rattle.integers.specs.Whole.{nearest_even}
use Rattle.coefficients.specs.Binary64.{binary64_unit, magnitude_of, is_zero}
use Rattle.coefficients.specs.Entries.{fitted_ok, fitted_entry, entry_of_bits}
use Rattle.coefficients.specs.Rows.{first_number}
use Rattle.records.specs.Kinds.{body_length, layout_of}
use Rattle.records.specs.Records.{record_at}
use Rattle.numbers.specs.Numbers.{little_endian}
use Rattle.records.specs.Order.{may_follow}
use Rattle.columns.specs.Columns.{unused_zero, six_at}
use Rattle.std.specs.Prelude.{IsOk}
use Rattle.filling.specs.Models.{zeros, blank_set, blank_model, put_row}
use Rattle.reader.specs.Models.{start, with_head, with_row, with_drift, with_point, with_set_point, with_direction}
use Rattle.reader.specs.Values.{body_number, row_number, drift_ok, point_ok, direction_ok}
use Rattle.reader.specs.Refusals.{kind_number, refusal, stored}
use Rattle.reader.specs.Reading.{stop_for, number_at, offset_at, reading_at, read_from, read_model, refused}

-- The number of the row, the first and the last byte of its last column, and the first byte of the drift's second column.
abbrev unclean : ℕ → ℕ → ℕ → ℕ → List ℕ
unclean row low high drift =
    (0x01 ∷ 1 ∷ 1 ∷ 0 ∷ [])
    ++ (0x03 ∷ row ∷ replicate 6 0)
    ++ (0xE0 ∷ 0x3F ∷ replicate 32 0)
    ++ (low ∷ replicate 6 0)
    ++ (high ∷ 0x05 ∷ replicate 4 0)
    ++ (drift ∷ replicate 19 0)
    ++ (0x14 ∷ replicate 24 0)
    ++ (0x30 ∷ 1 ∷ replicate 23 0)
    ++ (0xFF ∷ [])

pub negative-zero-read : IsOk (read_model (unclean 0 0 0x80 0))
unfolding all_below unused_zero is_zero sum_ℕ max_ℕ binary64_unit magnitude_of nearest_even fitted_ok fitted_entry entry_of_bits first_number body_length record_at little_endian may_follow layout_of zeros blank_set blank_model start six_at put_row with_head with_row with_drift with_point with_set_point with_direction row_number drift_ok point_ok direction_ok body_number kind_number refusal stored stop_for number_at reading_at read_from read_model
negative-zero-read = refl

pub negative-zero-stored : read_model (unclean 0 0 0x80 0) ≡ read_model (unclean 0 0 0 0)
unfolding all_below unused_zero is_zero sum_ℕ max_ℕ binary64_unit magnitude_of nearest_even fitted_ok fitted_entry entry_of_bits first_number body_length record_at little_endian may_follow layout_of zeros blank_set blank_model start six_at put_row with_head with_row with_drift with_point with_set_point with_direction row_number drift_ok point_ok direction_ok body_number kind_number refusal stored stop_for number_at reading_at read_from read_model
negative-zero-stored = refl

pub smallest-refused : read_model (unclean 0 1 0 0) ≡ refused 16 4
unfolding all_below unused_zero is_zero magnitude_of body_length record_at little_endian may_follow layout_of blank_model start with_head body_number kind_number refusal stored stop_for number_at offset_at reading_at read_from read_model
smallest-refused = refl

pub row-number-later : read_model (unclean 1 1 0 0) ≡ refused 16 4
unfolding all_below unused_zero is_zero magnitude_of body_length record_at little_endian may_follow layout_of blank_model start with_head body_number kind_number refusal stored stop_for number_at offset_at reading_at read_from read_model
row-number-later = refl

pub row-number-wrong : read_model (unclean 1 0 0 0) ≡ refused 5 4
unfolding all_below unused_zero is_zero magnitude_of body_length record_at little_endian may_follow layout_of blank_model start with_head row_number body_number kind_number refusal stored stop_for number_at offset_at reading_at read_from read_model
row-number-wrong = refl

pub drift-unclean : read_model (unclean 0 0 0x80 1) ≡ refused 16 54
unfolding all_below unused_zero is_zero binary64_unit magnitude_of nearest_even fitted_ok fitted_entry entry_of_bits first_number body_length record_at little_endian may_follow layout_of zeros blank_set blank_model start put_row with_head with_row row_number body_number kind_number refusal stored stop_for number_at offset_at reading_at read_from read_model
drift-unclean = refl
