-- Figures 26, of files: a drift of 1,048,576 beside the input box from 0 to 0 and from 0 to 1, and a drift of 1,048,577. By
-- computation. Assumes nothing.
use mathlib.Core.Path.{◌≡◌, refl}
use mathlib.Core.List.{List, ◌∷◌, ◌++◌, []}
use Prim.Native.Nat.{ℕ}
use lib.ListN.{replicate}
use Rattle.integers.specs.Sums.{all_below, sum_ℕ, max_ℕ}
use Rattle.coefficients.specs.Entries.{scaled_entry}
use Rattle.coefficients.specs.Rows.{first_number}
use Rattle.records.specs.Kinds.{body_length, layout_of}
use Rattle.records.specs.Records.{record_at}
use Rattle.numbers.specs.Numbers.{little_endian}
use Rattle.records.specs.Order.{may_follow}
use Rattle.std.specs.Prelude.{IsOk}
use Rattle.filling.specs.Models.{zeros, blank_set, blank_model, put_row}
use Rattle.columns.specs.Columns.{six_at, unused_zero}
use Rattle.reader.specs.Models.{start, with_head, with_row, with_drift, with_point, with_set_point, with_direction}
use Rattle.reader.specs.Values.{body_number, row_number, drift_ok, point_ok, direction_ok}
use Rattle.reader.specs.Refusals.{kind_number, refusal, stored}
use Rattle.reader.specs.Reading.{stop_for, number_at, offset_at, reading_at, read_from, read_model, refused}

-- A coordinate by its first and its third byte, and five unused ones.
abbrev point : ℕ → ℕ → List ℕ
point low high = low ∷ 0 ∷ high ∷ replicate 21 0

-- One coordinate, entry 65,536, a drift that is so much above 1,048,576, and the upper end of the input box.
abbrev drifting : ℕ → ℕ → List ℕ
drifting more high =
    (0x01 ∷ 1 ∷ 1 ∷ 0 ∷ [])
    ++ (0x02 ∷ 0 ∷ point 0 1)
    ++ (0x05 ∷ point more 16)
    ++ (0x10 ∷ point 0 0)
    ++ (0x11 ∷ point 0 0)
    ++ (0x20 ∷ point 0 0)
    ++ (0x21 ∷ point high 0)
    ++ (0x30 ∷ point 1 0)
    ++ (0xFF ∷ [])

pub drift-filled : IsOk (read_model (drifting 0 0))
unfolding all_below unused_zero sum_ℕ max_ℕ body_length record_at little_endian may_follow layout_of zeros blank_set blank_model start six_at put_row with_head with_row with_drift with_point with_set_point with_direction scaled_entry first_number row_number drift_ok point_ok direction_ok body_number kind_number refusal stored stop_for number_at reading_at read_from read_model
drift-filled = refl

pub drift-and-input : read_model (drifting 0 1) ≡ refused 17 130
unfolding all_below unused_zero sum_ℕ max_ℕ body_length record_at little_endian may_follow layout_of zeros blank_set blank_model start six_at put_row with_head with_row with_drift with_point with_set_point scaled_entry first_number row_number drift_ok point_ok body_number kind_number refusal stored stop_for number_at offset_at reading_at read_from read_model
drift-and-input = refl

pub drift-beyond : read_model (drifting 1 0) ≡ refused 17 30
unfolding all_below unused_zero body_length record_at little_endian may_follow layout_of zeros blank_set blank_model start six_at put_row with_head with_row scaled_entry first_number row_number drift_ok body_number kind_number refusal stored stop_for number_at offset_at reading_at read_from read_model
drift-beyond = refl
