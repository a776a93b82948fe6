-- File 9: a file of 1,690 bytes is accepted. By computation. That none is longer: `ReadModels`. Assumes nothing.
use mathlib.Core.Path.{◌≡◌, refl}
use mathlib.Core.List.{List, ◌∷◌, ◌++◌, []}
use Prim.Native.Nat.{ℕ, zero, suc}
use lib.ListN.{length, replicate}
use Rattle.integers.specs.Sums.{all_below, sum_ℕ, max_ℕ}
use Rattle.coefficients.specs.Binary64.{binary64_unit, magnitude_of}
use Rattle.integers.specs.Whole.{nearest_even}
use Rattle.coefficients.specs.Entries.{fitted_ok, fitted_entry, entry_of_bits, scaled_entry}
use Rattle.coefficients.specs.Rows.{first_number}
use Rattle.records.specs.Kinds.{body_length, layout_of}
use Rattle.records.specs.Records.{record_at}
use Rattle.numbers.specs.Numbers.{little_endian}
use Rattle.records.specs.Order.{may_follow}
use Rattle.std.specs.Prelude.{IsOk}
use Rattle.filling.specs.Models.{zeros, blank_set, blank_model, put_row}
use Rattle.columns.specs.Columns.{six_at, unused_zero}
use Rattle.reader.specs.Models.{start, with_head, with_row, with_drift, with_point, with_set_point, with_direction, with_guard}
use Rattle.reader.specs.Values.{body_number, row_number, drift_ok, point_ok, direction_ok}
use Rattle.reader.specs.Refusals.{kind_number, refusal, stored}
use Rattle.reader.specs.Reading.{stop_for, number_at, reading_at, read_from, read_model}

-- so many times the same record
repeated : ℕ → List ℕ → List ℕ
repeated zero bytes = []
repeated (suc k) bytes = bytes ++ repeated k bytes

fitted : ℕ → List ℕ
fitted row = 0x03 ∷ row ∷ replicate 48 0

-- Six fitted rows, a drift, two lists of 16 vertices, 16 directions and 16 guards.
unfoldable pub longest : List ℕ
unfolding repeated fitted
longest =
    (0x01 ∷ 6 ∷ 1 ∷ 0 ∷ [])
    ++ fitted 0 ++ fitted 1 ++ fitted 2 ++ fitted 3 ++ fitted 4 ++ fitted 5
    ++ (0x05 ∷ replicate 24 0)
    ++ repeated 16 (0x14 ∷ replicate 24 0)
    ++ repeated 16 (0x24 ∷ replicate 24 0)
    ++ repeated 16 (0x30 ∷ 1 ∷ replicate 23 0)
    ++ repeated 16 (0x40 ∷ replicate 9 0)
    ++ (0xFF ∷ [])

pub longest-length : length longest ≡ 1690
unfolding longest
longest-length = refl

pub longest-read : IsOk (read_model longest)
unfolding all_below unused_zero sum_ℕ max_ℕ binary64_unit magnitude_of nearest_even fitted_ok fitted_entry entry_of_bits scaled_entry first_number body_length record_at little_endian may_follow layout_of zeros blank_set blank_model start six_at put_row with_head with_row with_drift with_point with_set_point with_direction with_guard row_number drift_ok point_ok direction_ok body_number kind_number refusal stored stop_for number_at reading_at read_from read_model longest
longest-read = refl
