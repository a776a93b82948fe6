-- Listing 8: the sample of 186 bytes is read as its model; Figures 14: the empty file. By computation. Assumes nothing.
use mathlib.Core.Path.{◌≡◌, refl}
use mathlib.Core.List.{List, ◌∷◌, ◌++◌, []}
use Prim.Native.Nat.{ℕ}
use lib.ListN.{length, replicate}
use lib.IntN.{pos}
use Rattle.integers.specs.Sums.{all_below, sum_ℕ, max_ℕ}
use Rattle.coefficients.specs.Entries.{scaled_entry}
use Rattle.coefficients.specs.Rows.{first_number}
use Rattle.records.specs.Kinds.{body_length, layout_of}
use Rattle.records.specs.Records.{record_at}
use Rattle.numbers.specs.Numbers.{little_endian}
use Rattle.reachability.specs.declared.sets.Shape.TheVariants.{Box}
use Rattle.reachability.specs.declared.model.Model.{Model}
use Rattle.records.specs.Order.{may_follow}
use Rattle.filling.specs.Models.{zeros, blank_set, blank_model, put_row}
use Rattle.columns.specs.Columns.{six_at, unused_zero}
use Rattle.reader.specs.Models.{start, with_head, with_row, with_point, with_set_point, with_direction, with_guard}
use Rattle.reader.specs.Values.{body_number, row_number, point_ok, direction_ok}
use Rattle.reader.specs.Refusals.{kind_number, refusal, stored}
use Rattle.reader.specs.Reading.{stop_for, number_at, offset_at, reading_at, read_as, read_from, read_model, refused}

-- One coordinate in four bytes, and five unused ones.
abbrev point : ℕ → ℕ → List ℕ
point low high = low ∷ high ∷ replicate 22 0

abbrev guard : ℕ → List ℕ
guard level = 0x40 ∷ 0 ∷ level ∷ replicate 7 0

unfoldable pub sample : List ℕ
sample =
    (0x01 ∷ 1 ∷ 3 ∷ 0 ∷ [])
    ++ (0x02 ∷ 0 ∷ point 0 128)
    ++ (0x10 ∷ point 0 0)
    ++ (0x11 ∷ point 0 0)
    ++ (0x20 ∷ point 0 0)
    ++ (0x21 ∷ point 1 0)
    ++ (0x30 ∷ point 1 0)
    ++ guard 1
    ++ guard 2
    ++ guard 3
    ++ (0xFF ∷ [])

unfoldable pub sample_model : Model
sample_model =
    record {
      n = 1;
      steps = 3;
      motion = record { matrix = pos 32768 ∷ replicate 35 (pos 0) };
      drift = replicate 6 (pos 0);
      initial = record { shape = Box; count = 2; points = replicate 96 (pos 0) };
      input = record { shape = Box; count = 2; points = replicate 6 (pos 0) ++ pos 1 ∷ replicate 89 (pos 0) };
      questions = record {
        directions = 1;
        entries = pos 1 ∷ replicate 95 (pos 0);
        guards = 3;
        watched = replicate 16 0;
        levels = pos 1 ∷ pos 2 ∷ pos 3 ∷ replicate 13 (pos 0);
      };
    }

pub sample-length : length sample ≡ 186
unfolding sample
sample-length = refl

pub sample-read : read_model sample ≡ read_as sample_model
unfolding all_below unused_zero sum_ℕ max_ℕ body_length record_at little_endian may_follow layout_of zeros blank_set blank_model start six_at put_row with_head with_row with_point with_set_point with_direction with_guard scaled_entry first_number row_number point_ok direction_ok body_number kind_number refusal stored stop_for number_at offset_at reading_at read_from read_model sample sample_model
sample-read = refl

-- Figures 14.
pub empty-refused : read_model [] ≡ refused 1 0
unfolding record_at refusal stop_for number_at offset_at reading_at read_from read_model
empty-refused = refl
