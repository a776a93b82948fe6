-- Figures 29: the sample of Listing 8 is its own file; a model with numbers below 0, of 120 steps and without input; and the same model
-- with a vertex of zeros as its input set, which is written. By computation. Assumes nothing.
use mathlib.Core.Path.{◌≡◌, refl}
use mathlib.Core.List.{List, ◌∷◌, ◌++◌, []}
use Prim.Native.Nat.{ℕ}
use lib.IntN.{pos, negsuc}
use lib.ListN.{replicate}
use Rattle.integers.specs.Sums.{all_below}
use Rattle.numbers.specs.Numbers.{bytes_of}
use Rattle.reachability.specs.declared.sets.Shape.TheVariants.{Box, Vertices}
use Rattle.reachability.specs.declared.sets.Set.{Set}
use Rattle.reachability.specs.declared.model.Model.{Model}
use Rattle.reachability.specs.Sets.{zero_box}
use Rattle.reader.proofs.Sample.{sample, sample_model}
use Rattle.writer.specs.Writing.{six_bytes, is_zero_box, file_of}

pub sample-written : file_of sample_model ≡ sample
unfolding sample sample_model file_of six_bytes bytes_of is_zero_box all_below
sample-written = refl

-- The entry -1, K 120, the initial box [0, 0], the direction 1 and a guard at -2.
abbrev falling : Set → Model
falling input =
    record {
      n = 1;
      steps = 120;
      motion = record { matrix = negsuc 0 ∷ replicate 35 (pos 0) };
      drift = replicate 6 (pos 0);
      initial = record { shape = Box; count = 2; points = replicate 96 (pos 0) };
      input = input;
      questions = record {
        directions = 1;
        entries = pos 1 ∷ replicate 95 (pos 0);
        guards = 1;
        watched = replicate 16 0;
        levels = negsuc 1 ∷ replicate 15 (pos 0);
      };
    }

-- Its records before the input set, and behind it.
abbrev before : List ℕ
before =
    (0x01 ∷ 1 ∷ 120 ∷ 0 ∷ [])
    ++ (0x02 ∷ 0 ∷ 0xFF ∷ 0xFF ∷ 0xFF ∷ 0xFF ∷ replicate 20 0)
    ++ (0x10 ∷ replicate 24 0)
    ++ (0x11 ∷ replicate 24 0)

abbrev behind : List ℕ
behind = (0x30 ∷ 1 ∷ replicate 23 0) ++ (0x40 ∷ 0 ∷ 0xFE ∷ replicate 7 0xFF) ++ (0xFF ∷ [])

pub no-input-written : file_of (falling zero_box) ≡ before ++ behind
unfolding file_of six_bytes bytes_of is_zero_box zero_box all_below
no-input-written = refl

pub zero-vertex-written : file_of (falling (record { shape = Vertices; count = 1; points = replicate 96 (pos 0) })) ≡ before ++ (0x24 ∷ replicate 24 0) ++ behind
unfolding file_of six_bytes bytes_of is_zero_box all_below
zero-vertex-written = refl
