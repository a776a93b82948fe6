-- Writing 6: no file that is written has more than 1,546 bytes, and a model is accepted whose file has so many. Assumes nothing.
use mathlib.Core.Path.{◌≡◌, refl, sym, ap, ◌∙◌}
use mathlib.Core.Bool.{Bool, true, cond}
use mathlib.Core.List.{List, [], ◌∷◌, ◌++◌}
use Prim.Native.Nat.{ℕ, zero, suc, ◌≤◌}
use native.Mathlib.Omega.{arith}
use borrow.Author.Tests.{le-leb}
use lib.IntN.{ℤ, pos}
use lib.ListN.{length, replicate}
use Rattle.integers.specs.Sums.{all_below, sum_ℕ, max_ℕ}
use Rattle.reachability.specs.declared.sets.Shape.TheVariants.{Vertices}
use Rattle.reachability.specs.declared.sets.Set.{Set}
use Rattle.reachability.specs.declared.model.Model.{Model}
use Rattle.reachability.specs.Limits.{accepted}
use Rattle.reachability.specs.Motion.{motion_ok}
use Rattle.reader.specs.declared.refusals.Refused.{Refused}
use Rattle.reader.specs.Reading.{read_model}
use Rattle.reader.proofs.ReadModels.{read_model-accepted}
use Rattle.std.specs.Prelude.{Result, Ok, Err}
use Rattle.writer.specs.declared.RewriteRefusal.TheVariants as R
use Rattle.writer.specs.Writing.{is_zero_box, file_of}
use Rattle.writer.specs.Answers.{rewritten_number, rewritten_as, rewrite_answer}
use Rattle.writer.proofs.parts.Counts.{counts}
use Rattle.writer.proofs.parts.Lengths.{length-file_of}

pub file_of-short : (m : Model) → accepted m ≡ true → length (file_of m) ≤ 1546
file_of-short m ok =
    let all = counts m ok in
    omega (arith, length-file_of m, all.n, all.drift, all.initial, all.input, all.directions, all.guards)

-- So a slice of 1,546 bytes is never too short.
pub rewrite-fits : (file : List ℕ) (room : ℕ) → 1546 ≤ room → rewrite_answer file room ≡ Err R.Short → ⊥
rewrite-fits file room h = by (read_model file) refl
  where
    by : (r : Result Model Refused) → read_model file ≡ r → rewritten_as r room ≡ Err R.Short → ⊥
    by (Ok m) e short =
        let enough = file_of-short m (read_model-accepted file e) in
        let z : ◌≡◌ {A = ℕ} 0 22 = ap rewritten_number (sym (ap (λ (t : Bool). cond t (Ok (length (file_of m))) (Err R.Short)) (le-leb (length (file_of m)) room (omega (arith, enough)))) ∙ short) in
        omega arith
    by (Err e) is short = let z : ◌≡◌ {A = ℕ} 0 1 = cc in omega arith

-- sixteen directions, each of them the first coordinate
ones : ℕ → List ℤ
ones zero = []
ones (suc k) = pos 1 ∷ replicate 5 (pos 0) ++ ones k

sixteen : Set
sixteen = record { shape = Vertices; count = 16; points = replicate 96 (pos 0) }

-- Six rows, a drift, two lists of 16 vertices, 16 directions and 16 guards.
unfoldable pub longest : Model
unfolding ones sixteen
longest =
    record {
      n = 6;
      steps = 256;
      motion = record { matrix = replicate 36 (pos 0) };
      drift = replicate 6 (pos 1);
      initial = sixteen;
      input = sixteen;
      questions = record { directions = 16; entries = ones 16; guards = 16; watched = replicate 16 0; levels = replicate 16 (pos 0) };
    }

pub longest-accepted : accepted longest ≡ true
unfolding longest all_below sum_ℕ max_ℕ motion_ok
longest-accepted = refl

pub longest-length : length (file_of longest) ≡ 1546
unfolding longest all_below is_zero_box
longest-length = length-file_of longest ∙ refl
