-- Writing 4 and 5, from `ReadBack`: equal files are of equal models; what was read from a file is written, read and written again
-- alike. Assumes nothing.
use mathlib.Core.Path.{◌≡◌, sym, ap, ◌∙◌}
use mathlib.Core.Bool.{true}
use mathlib.Core.List.{List}
use Prim.Native.Nat.{ℕ}
use Rattle.std.specs.Prelude.{Ok}
use Rattle.integers.proofs.Machine.{AllBytes}
use Rattle.reachability.specs.declared.model.Model.{Model}
use Rattle.reachability.specs.Limits.{accepted}
use Rattle.reader.specs.Reading.{read_model}
use Rattle.reader.proofs.ReadModels.{read_model-accepted}
use Rattle.writer.specs.Writing.{file_of}
use Rattle.writer.specs.Answers.{model_file}
use Rattle.writer.specs.OneForm.{Stored}
use Rattle.writer.proofs.ReadBack.{read_model-file_of}
use Rattle.writer.proofs.StoredSoFar.{read_model-stored}

-- Writing 4.
pub file_of-one : (a b : Model) → Stored a → Stored b → accepted a ≡ true → accepted b ≡ true → file_of a ≡ file_of b → a ≡ b
file_of-one a b sa sb oka okb e = let same = sym (read_model-file_of a sa oka) ∙ ap read_model e ∙ read_model-file_of b sb okb in cc

-- Writing 5, of every file that is accepted. A file is a list of bytes.
module _ (file : List ℕ) (bytes : AllBytes file) {m : Model} (read : read_model file ≡ Ok m) where
  -- the same model
  pub written-again : read_model (file_of m) ≡ read_model file
  written-again = read_model-file_of m (read_model-stored file bytes read) (read_model-accepted file read) ∙ sym read

  -- and the same bytes the second time
  pub written_twice : model_file (read_model (file_of m)) ≡ file_of m
  written_twice = ap model_file (written-again ∙ read)
