-- Writing 7: what the program `canonical` writes on standard output for a file. Definitions only. Assumes nothing.
use Rattle.std.specs.Prelude.{List, ℕ}
use Rattle.reader.specs.Reading.{read_model}
use Rattle.writer.specs.Answers.{model_file}

abbrev pub canonical_bytes : List ℕ → List ℕ
canonical_bytes file = model_file (read_model file)
