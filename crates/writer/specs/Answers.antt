-- Routines 23 and 24, Refusals 11 and 22: what the writer answers and leaves, of a model and of a file, for every input. Definitions
-- only. b are the bytes as lent, c as left. Assumes nothing.
use Rattle.std.specs.Prelude.{◌≡◌, cond, List, [], ◌++◌, ℕ, eqb, leb, length, take, drop, Result, Ok, Err}
use Rattle.reachability.specs.Limits.{accepted}
use Rattle.reachability.specs.declared.model.Model.{Model}
use Rattle.reader.specs.Reading.{read_model, read_as}
use Rattle.reader.specs.FileNumbers.{file_number}
use Rattle.reader.specs.declared.refusals.Refused.{Refused}
use Rattle.writer.specs.declared.WriteRefusal.{WriteRefusal}
use Rattle.writer.specs.declared.WriteRefusal.TheVariants.{Invalid, Short}
use Rattle.writer.specs.declared.RewriteRefusal.{RewriteRefusal}
use Rattle.writer.specs.declared.RewriteRefusal.TheVariants as R
use Rattle.writer.specs.Writing.{file_of}

-- ---- of a model

-- Forms 7: the number of a refusal.
abbrev pub write_refusal_number : WriteRefusal → ℕ
write_refusal_number Invalid = 11
write_refusal_number Short = 22

-- The number of an answer, 0 where nothing is refused, and the length in it, 0 where something is.
abbrev pub written_number : Result ℕ WriteRefusal → ℕ
written_number (Ok k) = 0
written_number (Err e) = write_refusal_number e

abbrev pub written_length : Result ℕ WriteRefusal → ℕ
written_length (Ok k) = k
written_length (Err e) = 0

-- Refusals 11, then Refusals 22, else the length of the file.
abbrev pub write_answer : Model → ℕ → Result ℕ WriteRefusal
write_answer m room = cond (accepted m) (cond (leb (length (file_of m)) room) (Ok (length (file_of m))) (Err Short)) (Err Invalid)

-- The number of the writer, and the length.
abbrev pub write_number : Model → ℕ → ℕ
write_number m room = cond (accepted m) (cond (leb (length (file_of m)) room) 0 22) 11

abbrev pub write_length : Model → ℕ → ℕ
write_length m room = cond (eqb (write_number m room) 0) (length (file_of m)) 0

-- Routines 23: the answer, its number and its length (Forms 7); the file at the start, and behind it the bytes as they were, or all
-- bytes as they were beside a refusal. Writing 3: the bytes that it answered for are read as the model that it was given.
pub record Writes (m : Model) (b : List ℕ) (a : Result ℕ WriteRefusal) (c : List ℕ) : Type 0 where
  pub answer : a ≡ write_answer m (length b)
  pub number : written_number a ≡ write_number m (length b)
  pub length-is : written_length a ≡ write_length m (length b)
  pub bytes : c ≡ cond (eqb (written_number a) 0) (file_of m ++ drop (length (file_of m)) b) b
  pub restored : written_number a ≡ 0 → read_model (take (written_length a) c) ≡ read_as m

-- ---- of a file

-- The file of a model that was read, and nothing of a refused file.
abbrev pub model_file : Result Model Refused → List ℕ
model_file (Ok m) = file_of m
model_file (Err e) = []

-- Forms 7: the number of a refusal, and the offset of a refused file.
abbrev pub rewrite_refusal_number : RewriteRefusal → ℕ
rewrite_refusal_number (R.File e) = file_number e.refusal
rewrite_refusal_number R.Short = 22

abbrev pub rewrite_refusal_offset : RewriteRefusal → ℕ
rewrite_refusal_offset (R.File e) = e.offset
rewrite_refusal_offset R.Short = 0

-- The number of an answer, and the figure in it: the length that was written, or the offset of a refused file.
abbrev pub rewritten_number : Result ℕ RewriteRefusal → ℕ
rewritten_number (Ok k) = 0
rewritten_number (Err e) = rewrite_refusal_number e

abbrev pub rewritten_figure : Result ℕ RewriteRefusal → ℕ
rewritten_figure (Ok k) = k
rewritten_figure (Err e) = rewrite_refusal_offset e

-- A refused file as it is refused; else Refusals 22, or the length. Refusals 11 does not apply to a model that was read.
abbrev pub rewritten_as : Result Model Refused → ℕ → Result ℕ RewriteRefusal
rewritten_as (Ok m) room = cond (leb (length (file_of m)) room) (Ok (length (file_of m))) (Err R.Short)
rewritten_as (Err e) room = Err (R.File e)

abbrev pub rewrite_answer : List ℕ → ℕ → Result ℕ RewriteRefusal
rewrite_answer file room = rewritten_as (read_model file) room

-- Routines 24: the answer; the file of the model at the start, or all bytes as they were beside a refusal. Writing 5: the bytes that it
-- answered for are read as the file that was given is.
pub record Rewrites (file b : List ℕ) (a : Result ℕ RewriteRefusal) (c : List ℕ) : Type 0 where
  pub answer : a ≡ rewrite_answer file (length b)
  pub bytes : c ≡ cond (eqb (rewritten_number a) 0) (model_file (read_model file) ++ drop (length (model_file (read_model file))) b) b
  pub restored : rewritten_number a ≡ 0 → read_model (take (rewritten_figure a) c) ≡ read_model file
