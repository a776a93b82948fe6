-- Reading 1 to 3: where the reading of a file stops, the number and the offset there, and the model. Definitions only. A file is
-- the list of its bytes. Assumes nothing.
use Rattle.std.specs.Prelude.{◌≡◌, Bool, true, false, cond, not, ◌&&◌, List, ℕ, zero, suc, ◌+◌, ◌-◌, eqb, ltb, length, Result, Ok, Err}
use Rattle.arrays.specs.Tests.{first_of}
use Rattle.reachability.specs.declared.model.Model.{Model}
use Rattle.records.specs.declared.kinds.Part.{Part}
use Rattle.records.specs.declared.kinds.Part.TheVariants.{Head, Row, Drift, Initial, Input, Direction, Guard, End}
use Rattle.records.specs.Records.{Record, record_at, record_kind, record_body}
use Rattle.records.specs.Kinds.{part_of}
use Rattle.reader.specs.declared.refusals.Refused.{Refused}
use Rattle.reader.specs.declared.state.State.{State}
use Rattle.reader.specs.FileNumbers.{file_number, refusal_of}
use Rattle.reader.specs.Models.{start}
use Rattle.reader.specs.Refusals.{refusal, stored}

-- ---- where reading stops

-- The offset of a record's kind byte, and the state before that record.
pub record Stop : Type 0 where
  pub at : ℕ
  pub state : State

abbrev pub stop_here : ℕ → State → Stop
stop_here at s = record { at = at; state = s }

-- File 3: the end record.
abbrev pub is_end : Part → Bool
is_end Head = false
is_end Row = false
is_end Drift = false
is_end Initial = false
is_end Input = false
is_end Direction = false
is_end Guard = false
is_end End = true

-- Reading goes on behind a record that is not refused and is not the end.
abbrev pub goes_on : State → Record → Bool
goes_on s r = eqb (refusal s r) 0 && not (is_end (part_of (record_kind r)))

abbrev pub behind : ℕ → Record → ℕ
behind at r = at + 1 + length (record_body r)

abbrev pub stored_record : State → Record → State
stored_record s r = stored s (record_kind r) (record_body r)

-- Where reading stops that starts at an offset, within so many records.
unfoldable pub stop_for : ℕ → List ℕ → ℕ → State → Stop
stop_for zero file at s = stop_here at s
stop_for (suc turns) file at s =
    cond (goes_on s (record_at file at))
    (stop_for turns file (behind at (record_at file at)) (stored_record s (record_at file at)))
    (stop_here at s)

-- The same for any number of records: each has at least its kind byte, so the length is enough.
abbrev pub stop_from : List ℕ → ℕ → State → Stop
stop_from file at s = stop_for (suc (length file - at)) file at s

-- ---- the number and the offset there

-- Reading 1: the number of the record and then, of the end, Refusals 10. 0 where the file is read.
unfoldable pub number_at : List ℕ → Stop → ℕ
number_at file p = first_of (refusal p.state (record_at file p.at)) (cond (ltb (p.at + 1) (length file)) 10 0)

-- Reading 2: behind the end, at the record, or at the length of the file.
unfoldable pub offset_at : List ℕ → Stop → ℕ
offset_at file p =
    cond (eqb (refusal p.state (record_at file p.at)) 0) (p.at + 1)
    (cond (ltb p.at (length file)) p.at (length file))

-- ---- the reading of a file

-- Reading 3: a number and an offset, and no model.
abbrev pub refused : ℕ → ℕ → Result Model Refused
refused number offset = Err (record { refusal = refusal_of number; offset = offset })

-- A file that was read as this model.
abbrev pub read_as : Model → Result Model Refused
read_as m = Ok m

unfoldable pub reading_at : List ℕ → Stop → Result Model Refused
reading_at file p = cond (eqb (number_at file p) 0) (read_as p.state.model) (refused (number_at file p) (offset_at file p))

-- Reading on from an offset.
unfoldable pub read_from : List ℕ → ℕ → State → Result Model Refused
read_from file at s = reading_at file (stop_from file at s)

unfoldable pub read_model : List ℕ → Result Model Refused
read_model file = read_from file 0 start

-- The number of a file, 0 where it is read, and its offset, 0 there too.
unfoldable pub read_number : List ℕ → ℕ
read_number file = number_at file (stop_from file 0 start)

unfoldable pub read_offset : List ℕ → ℕ
read_offset file = cond (eqb (read_number file) 0) 0 (offset_at file (stop_from file 0 start))

-- ---- what a reading tells

-- Forms 7: the number of an answer, 0 where the file was read, and the offset that it is told at.
abbrev pub status_number : Result Model Refused → ℕ
status_number (Ok m) = 0
status_number (Err e) = file_number e.refusal

abbrev pub status_offset : Result Model Refused → ℕ
status_offset (Ok m) = 0
status_offset (Err e) = e.offset

-- Routines 14: what the reader gives for a file.
pub record Reads (file : List ℕ) (r : Result Model Refused) : Type 0 where
  pub answer : r ≡ read_model file
  pub number : status_number r ≡ read_number file
  pub offset : status_offset r ≡ read_offset file
