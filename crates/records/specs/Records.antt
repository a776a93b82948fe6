-- File 1, Refusals 1 and 2, and Routines 12: what stands at an offset of a file, and what the record step gives. Definitions only.
-- A file is the list of its bytes. Assumes nothing.
use Rattle.std.specs.Prelude.{◌≡◌, List, [], cond, ℕ, ◌+◌, ltb, leb, length, get_or, take, drop, Result, Ok, Err}
use Rattle.std.specs.Borrow.{Bor}
use Rattle.records.specs.declared.NoRecord.{NoRecord}
use Rattle.records.specs.declared.NoRecord.TheVariants.{Nothing, Short, Unknown}
use Rattle.records.specs.Kinds.{BodyLength, body_bytes, body_unknown, body_length}

-- What stands at an offset: a whole record, with its kind and its body; a kind whose body the file's end cuts off; an
-- unknown kind; or no byte.
pub data Record : Type 0 where
  whole : ℕ → List ℕ → Record
  short : ℕ → Record
  unknown : ℕ → Record
  nothing : Record

-- What a kind with its body length and the bytes after the kind are.
abbrev pub record_of : ℕ → BodyLength → List ℕ → Record
record_of kind (body_bytes n) rest = cond (leb n (length rest)) (whole kind (take n rest)) (short kind)
record_of kind body_unknown rest = unknown kind

-- File 1: what stands at an offset.
unfoldable pub record_at : List ℕ → ℕ → Record
record_at file at =
    cond (ltb at (length file)) (record_of (get_or file at 0) (body_length (get_or file at 0)) (drop (at + 1) file)) nothing

-- Refusals 1 and 2: the number of what stands there, 0 for a whole record.
abbrev pub record_number : Record → ℕ
record_number (whole kind body) = 0
record_number (short kind) = 1
record_number (unknown kind) = 2
record_number nothing = 1

-- The kind byte, 0 where no byte is left. No known kind is 0.
abbrev pub record_kind : Record → ℕ
record_kind (whole kind body) = kind
record_kind (short kind) = kind
record_kind (unknown kind) = kind
record_kind nothing = 0

-- The body, empty where there is no whole record.
abbrev pub record_body : Record → List ℕ
record_body (whole kind body) = body
record_body (short kind) = []
record_body (unknown kind) = []
record_body nothing = []

-- Where the part lies that the record step hands back, from the place of the file's first byte: after the kind byte; at the
-- file's start where there is no whole record. A place is a block of memory and a count of bytes into it.
abbrev pub record_place : ℕ → Record → ℕ × ℕ → ℕ × ℕ
record_place at (whole kind body) start = (start.0, at + 1 + start.1)
record_place at (short kind) start = start
record_place at (unknown kind) start = start
record_place at nothing start = start

-- What the record step answers: the kind and the body, or why there is none.
abbrev pub Step : Type 0
Step = Result (ℕ × Bor (List ℕ)) NoRecord

-- Forms 7, Refusals 1 and 2: the number of a case, and what stands there by it.
abbrev pub no_record_number : NoRecord → ℕ
no_record_number Nothing = 1
no_record_number (Short kind) = 1
no_record_number (Unknown kind) = 2

abbrev pub no_record : NoRecord → Record
no_record Nothing = nothing
no_record (Short kind) = short kind
no_record (Unknown kind) = unknown kind

-- The parts of an answer: what stands there by it; its number, its kind and its body as they are of a record above; and the place of
-- its body, the file's start where it has none. `now` of a slice is the list of its bytes, and `ref_ptr` the place of its first byte.
abbrev pub step_record : Step → Record
step_record (Ok r) = whole r.0 r.1.now
step_record (Err e) = no_record e

abbrev pub step_number : Step → ℕ
step_number (Ok r) = 0
step_number (Err e) = no_record_number e

abbrev pub step_kind : Step → ℕ
step_kind (Ok r) = r.0
step_kind (Err Nothing) = 0
step_kind (Err (Short kind)) = kind
step_kind (Err (Unknown kind)) = kind

abbrev pub step_body : Step → List ℕ
step_body (Ok r) = r.1.now
step_body (Err e) = []

abbrev pub step_place : Step → ℕ × ℕ → ℕ × ℕ
step_place (Ok r) start = r.1.ref_ptr
step_place (Err e) start = start

-- Routines 12, Forms 1: what the record step answers.
pub record RecordStep (file : Bor (List ℕ)) (at : ℕ) (step : Step) : Type 0 where
  pub record_is : step_record step ≡ record_at file.now at
  pub number_is : step_number step ≡ record_number (record_at file.now at)
  pub kind-is : step_kind step ≡ record_kind (record_at file.now at)
  pub body_is : step_body step ≡ record_body (record_at file.now at)
  pub place_is : step_place step file.ref_ptr ≡ record_place at (record_at file.now at) file.ref_ptr
