-- Reading 1: the number of a record, and what a record that is not refused adds. Definitions only. Assumes nothing.
use Rattle.std.specs.Prelude.{Bool, true, false, cond, List, ℕ, leb}
use Rattle.arrays.specs.Tests.{first_of}
use Rattle.records.specs.Records.{Record, whole, short, unknown, nothing}
use Rattle.records.specs.declared.kinds.Layout.{Layout}
use Rattle.records.specs.declared.kinds.Part.{Part}
use Rattle.records.specs.declared.kinds.Part.TheVariants.{Head, Row, Drift, Initial, Input, Direction, Guard, End}
use Rattle.reader.specs.declared.state.State.{State}
use Rattle.records.specs.Kinds.{layout_of, part_of}
use Rattle.records.specs.Order.{may_follow}
use Rattle.reader.specs.Models.{with_head, with_row, with_drift, with_set_point, with_direction, with_guard}
use Rattle.reader.specs.Values.{body_number}

-- Refusals 9: how many a part has that are counted. A head, rows, a drift and the end are not counted, so there is never one too many.
abbrev pub count_of : Part → State → ℕ
count_of Head s = 0
count_of Row s = 0
count_of Drift s = 0
count_of Initial s = s.model.initial.count
count_of Input s = s.model.input.count
count_of Direction s = s.model.questions.directions
count_of Guard s = s.model.questions.guards
count_of End s = 0

-- Refusals 9.
abbrev pub one_too_many : State → Layout → Bool
one_too_many s l = leb l.most (count_of l.part s)

-- Refusals 3, then Refusals 9, else 0.
abbrev pub kind_number_of : State → ℕ → Layout → ℕ
kind_number_of s kind l = cond (may_follow s.place kind) (cond (one_too_many s l) 9 0) 3

unfoldable pub kind_number : State → ℕ → ℕ
kind_number s kind = kind_number_of s kind (layout_of kind)

-- Reading 1: the number of the record that stands at an offset, 0 where it is read. No byte (1); unknown (2); 3 and 9; a body that
-- is cut (1); 16; 4 to 8, 15 and 17.
unfoldable pub refusal : State → Record → ℕ
refusal s nothing = 1
refusal s (unknown kind) = 2
refusal s (short kind) = first_of (kind_number s kind) 1
refusal s (whole kind body) = first_of (kind_number s kind) (body_number s kind body)

-- File 3: what a record adds. The end adds nothing.
abbrev pub stored_in : Part → State → Layout → List ℕ → State
stored_in Head s l body = with_head s l body
stored_in Row s l body = with_row s l body
stored_in Drift s l body = with_drift s l body
stored_in Initial s l body = with_set_point false s l body
stored_in Input s l body = with_set_point true s l body
stored_in Direction s l body = with_direction s l body
stored_in Guard s l body = with_guard s l body
stored_in End s l body = s

unfoldable pub stored : State → ℕ → List ℕ → State
stored s kind body = stored_in (part_of kind) s (layout_of kind) body
