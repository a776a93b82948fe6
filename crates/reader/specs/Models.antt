-- File 3, 4, 5, 8, 10 and 15: how far a file has been read, and what each record adds to the model. Definitions only. A kind's layout
-- (records *Kinds*) has the offset of its entries and the place behind it. The entries of a point, a drift and a direction are stored
-- as they stand in the body, and beyond n they are zero there (File 7). A record that a block has no room for changes nothing in it;
-- none such is ever let in. Assumes nothing.
use Rattle.std.specs.Prelude.{Bool, true, cond, List, ℕ, ◌+◌, eqb, ltb, set, ℤ, Result}
use Rattle.reachability.specs.declared.sets.Set.{Set}
use Rattle.reachability.specs.declared.motion.Motion.{Motion}
use Rattle.reachability.specs.declared.model.Questions.{Questions}
use Rattle.reachability.specs.declared.model.Model.{Model}
use Rattle.reachability.specs.Motion.{rows_of, with_rows}
use Rattle.coefficients.specs.declared.EntryRefusal.{EntryRefusal}
use Rattle.coefficients.specs.Entries.{entry_of_bits, scaled_entry}
use Rattle.coefficients.specs.Rows.{stored_six}
use Rattle.numbers.specs.Numbers.{little_endian, signed_at}
use Rattle.records.specs.declared.kinds.Layout.{Layout}
use Rattle.records.specs.Places.{start_place, rows_place}
use Rattle.columns.specs.Columns.{first_byte, entry_at, six_at, fitted_width, bits_at}
use Rattle.filling.specs.Models.{blank_model, model_of, set_of, set_set, put_row, shape_of, input_at}
use Rattle.reader.specs.declared.state.State.{State}

-- Before the first record: the first place, no row, a blank model.
unfoldable pub start : State
start = record { place = start_place; rows = 0; model = blank_model }

-- ---- the rows and the steps

-- File 5: a row is scaled or, with entries of 8 bytes, fitted. The answer to its entry i is what is stored, or the number it is refused
-- by.
abbrev pub row_answer : Layout → List ℕ → ℕ → Result ℤ EntryRefusal
row_answer l body i = cond (eqb l.width fitted_width) (entry_of_bits (bits_at body l.first i)) (scaled_entry (entry_at body l.first i))

-- File 4.
abbrev pub usual_steps : ℕ
usual_steps = 120

abbrev pub default_steps : ℕ → ℕ
default_steps k = cond (eqb k 0) usual_steps k

-- ---- a model with one part changed

abbrev pub set_head : Model → ℕ → ℕ → Model
set_head m n steps = model_of n steps m.motion m.drift m.initial m.input m.questions

abbrev pub set_motion : Model → Motion → Model
set_motion m motion = model_of m.n m.steps motion m.drift m.initial m.input m.questions

abbrev pub set_matrix : Model → List ℤ → Model
set_matrix m matrix = set_motion m (with_rows m.motion matrix)

abbrev pub set_drift : Model → List ℤ → Model
set_drift m drift = model_of m.n m.steps m.motion drift m.initial m.input m.questions

abbrev pub set_questions : Model → Questions → Model
set_questions m questions = model_of m.n m.steps m.motion m.drift m.initial m.input questions

-- The questions of these fields, in the order of the code.
abbrev pub questions_of : ℕ → List ℤ → ℕ → List ℕ → List ℤ → Questions
questions_of directions entries guards watched levels =
    record { directions = directions; entries = entries; guards = guards; watched = watched; levels = levels }

abbrev pub set_directions : Model → ℕ → List ℤ → Model
set_directions m directions entries =
    set_questions m (questions_of directions entries m.questions.guards m.questions.watched m.questions.levels)

abbrev pub set_guards : Model → ℕ → List ℕ → List ℤ → Model
set_guards m guards watched levels =
    set_questions m (questions_of m.questions.directions m.questions.entries guards watched levels)

-- ---- what each record adds

-- A place in the order, the rows read and the model so far.
abbrev pub state_of : ℕ → ℕ → Model → State
state_of place rows m = record { place = place; rows = rows; model = m }

-- File 3, a head.
unfoldable pub with_head : State → Layout → List ℕ → State
with_head s l body = state_of l.place 0 (set_head s.model (first_byte body) (default_steps (little_endian 2 body 1)))

-- The place stays that of the rows until all n are in.
abbrev pub row_place : Layout → ℕ → ℕ → ℕ
row_place l rows n = cond (ltb rows n) rows_place l.place

-- One row more, of these six entries.
abbrev pub row_stored : State → Layout → List ℤ → State
row_stored s l six =
    state_of (row_place l (s.rows + 1) s.model.n) (s.rows + 1)
    (set_matrix s.model (put_row (rows_of s.model.motion) s.rows six))

-- File 3, a row.
unfoldable pub with_row : State → Layout → List ℕ → State
with_row s l body = row_stored s l (stored_six s.model.n (row_answer l body))

-- File 3, the drift. File 15: without it the drift stays that of the blank model, zero.
unfoldable pub with_drift : State → Layout → List ℕ → State
with_drift s l body = state_of l.place s.rows (set_drift s.model (six_at body l.first))

-- File 3, a point of a set, and File 8: one point more, behind those before it.
unfoldable pub with_point : Set → Layout → List ℕ → Set
with_point set l body =
    record {
      shape = shape_of l.point;
      count = set.count + 1;
      points = put_row set.points set.count (six_at body l.first);
    }

-- Of the initial set or, with `input`, of the input set.
unfoldable pub with_set_point : Bool → State → Layout → List ℕ → State
with_set_point input s l body =
    state_of l.place s.rows (set_set input s.model (with_point (set_of input s.model) l body))

-- File 3, a direction. The first one settles the input set (File 10).
unfoldable pub with_direction : State → Layout → List ℕ → State
with_direction s l body =
    state_of l.place s.rows
    (set_directions (set_set true s.model (input_at s.place s.model)) (s.model.questions.directions + 1)
    (put_row s.model.questions.entries s.model.questions.directions (six_at body l.first)))

-- File 3, a guard.
unfoldable pub with_guard : State → Layout → List ℕ → State
with_guard s l body =
    state_of l.place s.rows
    (set_guards s.model (s.model.questions.guards + 1)
    (set s.model.questions.watched s.model.questions.guards (first_byte body))
    (set s.model.questions.levels s.model.questions.guards (signed_at 8 body 1)))
