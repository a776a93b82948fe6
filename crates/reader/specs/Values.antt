-- Refusals 4 to 8 and 15 to 17: what a body may hold. Definitions only. Assumes nothing.
use Rattle.std.specs.Prelude.{Option, Some, None, Bool, true, false, cond, not, ◌&&◌, ◌||◌, List, ℕ, eqb, leb, ltb, ℤ, pos, neg_ℤ}
use Rattle.arrays.specs.Tests.{all_between, first_of}
use Rattle.stepping.specs.Refusals.{dimension_ok}
use Rattle.limits.specs.Limits.{direction_limit, all_zero, corners_ordered}
use Rattle.reachability.specs.Sets.{reach_limit, reach_within}
use Rattle.reachability.specs.Entering.{entering_within}
use Rattle.reachability.specs.declared.sets.Set.{Set}
use Rattle.coefficients.specs.Rows.{entries_number}
use Rattle.numbers.specs.Numbers.{little_endian}
use Rattle.records.specs.Kinds.{layout_of, part_of}
use Rattle.records.specs.declared.kinds.Layout.{Layout}
use Rattle.records.specs.declared.kinds.Point.{Point}
use Rattle.records.specs.declared.kinds.Point.TheVariants.{Lower, Upper, Centre, Generator, Vertex}
use Rattle.records.specs.declared.kinds.Part.{Part}
use Rattle.records.specs.declared.kinds.Part.TheVariants.{Head, Row, Drift, Initial, Input, Direction, Guard, End}
use Rattle.columns.specs.Columns.{unused_zero, first_byte, six_at}
use Rattle.filling.specs.Models.{set_of}
use Rattle.reader.specs.declared.state.State.{State}
use Rattle.reader.specs.Models.{row_answer, with_point}

-- Refusals 4 does not apply.
abbrev pub head_values_ok : ℕ → ℕ → Bool
head_values_ok n steps = dimension_ok n && leb steps 256

abbrev pub head_ok : List ℕ → Bool
head_ok body = head_values_ok (first_byte body) (little_endian 2 body 1)

-- Limits 5 and Limits 11: numbers from minus the limit to the limit. Those beyond n are zero by then, so only the first n can fail.
abbrev pub within : ℕ → List ℤ → Bool
within limit six = all_between (neg_ℤ (pos limit)) (pos limit) six

-- Refusals 17 does not apply to the drift.
unfoldable pub drift_ok : Layout → List ℕ → Bool
drift_ok l body = within reach_limit (six_at body l.first)

-- File 3: at the upper corner both corners of a box are there.
abbrev pub is_upper : Option Point → Bool
is_upper None = false
is_upper (Some Lower) = false
is_upper (Some Upper) = true
is_upper (Some Centre) = false
is_upper (Some Generator) = false
is_upper (Some Vertex) = false

-- Limits 8: the corners are compared at the upper one.
abbrev pub corners_ok : ℕ → Option Point → List ℤ → Bool
corners_ok n point xs = not (is_upper point) || corners_ordered n xs

-- Refusals 6 does not apply to the set with this point.
unfoldable pub point_ok : ℕ → Option Point → Set → Bool
point_ok n point set = reach_within set.shape set.count set.points && corners_ok n point set.points

-- Refusals 17 does not apply to the set with this point. Of the initial set nothing is tested beside the drift.
abbrev pub entering_point_ok : Bool → Set → List ℤ → Bool
entering_point_ok input set drift = not input || entering_within set.shape set.count set.points drift

-- Refusals 7 does not apply.
unfoldable pub direction_ok : Layout → List ℕ → Bool
direction_ok l body = within direction_limit (six_at body l.first) && not (all_zero (six_at body l.first) 0)

-- Refusals 8 does not apply.
abbrev pub guard_ok : State → List ℕ → Bool
guard_ok s body = ltb (first_byte body) s.model.questions.directions

abbrev pub unless : Bool → ℕ → ℕ
unless ok number = cond ok 0 number

-- Refusals 5, of the row number and then of the entries, or Refusals 15 of the entries.
unfoldable pub row_number : State → Layout → List ℕ → ℕ
row_number s l body = first_of (unless (eqb (first_byte body) s.rows) 5) (entries_number s.model.n (row_answer l body))

-- The number of a point more of the initial set or, with `input`, of the input set: Refusals 6, then Refusals 17.
abbrev pub point_number_of : Bool → ℕ → Option Point → Set → List ℤ → ℕ
point_number_of input n point set drift = first_of (unless (point_ok n point set) 6) (unless (entering_point_ok input set drift) 17)

abbrev pub point_number : Bool → State → Layout → List ℕ → ℕ
point_number input s l body =
    point_number_of input s.model.n l.point (with_point (set_of input s.model) l body) s.model.drift

-- The number of the test of a record's other values, by its part, 0 where the body passes. The end has no body.
abbrev pub value_number : Part → State → Layout → List ℕ → ℕ
value_number Head s l body = unless (head_ok body) 4
value_number Row s l body = row_number s l body
value_number Drift s l body = unless (drift_ok l body) 17
value_number Initial s l body = point_number false s l body
value_number Input s l body = point_number true s l body
value_number Direction s l body = unless (direction_ok l body) 7
value_number Guard s l body = unless (guard_ok s body) 8
value_number End s l body = 0

-- Refusals 16, then the other values: the number of a whole body, 0 where it passes.
unfoldable pub body_number : State → ℕ → List ℕ → ℕ
body_number s kind body =
    first_of (unless (unused_zero s.model.n (layout_of kind) body) 16) (value_number (part_of kind) s (layout_of kind) body)
