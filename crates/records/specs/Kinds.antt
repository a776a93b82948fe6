-- File 3: what each kind of record is. Definitions only. Assumes nothing.
use Rattle.std.specs.Prelude.{cond, List, ◌∷◌, [], ℕ, ◌+◌, eqb, Option, Some, None}
use Rattle.records.specs.declared.kinds.Layout.{Layout}
use Rattle.records.specs.declared.kinds.Part.{Part}
use Rattle.records.specs.declared.kinds.Part.TheVariants.{Head, Row, Drift, Initial, Input, Direction, Guard, End}
use Rattle.records.specs.declared.kinds.Point.{Point}
use Rattle.records.specs.declared.kinds.Point.TheVariants.{Lower, Upper, Centre, Generator, Vertex}
use Rattle.records.specs.Places.{start_place, rows_place, matrix_place, drift_place, initial_place, input_place, direction_place, guard_place, end_place}

-- What a kind is: the part of the model that it belongs to; which point of a set it is; the bytes of its body; the offset in the body
-- of the first of its six entries, and the bytes of an entry, 0 where it has none; the most records of its part; the place behind it.
abbrev pub layout : Part → Option Point → ℕ → ℕ → ℕ → ℕ → ℕ → Layout
layout part point length first width most place =
    record { part = part; point = point; length = length; first = first; width = width; most = most; place = place }

-- Refusals 9: a set has at most 16 points, and there are at most 16 directions and 16 guards. A zonotope has its centre and 8
-- generators (Sets 5). A head, rows, a drift and the end are not counted, so that any number above 0 may stand there.
abbrev pub most : ℕ
most = 16

abbrev pub most_of_zonotope : ℕ
most_of_zonotope = 9

-- File 3, row by row. Behind a row the place given is the one once all are in.
abbrev pub kinds : List (ℕ × Layout)
kinds =
    (0x01, layout Head None 3 0 0 most rows_place)
    ∷ (0x02, layout Row None 25 1 4 most matrix_place)
    ∷ (0x03, layout Row None 49 1 8 most matrix_place)
    ∷ (0x05, layout Drift None 24 0 4 most drift_place)
    ∷ (0x10, layout Initial (Some Lower) 24 0 4 most initial_place)
    ∷ (0x11, layout Initial (Some Upper) 24 0 4 most (initial_place + 1))
    ∷ (0x12, layout Initial (Some Centre) 24 0 4 most (initial_place + 2))
    ∷ (0x13, layout Initial (Some Generator) 24 0 4 most_of_zonotope (initial_place + 3))
    ∷ (0x14, layout Initial (Some Vertex) 24 0 4 most (initial_place + 4))
    ∷ (0x20, layout Input (Some Lower) 24 0 4 most input_place)
    ∷ (0x21, layout Input (Some Upper) 24 0 4 most (input_place + 1))
    ∷ (0x22, layout Input (Some Centre) 24 0 4 most (input_place + 2))
    ∷ (0x23, layout Input (Some Generator) 24 0 4 most_of_zonotope (input_place + 3))
    ∷ (0x24, layout Input (Some Vertex) 24 0 4 most (input_place + 4))
    ∷ (0x30, layout Direction None 24 0 4 most direction_place)
    ∷ (0x40, layout Guard None 9 0 0 most guard_place)
    ∷ (0xFF, layout End None 0 0 0 most end_place)
    ∷ []

-- What the first row of this kind gives, and `none` where there is no such row.
abbrev pub told : {A : Type 0} → (Layout → A) → A → ℕ → List (ℕ × Layout) → A
told value none kind [] = none
told value none kind (row ∷ rows) = cond (eqb row.0 kind) (value row.1) (told value none kind rows)

-- File 1: the kind fixes the length. A kind that is not in the table is unknown (Refusals 2).
pub data BodyLength : Type 0 where
  body_bytes : ℕ → BodyLength
  body_unknown : BodyLength

unfoldable pub body_length : ℕ → BodyLength
body_length kind = told (λ l. body_bytes l.length) body_unknown kind kinds

-- Routines 13: what a kind is, and nothing of an unknown one.
unfoldable pub kind_layout : ℕ → Option Layout
kind_layout kind = told Some None kind kinds

-- The same with a layout for every kind: an unknown one is an end with 0 in every number, and 0 records are the most that it may have.
abbrev pub no_layout : Layout
no_layout = layout End None 0 0 0 0 start_place

unfoldable pub layout_of : ℕ → Layout
layout_of kind = told (λ l. l) no_layout kind kinds

-- The last column of the table of File 3: the part of the model that a kind belongs to.
abbrev pub part_of : ℕ → Part
part_of kind = (layout_of kind).part
