-- Writing 1 and 2: the file of a model, part by part, as the list of its bytes. Definitions only. Kinds are those of File 3. They are
-- meant of accepted models, whose numbers fit their bytes. Assumes nothing.
use Rattle.std.specs.Prelude.{Bool, true, false, cond, ◌&&◌, List, [], ◌∷◌, ◌++◌, ℕ, ◌+◌, eqb, ℤ, get_or}
use Rattle.integers.specs.Sums.{vector, matrix}
use Rattle.arrays.specs.Tests.{zero_outside}
use Rattle.limits.specs.Limits.{all_zero}
use Rattle.reachability.specs.declared.sets.Shape.{Shape}
use Rattle.reachability.specs.declared.sets.Shape.TheVariants.{Box, Zonotope, Vertices}
use Rattle.reachability.specs.declared.sets.Set.{Set}
use Rattle.reachability.specs.declared.model.Model.{Model}
use Rattle.reachability.specs.Motion.{rows_of}
use Rattle.numbers.specs.Numbers.{bytes_of, signed_bytes}
use Rattle.text.specs.Text.{each}

-- ---- records

-- File 3: the six entries of row k, of 4 bytes each.
unfoldable pub six_bytes : List ℤ → ℕ → List ℕ
six_bytes xs k = each 6 (λ i. signed_bytes 4 (matrix xs k i))

-- A record for each of the first so many rows of six, the first of one kind and the others of another.
abbrev pub vector_records : ℕ → ℕ → ℕ → List ℤ → List ℕ
vector_records first other count xs = each count (λ k. cond (eqb k 0) first other ∷ six_bytes xs k)

-- ---- the parts of a file, in its order

-- The head, with n and K. No accepted model has K 0, so that the steps are named outright.
abbrev pub head_record : Model → List ℕ
head_record m = 0x01 ∷ m.n ∷ bytes_of 2 m.steps

-- The rows of the matrix, scaled, each with its number.
abbrev pub row_records : ℕ → List ℤ → List ℕ
row_records n rows = each n (λ p. 0x02 ∷ p ∷ six_bytes rows p)

-- Writing 2: the drift, left out where it is zero.
abbrev pub drift_count : List ℤ → ℕ
drift_count drift = cond (all_zero drift 0) 0 1

abbrev pub drift_records : List ℤ → List ℕ
drift_records drift = vector_records 0x05 0x05 (drift_count drift) drift

-- The kinds of a set's points: of the first, and of each other. `part` is 0x10 for the initial set and 0x20 for the input set.
abbrev pub first_kind : ℕ → Shape → ℕ
first_kind part Box = part
first_kind part Zonotope = part + 2
first_kind part Vertices = part + 4

abbrev pub other_kind : ℕ → Shape → ℕ
other_kind part Box = part + 1
other_kind part Zonotope = part + 3
other_kind part Vertices = part + 4

-- The first so many points of a set.
abbrev pub point_records : ℕ → Set → ℕ → List ℕ
point_records part s count = vector_records (first_kind part s.shape) (other_kind part s.shape) count s.points

abbrev pub initial_records : Set → List ℕ
initial_records s = point_records 0x10 s s.count

-- Writing 2: the input set, left out where it is the stored box of zeros.
abbrev pub is_box : Shape → Bool
is_box Box = true
is_box Zonotope = false
is_box Vertices = false

unfoldable pub is_zero_box : Set → Bool
is_zero_box s = is_box s.shape && (eqb s.count 2 && zero_outside 0 0 s.points)

abbrev pub input_count : Set → ℕ
input_count s = cond (is_zero_box s) 0 s.count

abbrev pub input_records : Set → List ℕ
input_records s = point_records 0x20 s (input_count s)

abbrev pub direction_records : ℕ → List ℤ → List ℕ
direction_records count entries = vector_records 0x30 0x30 count entries

-- The guards: the direction's number, and the level in 8 bytes.
abbrev pub guard_records : ℕ → List ℕ → List ℤ → List ℕ
guard_records count watched levels = each count (λ g. 0x40 ∷ get_or watched g 0 ∷ signed_bytes 8 (vector levels g))

abbrev pub end_record : List ℕ
end_record = 0xFF ∷ []

-- ---- the file

-- Writing 1.
unfoldable pub file_of : Model → List ℕ
file_of m =
    head_record m
    ++ row_records m.n (rows_of m.motion)
    ++ drift_records m.drift
    ++ initial_records m.initial
    ++ input_records m.input
    ++ direction_records m.questions.directions m.questions.entries
    ++ guard_records m.questions.guards m.questions.watched m.questions.levels
    ++ end_record
