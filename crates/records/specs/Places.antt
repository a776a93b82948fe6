-- File 5: the places of a file, in its order. Definitions only. A place tells how far the records have come. It is a rank: what stands
-- later in a file has a higher one. Assumes nothing.
use Rattle.std.specs.Prelude.{ℕ}

-- Before the first record.
abbrev pub start_place : ℕ
start_place = 0

-- Behind the head, until all n rows are in.
abbrev pub rows_place : ℕ
rows_place = 1

-- Behind row n - 1.
abbrev pub matrix_place : ℕ
matrix_place = 2

-- Behind the drift.
abbrev pub drift_place : ℕ
drift_place = 3

-- Behind a lower corner of the initial set, and from there on, one by one, behind an upper corner, a centre, a generator and a vertex.
abbrev pub initial_place : ℕ
initial_place = 4

-- The same of the input set.
abbrev pub input_place : ℕ
input_place = 9

-- Behind a direction.
abbrev pub direction_place : ℕ
direction_place = 14

-- Behind a guard.
abbrev pub guard_place : ℕ
guard_place = 15

-- Behind the end.
abbrev pub end_place : ℕ
end_place = 16
