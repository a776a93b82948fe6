-- File 5 and 6: which kind may stand at which place. Definitions only. Kinds are known ones: what is unknown is refused before.
-- Assumes nothing.
use Rattle.std.specs.Prelude.{Bool, false, ◌&&◌, ◌||◌, List, ◌∷◌, [], ℕ, ◌+◌, eqb}
use Rattle.records.specs.Places.{start_place, rows_place, matrix_place, drift_place, initial_place, input_place, direction_place, guard_place}

-- File 5 and 6, as a table. Each pair is a place and a kind that may stand there.
abbrev pub order : List (ℕ × ℕ)
order =
    (start_place, 0x01)
    ∷ (rows_place, 0x02) ∷ (rows_place, 0x03)
    ∷ (matrix_place, 0x05) ∷ (matrix_place, 0x10) ∷ (matrix_place, 0x12) ∷ (matrix_place, 0x14)
    ∷ (drift_place, 0x10) ∷ (drift_place, 0x12) ∷ (drift_place, 0x14)
    ∷ (initial_place, 0x11)
    ∷ (initial_place + 1, 0x20) ∷ (initial_place + 1, 0x22) ∷ (initial_place + 1, 0x24) ∷ (initial_place + 1, 0x30)
    ∷ (initial_place + 2, 0x13)
    ∷ (initial_place + 3, 0x13) ∷ (initial_place + 3, 0x20) ∷ (initial_place + 3, 0x22) ∷ (initial_place + 3, 0x24) ∷ (initial_place + 3, 0x30)
    ∷ (initial_place + 4, 0x14) ∷ (initial_place + 4, 0x20) ∷ (initial_place + 4, 0x22) ∷ (initial_place + 4, 0x24) ∷ (initial_place + 4, 0x30)
    ∷ (input_place, 0x21)
    ∷ (input_place + 1, 0x30)
    ∷ (input_place + 2, 0x23)
    ∷ (input_place + 3, 0x23) ∷ (input_place + 3, 0x30)
    ∷ (input_place + 4, 0x24) ∷ (input_place + 4, 0x30)
    ∷ (direction_place, 0x30) ∷ (direction_place, 0x40) ∷ (direction_place, 0xFF)
    ∷ (guard_place, 0x40) ∷ (guard_place, 0xFF)
    ∷ []

abbrev pub listed : ℕ → ℕ → List (ℕ × ℕ) → Bool
listed place kind [] = false
listed place kind (p ∷ ps) = (eqb p.0 place && eqb p.1 kind) || listed place kind ps

unfoldable pub may_follow : ℕ → ℕ → Bool
may_follow place kind = listed place kind order
