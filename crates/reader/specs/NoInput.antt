-- File 10: what is said of files in which a direction stands straight after a complete initial set. Definitions only, for laws of
-- `read_model` and of the replies; no contract cites them. Assumes nothing.
use Rattle.std.specs.Prelude.{◌≡◌, Bool, true, ◌||◌, List, ◌∷◌, ◌++◌, ℕ, ◌+◌, eqb}
use Rattle.records.specs.declared.kinds.Part.TheVariants.{Direction}
use Rattle.records.specs.Places.{initial_place}
use Rattle.records.specs.Kinds.{part_of}
use Rattle.records.specs.Records.{record_at, record_kind}
use Rattle.reader.specs.Reading.{Stop}
use Rattle.reader.specs.LeftOut.{zero_body}

-- The initial set is complete behind its upper corner, a generator or a vertex.
abbrev pub completes_initial : ℕ → Bool
completes_initial place = eqb place (initial_place + 1) || (eqb place (initial_place + 3) || eqb place (initial_place + 4))

-- A place in a file: the initial set is complete, and the next record, whole or cut, is a direction.
pub record NoInputAt (file : List ℕ) (p : Stop) : Type 0 where
  pub complete : completes_initial p.state.place ≡ true
  pub direction : part_of (record_kind (record_at file p.at)) ≡ Direction

-- A lower and an upper corner of zeros of the input set, 50 bytes.
abbrev pub zero_corners : List ℕ
zero_corners = (0x20 ∷ zero_body) ++ (0x21 ∷ zero_body)
