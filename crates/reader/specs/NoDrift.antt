-- File 15: what is said of files without a drift record. Definitions only, for laws of `read_model` and of the replies; no contract
-- cites them. Assumes nothing.
use Rattle.std.specs.Prelude.{◌≡◌, List, ◌∷◌, ℕ}
use Rattle.records.specs.declared.kinds.Part.TheVariants.{Drift}
use Rattle.records.specs.Places.{matrix_place}
use Rattle.records.specs.Kinds.{part_of}
use Rattle.records.specs.Records.{record_at, record_kind}
use Rattle.reader.specs.Reading.{Stop}
use Rattle.reader.specs.LeftOut.{zero_body}

-- A place in a file: all rows are in, and the next record is no drift, or no record is left.
pub record NoDriftAt (file : List ℕ) (p : Stop) : Type 0 where
  pub rows_in : p.state.place ≡ matrix_place
  pub other : part_of (record_kind (record_at file p.at)) ≡ Drift → ⊥

-- A drift of zeros, 25 bytes.
abbrev pub zero_drift : List ℕ
zero_drift = 0x05 ∷ zero_body
