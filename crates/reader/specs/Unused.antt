-- File 7: what is said of every record of an accepted file. Definitions only, for a law of `read_model`; no contract cites them.
-- Assumes nothing.
use Rattle.std.specs.Prelude.{◌≡◌, ◌⊎◌, List, ℕ, zero, suc, ◌^◌, ◌≤◌, ◌<◌, ℤ, pos}
use Rattle.records.specs.declared.kinds.Part.TheVariants.{Drift, Initial, Input, Direction}
use Rattle.records.specs.Kinds.{part_of}
use Rattle.records.specs.Records.{Record, record_at, record_kind, record_body}
use Rattle.columns.specs.Columns.{entry_at, bits_at}
use Rattle.reader.specs.Reading.{behind}

-- File 1: the offset of the record that so many stand before, counted from an offset. Behind the end of a file no record stands.
abbrev pub offset_of : List ℕ → ℕ → ℕ → ℕ
offset_of file at zero = at
offset_of file at (suc k) = offset_of file (behind at (record_at file at)) k

-- Record k of a file, the head being record 0.
abbrev pub record_no : List ℕ → ℕ → Record
record_no file k = record_at file (offset_of file 0 k)

-- Of six entries those beyond the first n are zero.
abbrev pub ZeroFrom : ℕ → (ℕ → ℤ) → Type 0
ZeroFrom n entry = (i : ℕ) → n ≤ i → i < 6 → entry i ≡ pos 0

-- The entries of a record that lie beyond the first n are zero, with the offsets of File 3 and not by the table of kinds. The bits of a
-- fitted one are one of the two patterns of zero.
pub record Unused (n kind : ℕ) (body : List ℕ) : Type 0 where
  pub scaled : kind ≡ 0x02 → ZeroFrom n (entry_at body 1)
  pub fitted : kind ≡ 0x03 → (i : ℕ) → n ≤ i → i < 6 → (bits_at body 1 i ≡ 0) ⊎ (bits_at body 1 i ≡ 2 ^ 63)
  pub drift : part_of kind ≡ Drift → ZeroFrom n (entry_at body 0)
  pub initial : part_of kind ≡ Initial → ZeroFrom n (entry_at body 0)
  pub input : part_of kind ≡ Input → ZeroFrom n (entry_at body 0)
  pub direction : part_of kind ≡ Direction → ZeroFrom n (entry_at body 0)

abbrev pub UnusedIn : ℕ → Record → Type 0
UnusedIn n r = Unused n (record_kind r) (record_body r)
