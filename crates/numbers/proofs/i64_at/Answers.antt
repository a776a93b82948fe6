-- `numbers::i64_at`: the bytes as `from_le_bytes` joins them, and their sign. Assumes nothing.
use Rattle.std.proofs.Common.{◌∙◌, w64}
use mir.Facts.{to_z-of_z}
use Rattle.numbers.proofs.LittleEndian.{little_endian-read}
use Rattle.numbers.proofs.TwosComplement.{signed_at-bits}
use Rattle.numbers.proofs.i64_at.Goals as goal

pub returns : goal.returns
returns c =
    to_z-of_z {w = w64} (record { sfits = c.from_le_bytes.type_inv })
    ∙ c.from_le_bytes.ensures
    ∙ signed_at-bits w64 c.args.bytes.now c.args.at c.type_inv.bytes _ (little_endian-read 7 _ _ _ c.bytes_at.ensures)
