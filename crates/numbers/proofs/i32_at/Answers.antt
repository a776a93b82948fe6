-- `numbers::i32_at`: the bytes as `from_le_bytes` joins them, and their sign. Assumes nothing.
use Rattle.std.proofs.Common.{◌∙◌, w32}
use mir.Facts.{to_z-of_z}
use Rattle.numbers.proofs.LittleEndian.{little_endian-read}
use Rattle.numbers.proofs.TwosComplement.{signed_at-bits}
use Rattle.numbers.proofs.i32_at.Goals as goal

pub returns : goal.returns
returns c =
    to_z-of_z {w = w32} (record { sfits = c.from_le_bytes.type_inv })
    ∙ c.from_le_bytes.ensures
    ∙ signed_at-bits w32 c.args.bytes.now c.args.at c.type_inv.bytes _ (little_endian-read 3 _ _ _ c.bytes_at.ensures)
