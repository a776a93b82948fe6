-- `numbers::u64_at`: the bytes as `from_le_bytes` joins them. Assumes nothing.
use Rattle.std.proofs.Common.{arith}
use Rattle.numbers.proofs.LittleEndian.{little_endian-read}
use Rattle.numbers.proofs.u64_at.Goals as goal

pub returns : goal.returns
returns c = omega (arith, little_endian-read 7 _ _ _ c.bytes_at.ensures)
