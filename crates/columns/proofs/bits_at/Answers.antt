-- `columns::bits_at`: the number in the part of the body. Assumes nothing.
use Rattle.std.proofs.Common.{List, ℕ, ◌*◌, ap, ◌∙◌}
use Rattle.numbers.specs.Numbers.{little_endian}
use Rattle.numbers.proofs.LittleEndian.{little_endian-drop}
use Rattle.columns.proofs.bits_at.Goals as goal

pub returns : goal.returns
returns c =
    c.u64_at.ensures
    ∙ ap (λ (l : List ℕ). little_endian 8 l (8 * c.args.i)) c.part_from.ensures
    ∙ little_endian-drop 8 c.args.body.now c.args.at (8 * c.args.i)
