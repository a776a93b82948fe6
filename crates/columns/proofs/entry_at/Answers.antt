-- `columns::entry_at`: the number in the part of the body. Assumes nothing.
use Rattle.integers.proofs.Basics.{ℕ, ◌*◌, ap, ◌∙◌, w32, to_z-of_z}
use Rattle.std.proofs.Common.{List, ◌^◌}
use Rattle.numbers.specs.Numbers.{twos_complement, signed_at}
use Rattle.numbers.proofs.LittleEndian.{little_endian-drop}
use Rattle.columns.proofs.entry_at.Goals as goal

pub returns : goal.returns
returns c =
    to_z-of_z {w = w32} (record { sfits = c.i32_at.type_inv })
    ∙ c.i32_at.ensures
    ∙ ap (λ (l : List ℕ). signed_at 4 l (4 * c.args.i)) c.part_from.ensures
    ∙ ap (twos_complement (2 ^ 31)) (little_endian-drop 4 c.args.body.now c.args.at (4 * c.args.i))
