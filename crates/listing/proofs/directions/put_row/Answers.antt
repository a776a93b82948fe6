-- `listing::directions::put_row` meets its contract: six texts, one behind the other. Assumes nothing.
use Rattle.integers.proofs.Basics.{ap, arith, to_z-of_z}
use Rattle.text.specs.Text.{signed_decimal}
use Rattle.listing.proofs.Outputs.{next_fits, nexts-is, nexts_then}
use Rattle.listing.proofs.directions.put_row.Goals as goal

pub returns : goal.returns
returns c =
    let room = c.requires in
    let bound-is = ap signed_decimal (to_z-of_z c.ranges.bound) in
    let slack-is = ap signed_decimal (to_z-of_z c.ranges.slack) in
    let step = next_fits c.put_decimal.ensures (omega (arith, room)) in
    let step-space = nexts_then step c.put.ensures (omega (arith, room)) in
    let to-bound = nexts_then step-space (nexts-is _ bound-is c.put_signed.ensures) (omega (arith, room)) in
    let bound-space = nexts_then to-bound c.put-2.ensures (omega (arith, room)) in
    let to-slack = nexts_then bound-space (nexts-is _ slack-is c.put_signed-2.ensures) (omega (arith, room)) in
    nexts_then to-slack c.put-3.ensures room
