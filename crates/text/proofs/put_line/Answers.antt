-- `text::put_line` meets its contract: five texts, one behind the other, where there is room for all of them. Assumes nothing.
use Rattle.integers.proofs.Basics.{◌+◌, ◌≤◌, arith, length}
use Rattle.text.proofs.Putting.{puts-fits, puts_then}
use Rattle.text.proofs.put_line.Goals as goal

pub returns : goal.returns
returns c =
    let h : c.args.at + (length c.args.first.now + 20 + length c.args.second.now + 20 + 1) ≤ length c.args.out.now =
    omega (arith, c.full.ensures.enough c.if-full.false) in
    let one = c.put-end.ensures.fits (omega (arith, h)) in
    let two = puts_then one c.put_decimal-end.ensures (omega (arith, h)) in
    let three = puts_then two c.put-end-2.ensures (omega (arith, h)) in
    let four = puts_then three c.put_decimal-end-2.ensures (omega (arith, h)) in
    puts-fits h (puts_then four c.put.ensures h)
