-- `text::put_signed` meets its contract: the sign, where there is one, and the magnitude. Assumes nothing.
use Rattle.integers.proofs.Basics.{ap, ◌∙◌, ℕ, arith, nat_abs, to_z-of_z}
use mathlib.Core.List.{◌++◌}
use Rattle.text.specs.Text.{word, decimal}
use Rattle.text.proofs.Decimals.{signed_below, signed_above}
use Rattle.text.proofs.Putting.{put_is, put-most, puts-fits, puts_then}
use Rattle.text.proofs.put_signed.Goals as goal
use Rattle.text.proofs.put_signed.Goals.{then-x-lt0, else-x-lt0}

pub returns : goal.returns
returns c =
    let room = c.full.ensures.enough c.if-full.false in
    let x = c.ranges.x in
    let size = c.unsigned_abs.ensures.value ∙ ap nat_abs (to_z-of_z x) in
    puts-fits room
    (elim c.if-x-lt0.branch [
      | then-x-lt0 w ↦
          let is = ap (λ (k : ℕ). word "-" ++ decimal k) size ∙ signed_below c.args.x (simp (to_z-of_z x) at w.if-x-lt0.true) in
          put_is _ is (puts_then (w.put-start.ensures.fits (omega (arith, room))) (rw (w.start-is, w.out-is) at c.put_decimal.ensures) room)
      | else-x-lt0 w ↦
          let is = ap decimal size ∙ signed_above c.args.x (simp (to_z-of_z x) at w.if-x-lt0.false) in
          put_is _ is (put-most 21 (omega arith) ((rw (w.start-is, w.out-is) at c.put_decimal.ensures).fits (omega (arith, room))))
    ])
