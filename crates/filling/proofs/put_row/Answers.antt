-- The answers of `filling::put_row`: a row beyond the end changes nothing, and behind the loop all six numbers are stored.
-- Assumes nothing.
use Rattle.std.proofs.Common.{◌≡◌, ℕ, sym, ap, ◌∙◌, arith}
use Rattle.filling.specs.Models.{put_first, put_row}
use Rattle.filling.proofs.PutRow.{put_row-beyond}
use Rattle.filling.proofs.put_row.Goals as goal

pub returns-then-xs-row : goal.returns-then-xs-row
returns-then-xs-row c = let a = c.args in sym (put_row-beyond a.row a.six.now a.xs.now (omega (arith, c.if-xs-row.true)))

pub returns : goal.returns
unfolding put_row
returns c =
    let a = c.args in
    let end : c.loop-i.i ≡ 6 = omega arith in
    c.loop-i.invariant ∙ ap (λ (k : ℕ). put_first k a.xs.now a.row a.six.now) end
