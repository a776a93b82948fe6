-- `reader::take::test_point` meets its contract: a sum with the drift within its limit leaves nothing to say of the reach.
-- Assumes nothing.
use Rattle.std.proofs.Common.{sym, ◌∙◌, arith}
use Rattle.std.proofs.lemmas.Grind.{common_steps}
use Rattle.reachability.proofs.entering.Laws.{within-alone}
use Rattle.reader.specs.Values.{point_ok}
use Rattle.reader.proofs.take.test_point.Goals as goal

pub returns-then-entering_within : goal.returns-then-entering_within
unfolding point_ok
returns-then-entering_within c =
    let s = c.args.set.now in
    let enters = sym c.entering_within.ensures ∙ c.if-entering_within.true in
    let reaches = within-alone s.shape s.count s.points c.args.drift.now enters in
    grind (arith, common_steps)
