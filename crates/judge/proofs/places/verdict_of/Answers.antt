-- `judge::places::verdict_of` meets its contract: the two positions give the verdict. Assumes nothing.
use Rattle.std.proofs.Common.{refl, Some, None, to_z-of_z, rules}
use Rattle.judge.proofs.Positions.{judged-lists}
use Rattle.judge.proofs.places.verdict_of.Goals as goal

pub returns-in-Some : goal.returns-in-Some
returns-in-Some c = judged-lists _ _ {h = Some c.in-Some.k} (to_z-of_z c.ranges.level) c.if-slacks-bounds.false (search rules) c.in-Some.ensures refl

pub returns-in-Some-first_unknown : goal.returns-in-Some-first_unknown
returns-in-Some-first_unknown c = judged-lists _ _ {h = None} {u = Some c.in-Some-first_unknown.k} (to_z-of_z c.ranges.level) c.if-slacks-bounds.false (search rules) c.in_default.ensures c.in-Some-first_unknown.ensures

pub returns-in-None : goal.returns-in-None
returns-in-None c = judged-lists _ _ {h = None} {u = None} (to_z-of_z c.ranges.level) c.if-slacks-bounds.false (search rules) c.in_default.ensures c.in-None.ensures
