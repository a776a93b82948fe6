-- `reachability::sets::support`: the set and the direction have passed, so the support may be taken; its loops run to six, and the
-- definition to n. Assumes nothing.
use Rattle.integers.proofs.Basics.{◌≡◌, sym, ap, ◌∙◌, true, w64}
use Rattle.std.specs.Prelude.{Some}
use Rattle.integers.specs.Sums.{vector}
use Rattle.integers.proofs.Machine.{read-given}
use Rattle.integers.proofs.Booleans.{and-true}
use Rattle.limits.specs.Limits.{direction_ok}
use Rattle.reachability.proofs.sets.Facts.{set-facts, n-range, direction-small}
use Rattle.reachability.proofs.sets.Bounds.{support_of-six}
use Rattle.reachability.proofs.sets.support.Goals as goal

pub support_of-requires : goal.support_of-requires
support_of-requires c =
    let s = c.args.set in
    let facts = set-facts c.args.n s.shape s.count s.points (and-true _ _ (sym c.ok.ensures ∙ c.if-ok.true)).1 in
    (facts.counted, record { coordinates = facts.coordinates; values = direction-small c.args.n c.args.r.now (sym c.direction_ok.ensures ∙ c.if-direction_ok.true) })

pub returns-then-direction_ok : goal.returns-then-direction_ok
returns-then-direction_ok c =
    let a = c.args in
    let s = a.set in
    let ok = and-true _ _ (sym c.ok.ensures ∙ c.if-ok.true) in
    let direction : direction_ok a.n a.r.now ≡ true = sym c.direction_ok.ensures ∙ c.if-direction_ok.true in
    let value = read-given w64 c.support_of.result c.support_of.type_inv ∙ c.support_of.ensures ∙ support_of-six a.n (n-range a.n ok.0).1 s.count s.points (set-facts a.n s.shape s.count s.points ok.1).outside s.shape (vector a.r.now) in
    record { answer = simp (ok.0, ok.1, direction) (ap Some value); number = simp (ok.0, ok.1, direction) }
