-- `reachability::entering::entering_within`: a coordinate whose reach and drift are too much fails the whole test. Assumes nothing.
use Rattle.integers.proofs.Basics.{◌≡◌, sym, ap, ap₂, ◌∙◌, Bool, ◌<◌, arith, nat_abs}
use mathlib.Core.Bool.{◌&&◌}
use borrow.Author.Tests.{lt-leb, le-leb}
use borrow.Author.Rules.{rules}
use Rattle.std.proofs.lemmas.Int.{ints}
use Rattle.integers.specs.Sums.{vector}
use Rattle.reachability.specs.SetsInner.{Counted}
use lib.Dec.{leb}
use native.Mathlib.Nat.{lt_of_lt_of_le}
use Rattle.integers.proofs.Sums.{all_below-fails, all_below-intro}
use Rattle.integers.proofs.Booleans.{and-false}
use Rattle.reachability.specs.Sets.{reach_limit}
use Rattle.reachability.specs.Entering.{entering_reach}
use Rattle.reachability.proofs.entering.entering_within.Goals as goal

pub returns-then-sum-gt-REACH_LIMIT : goal.returns-then-sum-gt-REACH_LIMIT
returns-then-sum-gt-REACH_LIMIT c =
    let a = c.args in
    let i = c.loop-i.i in
    let size : c.unsigned_abs.result ≡ nat_abs (vector a.drift.now i) = search (rules, ints) in
    let above : reach_limit < entering_reach a.shape a.count a.points.now a.drift.now i = omega arith in
    let fails = all_below-fails 6 (λ j. leb (entering_reach a.shape a.count a.points.now a.drift.now j) reach_limit) i c.loop-i-test.true (lt-leb _ _ above) in
    sym (ap (λ (b : Bool). (leb 1 a.count && leb a.count 16) && b) fails ∙ and-false _)

pub returns : goal.returns
returns c =
    let a = c.args in
    let k : Counted a.count = search rules in
    sym (ap₂ ◌&&◌ (ap₂ ◌&&◌ (le-leb 1 a.count k.some) (le-leb a.count 16 k.most))
    (all_below-intro 6 (λ j. leb (entering_reach a.shape a.count a.points.now a.drift.now j) reach_limit) (λ j h. c.loop-i.invariant j (lt_of_lt_of_le h c.loop-i-test.false))))
