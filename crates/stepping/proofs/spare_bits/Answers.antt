-- `stepping::spare_bits` meets its contract, by `SpareFigure`. Assumes nothing.
use Rattle.std.proofs.Common.{rules, arith, ap, Some, ◌≤◌}
use borrow.Author.Tests.{le-leb}
use Rattle.stepping.specs.Limits.{growth_limit}
use Rattle.stepping.specs.Recurrence.{spare}
use Rattle.stepping.proofs.Numbers.{spares}
use Rattle.stepping.proofs.SpareFigure.{SpareIs, spare-is}
use Rattle.stepping.proofs.spare_bits.Goals as goal

low : (c : goal.Else-not-contains) → 1 ≤ c.args.largest
low c = search rules

high : (c : goal.Else-not-contains) → c.args.largest ≤ growth_limit
high c = search rules

is : (c : goal.Else-not-contains) → SpareIs c.args.largest (spare c.args.largest)
is c = spare-is c.args.largest (low c) (high c)

pub overflow_sub-result-2 : goal.overflow_sub-result-2
overflow_sub-result-2 c = omega (arith, (is c).zeros)

pub returns : goal.returns
returns c = spares c.args.largest _ (simp (le-leb 1 c.args.largest (low c), le-leb c.args.largest growth_limit (high c)) (ap Some (omega (arith, (is c).zeros))))
