-- `stepping::growth` meets its contract: the largest sum of six is that of n. Assumes nothing.
use Rattle.std.proofs.Common.{sym, ap, ◌∙◌, ℕ, ◌≤◌, rules, Some, None, cond}
use borrow.Author.Tests.{le-leb}
use lib.Dec.{leb}
use Rattle.integers.specs.Sums.{vector, magnitudes}
use Rattle.integers.proofs.Booleans.{then_some-cond}
use Rattle.stepping.specs.Limits.{growth_limit}
use Rattle.stepping.specs.Refusals.{non_negative}
use Rattle.stepping.proofs.Numbers.{grows, sum-only}
use Rattle.stepping.proofs.Working.{zero_beyond-at}
use Rattle.stepping.proofs.Beyond.{growth_sum-six}
use Rattle.stepping.proofs.growth.Goals as goal

pub returns : goal.returns
returns c =
    let n = c.args.n in
    let r = c.args.r.now in
    let e = c.args.e.now in
    let least : 1 ≤ n = search rules in
    let most : n ≤ 6 = search rules in
    let zero-r = sym c.zero_beyond.ensures ∙ c.if-not-zero_beyond.false in
    let zero-e = sym c.zero_beyond-else-not-zero_beyond.ensures ∙ c.if-not-zero_beyond-2.false in
    let passed = sum-only (non_negative e) _ _ c.in_ok-sum.ensures in
    let six = growth_sum-six n most (vector r) (magnitudes e) (zero_beyond-at n r zero-r) (zero_beyond-at n e zero-e) in
    grows n r e _ (simp (le-leb 1 n least, le-leb n 6 most, zero-r, zero-e, passed.0) (c.then_some.ensures ∙ then_some-cond (leb c.in_ok-sum.sum growth_limit) c.in_ok-sum.sum ∙ ap (λ (s : ℕ). cond (leb s growth_limit) (Some s) None) (passed.1 ∙ six)))
