-- `calm::limit::Totals::of`: the model is accepted, so that `reach` refuses neither set, and the sums are those of its reaches.
-- Assumes nothing.
use Rattle.integers.proofs.Basics.{◌≡◌, sym, ap, subst, ◌∙◌, ◌+◌, ℤ}
use mathlib.Core.List.{List}
use Rattle.integers.specs.Sums.{magnitudes, sum_ℕ}
use Rattle.calm.specs.Calm.{initial_total, entering_total}
use Rattle.calm.specs.Inner.{SmallReaches}
use Rattle.calm.proofs.Totals.{none, initial-small, initial-is, entering-small, entering-is, small-totals}
use Rattle.calm.proofs.limit.Totals.of.Goals as goal

initial-sum : (c : goal.After-total-2) → c.total.result ≡ initial_total c.args.model
initial-sum c =
    let m = c.args.model in
    c.total.ensures ∙ ap (λ (xs : List ℤ). sum_ℕ m.n (λ i. magnitudes xs i + magnitudes none i)) c.unwrap_or-initial.ensures ∙ initial-is m c.requires c.reach.ensures none

entering-sum : (c : goal.After-total-2) → c.total-2.result ≡ entering_total c.args.model
entering-sum c =
    let m = c.args.model in
    c.total-2.ensures ∙ ap (λ (xs : List ℤ). sum_ℕ m.n (λ i. magnitudes xs i + magnitudes m.drift i)) c.unwrap_or-input.ensures ∙ entering-is m c.requires c.reach-2.ensures none

pub total-requires : goal.total-requires
total-requires c =
    let m = c.args.model in
    subst (λ (xs : List ℤ). SmallReaches m.n xs none) (sym c.unwrap_or-initial.ensures) (initial-small m c.requires c.reach.ensures none)

pub total-requires-2 : goal.total-requires-2
total-requires-2 c =
    let m = c.args.model in
    subst (λ (xs : List ℤ). SmallReaches m.n xs m.drift) (sym c.unwrap_or-input.ensures) (entering-small m c.requires c.reach-2.ensures none)

pub invariant_of-result : goal.invariant_of-result
invariant_of-result c = record { small = small-totals c.args.model c.requires (initial-sum c) (entering-sum c) }

pub returns-clause-initial : goal.returns-clause-initial
returns-clause-initial c = initial-sum c.before

pub returns-clause-entering : goal.returns-clause-entering
returns-clause-entering c = entering-sum c.before
