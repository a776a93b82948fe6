-- `writer::parts::drift_count` meets its contract: six numbers are zero outside no row and no column where all are. Assumes nothing.
use Rattle.integers.proofs.Basics.{◌≡◌, refl, sym, ap, subst, ◌∙◌, Bool, ℕ, length, ℤ}
use mathlib.Core.Bool.{cond}
use mathlib.Core.List.{List}
use Rattle.integers.specs.Sums.{vector, all_below}
use Rattle.arrays.specs.Tests.{zero_unless, zero_outside}
use Rattle.limits.specs.Limits.{all_zero}
use Rattle.writer.proofs.parts.drift_count.Goals as goal

zeros-is : (xs : List ℤ) → length xs ≡ 6 → zero_outside 0 0 xs ≡ all_zero xs 0
unfolding all_below
zeros-is xs e = subst (λ (k : ℕ). all_below k (λ i. zero_unless 0 0 i (vector xs i)) ≡ all_zero xs 0) (sym e) refl

pub returns : goal.returns
returns c =
    c.unless_left_out.ensures ∙ ap (λ (b : Bool). cond b 0 1) (c.zero_outside.ensures ∙ zeros-is c.args.drift.now c.told-drift)
