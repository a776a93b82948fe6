-- `stepping::refusals::largest_sum` meets its contract. Assumes nothing.
use Rattle.std.proofs.Common.{rules, arith, refl, ap, ap₂, ◌∙◌, sym, Bool, false, ◌+◌, ◌/◌, ℕ, ◌≡◌, cond, Some, None}
use borrow.Author.Count.{below_more}
use lib.Signed.{non_neg}
use Rattle.integers.specs.Sums.{max_ℕ, vector, magnitudes}
use Rattle.integers.proofs.Sums.{max_ℕ-next, all_below-fails, all_below-intro}
use Rattle.stepping.specs.Recurrence.{growth_sum}
use Rattle.stepping.proofs.refusals.largest_sum.Goals as goal

pub loop-i-init : goal.loop-i-init
unfolding max_ℕ
loop-i-init c = record { natural = λ j h. absurd (omega arith); largest = refl }

pub loop-i-preserved : goal.loop-i-preserved
loop-i-preserved c = record { natural = below_more _ _ c.loop-i.invariant.natural (search rules); largest = (search rules) ∙ max_ℕ-next _ _ {a = c.unsigned_abs.result + (c.in_ok-error.error + 1) / 2} c.loop-i.invariant.largest (ap₂ ◌+◌ (search rules) (search rules)) }

pub returns-in_err-error : goal.returns-in_err-error
returns-in_err-error c =
    let negative : non_neg (vector c.args.e.now c.loop-i.i) ≡ false = search rules in
    c.from_residual.ensures ∙ sym (ap (λ (t : Bool). cond t (Some (growth_sum 6 (vector c.args.r.now) (magnitudes c.args.e.now))) None) (all_below-fails 6 (λ i. non_neg (vector c.args.e.now i)) c.loop-i.i c.loop-i-test.true negative))

pub returns : goal.returns
returns c =
    let done : c.loop-i.i ≡ 6 = omega arith in
    ap Some (c.loop-i.invariant.largest ∙ ap (λ (k : ℕ). growth_sum k (vector c.args.r.now) (magnitudes c.args.e.now)) done)
    ∙ sym (ap (λ (t : Bool). cond t (Some (growth_sum 6 (vector c.args.r.now) (magnitudes c.args.e.now))) None) (all_below-intro 6 (λ i. non_neg (vector c.args.e.now i)) (λ j h. c.loop-i.invariant.natural j (omega arith))))
