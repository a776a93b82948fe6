-- `calm::steps_within`: of a calm model the first step whose limit is above the slack settles the answer. Assumes nothing.
use Rattle.integers.proofs.Basics.{◌≡◌, sym, ap, ap₂, ◌∙◌, Bool, true, false, ℕ, suc, ◌-◌}
use mathlib.Core.Bool.{cond}
use borrow.Author.Tests.{eq-eqb, ne_eqb}
use lib.Dec.{ltb, eqb}
use Rattle.std.specs.Prelude.{Result, Ok, Err}
use Rattle.std.proofs.lemmas.Result.{err_from_is_err_and}
use Rattle.reachability.specs.Recurrence.{first_place}
use Rattle.reachability.specs.declared.model.Model.{Model}
use Rattle.reachability.proofs.model.Facts.{model-facts}
use Rattle.calm.specs.Calm.{limit_of, first_above}
use Rattle.calm.specs.Answers.{by_calmness, steps_answer}
use Rattle.calm.specs.OfCalm.{CalmTotals}
use Rattle.calm.specs.declared.CalmRefusal.{CalmRefusal}
use Rattle.calm.specs.declared.CalmRefusal.TheVariants.{Invalid, NotCalm, TooSmall}
use Rattle.calm.specs.declared.limit.Totals.{Totals}
use Rattle.calm.proofs.Answers.{within-answers, yes-accepted}
use Rattle.calm.proofs.steps_within.Goals as goal

-- the answer for a calm model, by the first step that is above
module _ (m : Model) (s : ℕ) (t : Totals) (told : CalmTotals m t) (first : ℕ) (e : first ≡ first_place (suc m.steps) (λ j. ltb s (limit_of t.initial t.entering j))) where
  first-is : first ≡ first_above m s
  first-is = e ∙ ap₂ (λ (x y : ℕ). first_place (suc m.steps) (λ j. ltb s (limit_of x y j))) told.initial-is told.entering-is

  settled : (b : Bool) → eqb first 0 ≡ b → cond b (Err TooSmall) (Ok (first - 1)) ≡ steps_answer m s
  settled b test =
      ap (λ (t : Bool). cond t (Err TooSmall) (Ok (first - 1))) (sym test)
      ∙ ap (λ (x : ℕ). cond (eqb x 0) (Err TooSmall) (Ok (x - 1))) first-is
      ∙ ap (λ (a : Result Bool CalmRefusal). by_calmness a (Err Invalid) (Err NotCalm) (cond (eqb (first_above m s) 0) (Err TooSmall) (Ok (first_above m s - 1)))) (sym told.calm)

pub returns-in_err-calm_totals : goal.returns-in_err-calm_totals
returns-in_err-calm_totals c =
    let m = c.args.model in
    let first = first_above m c.args.slack in
    let p = err_from_is_err_and c.from_residual.result c.from_residual.ensures.1 in
    rw (p.1, p.2) (within-answers m c.args.slack _ (sym (c.in_err-calm_totals.ensures (cond (eqb first 0) (Err TooSmall) (Ok (first - 1))))))

pub first_above-first-requires : goal.first_above-first-requires
first_above-first-requires c = (model-facts c.args.model (yes-accepted c.args.model c.in_ok-calm_totals.ensures.calm).0).steps-most

pub returns-then-first-eq0 : goal.returns-then-first-eq0
returns-then-first-eq0 c = within-answers c.args.model c.args.slack (Err TooSmall) (settled _ _ _ c.in_ok-calm_totals.ensures _ c.first_above-first.ensures true (eq-eqb _ 0 c.if-first-eq0.true))

pub returns : goal.returns
returns c = within-answers c.args.model c.args.slack (Ok (c.first_above-first.result - 1)) (settled _ _ _ c.in_ok-calm_totals.ensures _ c.first_above-first.ensures false (ne_eqb _ 0 c.if-first-eq0.false))
