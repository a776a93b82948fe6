-- `calm::slack_limit`: what is answered of a calm model by its sums is its limit. Assumes nothing.
use Rattle.integers.proofs.Basics.{◌≡◌, sym, ap, ap₂, ◌∙◌, Bool, true, false, ℕ, arith}
use mathlib.Core.Bool.{cond}
use borrow.Author.Tests.{le-leb, lt-leb}
use lib.Dec.{leb}
use Rattle.std.specs.Prelude.{Result, Ok, Err}
use Rattle.std.proofs.lemmas.Result.{err_from_is_err_and}
use Rattle.reachability.specs.declared.model.Model.{Model}
use Rattle.reachability.proofs.model.Facts.{model-facts}
use Rattle.calm.specs.Calm.{limit_of, slack_limit}
use Rattle.calm.specs.Answers.{calm_answer, by_calmness, limit_answer}
use Rattle.calm.specs.declared.CalmRefusal.{CalmRefusal}
use Rattle.calm.specs.declared.CalmRefusal.TheVariants.{Invalid, NotCalm, NoStep}
use Rattle.calm.proofs.Answers.{limit-answers, yes-accepted}
use Rattle.calm.proofs.slack_limit.Goals as goal

-- the answer for a calm model, by the test of the step
settled : (m : Model) (k : ℕ) (b : Bool) → calm_answer m ≡ Ok true → leb k m.steps ≡ b → cond b (Ok (slack_limit m k)) (Err NoStep) ≡ limit_answer m k
settled m k b calm test =
    ap (λ (t : Bool). cond t (Ok (slack_limit m k)) (Err NoStep)) (sym test)
    ∙ ap (λ (a : Result Bool CalmRefusal). by_calmness a (Err Invalid) (Err NotCalm) (cond (leb k m.steps) (Ok (slack_limit m k)) (Err NoStep))) (sym calm)

pub returns-in_err-totals : goal.returns-in_err-totals
returns-in_err-totals c =
    let m = c.args.model in
    let p = err_from_is_err_and c.from_residual.result c.from_residual.ensures.1 in
    rw (p.1, p.2) (limit-answers m c.args.step _ (sym (c.in_err-totals.ensures (cond (leb c.args.step m.steps) (Ok (slack_limit m c.args.step)) (Err NoStep)))))

pub returns-then-model-step : goal.returns-then-model-step
returns-then-model-step c =
    let m = c.args.model in
    limit-answers m c.args.step (Err NoStep) (settled m c.args.step false c.in_ok-totals.ensures.calm (lt-leb c.args.step m.steps c.if-model-step.true))

pub limit_at-requires : goal.limit_at-requires
limit_at-requires c =
    let m = c.args.model in
    omega (arith, c.if-model-step.false, (model-facts m (yes-accepted m c.in_ok-totals.ensures.calm).0).steps-most)

pub returns : goal.returns
returns c =
    let m = c.args.model in
    let k = c.args.step in
    let t = c.in_ok-totals.ensures in
    limit-answers m k (Ok c.limit_at.result)
    (ap Ok (c.limit_at.ensures ∙ ap₂ (λ (x y : ℕ). limit_of x y k) t.initial-is t.entering-is) ∙ settled m k true t.calm (le-leb k m.steps c.if-model-step.false))
