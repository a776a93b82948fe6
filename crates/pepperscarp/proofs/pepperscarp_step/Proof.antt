-- `pepperscarp::pepperscarp_step` meets its contract: the answer of `step`, whose figure is small, in one number. Assumes nothing.
use Rattle.std.specs.Prelude.{Option, ℕ}
use Rattle.integers.proofs.Basics.{sym, subst, ◌<◌, rules}
use Rattle.pepperscarp.specs.Packing.{stepped_figure, figure_limit}
use Rattle.pepperscarp.proofs.Figures.{stepped-small}
use Rattle.pepperscarp.proofs.Replying.{steps-answer, step-reply}
use Rattle.pepperscarp.proofs.pepperscarp_step.Statement.{statement}
use Rattle.pepperscarp.proofs.pepperscarp_step.Tie as tie

stepped-requires : tie.Need-stepped-requires
stepped-requires c κs =
    let a = c.args in
    subst (λ (y : Option ℕ). stepped_figure y < figure_limit) (sym (steps-answer a.n a.matrix.now a.r.now a.e.now c.step-answer.result _ _ c.step-answer.ensures))
    (stepped-small a.n a.matrix.now a.r.now a.e.now)

returns : tie.Need-returns
returns c =
    let a = c.args in
    step-reply a.n a.matrix.now a.r.now a.e.now c.step-answer.result _ _ c.stepped.result c.step-answer.ensures c.stepped.ensures

pub pepperscarp_step_spec : {M : Type 1} → statement M
pepperscarp_step_spec = tie.close (tie.spec (λ c κs. search rules) stepped-requires returns)
