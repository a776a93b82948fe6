-- `calm::calm`: an accepted model has a small n, and its columns settle the answer. Assumes nothing.
use Rattle.integers.proofs.Basics.{◌≡◌, sym, ap, ◌∙◌, Bool, true, ℤ}
use mathlib.Core.Bool.{cond}
use mathlib.Core.List.{List}
use Rattle.std.specs.Prelude.{Ok, Err}
use Rattle.integers.specs.Sums.{matrix}
use Rattle.reachability.specs.Limits.{accepted}
use Rattle.reachability.proofs.model.Facts.{model-facts}
use Rattle.calm.specs.Calm.{calm_matrix, calm_model}
use Rattle.calm.specs.declared.CalmRefusal.TheVariants.{Invalid}
use Rattle.calm.proofs.Answers.{calm-answers}
use Rattle.calm.proofs.calm.Goals as goal

pub all_calm-requires : goal.all_calm-requires
all_calm-requires c = (model-facts c.args.model (sym c.accepts.ensures ∙ c.if-not-accepts.false)).n-most

pub returns-then-not-accepts : goal.returns-then-not-accepts
returns-then-not-accepts c =
    let m = c.args.model in
    calm-answers m (Err Invalid) (sym (ap (λ (b : Bool). cond b (Ok (calm_model m)) (Err Invalid)) (sym c.accepts.ensures ∙ c.if-not-accepts.true)))

pub returns : goal.returns
returns c =
    let m = c.args.model in
    let ok : accepted m ≡ true = sym c.accepts.ensures ∙ c.if-not-accepts.false in
    let columns : c.all_calm.result ≡ calm_model m = c.all_calm.ensures ∙ ap (λ (xs : List ℤ). calm_matrix m.n (matrix xs)) c.rows_of.ensures in
    calm-answers m (Ok c.all_calm.result) (ap Ok columns ∙ sym (ap (λ (b : Bool). cond b (Ok (calm_model m)) (Err Invalid)) ok))
