-- `judge::judge` meets its contract: `judges` says what it makes of the sweep. Assumes nothing.
use Rattle.judge.proofs.judge.Goals as goal
use Rattle.std.proofs.Common.{◌≡◌, sym, ◌∙◌, w64, to_z, of_z, rules}
use Rattle.integers.specs.Sums.{vector}
use Rattle.judge.proofs.Answers.{judges}

pub returns : goal.returns
returns c =
    let read : to_z w64 (of_z w64 (vector c.args.model.questions.levels c.args.guard)) ≡ vector c.args.model.questions.levels c.args.guard = search rules in
    judges c.args.model c.args.guard (sym c.accepts.ensures ∙ c.if-not-accepts.false) c.if-model-guard.false _ _ _ _ _ _ c.sweep-swept.ensures (rw read at c.verdict.ensures.answer)
