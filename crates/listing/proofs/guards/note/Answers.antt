-- `listing::guards::note` meets its contract: a turn notes the answer on a guard of the direction, and passes another. Assumes nothing.
use Rattle.std.proofs.Common.{◌≡◌, ◌∙◌, ◌<◌, w64, to_z, of_z, arith, rules}
use Rattle.integers.specs.Sums.{vector}
use Rattle.listing.specs.Listing.{judge_of}
use Rattle.listing.proofs.Noting.{notes-pass, notes-more}
use Rattle.listing.proofs.guards.note.Goals as goal
use Rattle.listing.proofs.guards.note.Goals.{then-model-g, else-model-g}

pub loop-g-preserved : goal.loop-g-preserved
loop-g-preserved c =
    let a = c.args in
    let l = c.loop-g in
    let below : l.g < 16 = omega (arith, c.requires.0.guards-most) in
    elim c.if-model-g.branch [
      | then-model-g w ↦
          let read : to_z w64 (of_z w64 (vector a.model.questions.levels l.g)) ≡ vector a.model.questions.levels l.g = search rules in
          let answer : w.verdict.result ≡ judge_of a.model l.g = (rw read at w.verdict.ensures.answer) ∙ c.requires.0.answers l.g c.loop-g-test.true w.if-model-g.true in
          rw w.answers-is (notes-more a.model a.direction a.answers.now l.g l.answers w.verdict.result below w.if-model-g.true answer l.invariant)
      | else-model-g w ↦ rw w.answers-is (notes-pass a.model a.direction a.answers.now l.g l.answers w.if-model-g.false l.invariant)
    ]
