-- `listing::directions::put_direction` meets its contract: the sweep's answer and lists settle the lines and the notes. Assumes nothing.
use Rattle.std.proofs.Common.{sym, ◌∙◌, arith}
use Rattle.reachability.proofs.model.Facts.{model-facts}
use Rattle.text.proofs.Outputs.{next_is}
use Rattle.listing.proofs.Answers.{swept_lines, guard-answer, steps-most}
use Rattle.listing.proofs.Outputs.{next-most}
use Rattle.listing.proofs.directions.put_direction.Goals as goal

pub note-requires : goal.note-requires
note-requires c =
    let ask = c.requires.0 in
    (record { guards-most = (model-facts c.args.model ask.accepts).guards-most; answers = λ g l e. guard-answer c.args.model c.args.direction _ _ ask g l e c.sweep-swept.result _ _ c.sweep-swept.ensures }, c.requires.1)

pub put_swept-requires : goal.put_swept-requires
put_swept-requires c =
    let b = c.sweep-swept.auto.bounds ∙ c.requires.0.bounds-long in
    let s = c.sweep-swept.auto.slacks ∙ c.requires.0.slacks-long in
    (s ∙ sym b, omega (arith, b, steps-most c.args.model c.requires.0.accepts, c.requires.2))

pub returns : goal.returns
returns c =
    let b = c.sweep-swept.auto.bounds ∙ c.requires.0.bounds-long in
    record {
      lines = next-most 16758 (omega (arith, b, steps-most c.args.model c.requires.0.accepts)) (next_is _ (swept_lines c.args.model c.args.direction _ _ c.requires.0 c.sweep-swept.result _ _ c.sweep-swept.ensures) c.put_swept.ensures);
      noted = c.note.ensures;
    }
