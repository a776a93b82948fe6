-- `reader::read` meets its contract, by what each answer of `advance` makes of the reading. Assumes nothing.
use Rattle.std.proofs.Common.{sym, ap, ◌∙◌, arith}
use Rattle.reachability.specs.declared.model.Model.{Model}
use Rattle.records.specs.Places.{start_place}
use Rattle.reader.specs.Models.{start, state_of}
use Rattle.reader.specs.Reading.{read_from, read_model}
use Rattle.reader.proofs.Advancing.{advances-refused, advances-next, advances-inside, advances-more, advances-end}
use Rattle.reader.proofs.ReadModels.{reads_of}
use Rattle.reader.proofs.read.Goals as goal

pub loop-next-init : goal.loop-next-init
unfolding read_model start
loop-next-init c = (omega arith, ap (λ (m : Model). read_from c.args.file.now 0 (state_of start_place 0 m)) c.blank_model.ensures)

pub loop-next-smaller : goal.loop-next-smaller
loop-next-smaller c =
    let on = advances-next _ _ _ _ (rw c.in-Ok-Some.field-0-is at c.in-Ok-Some.ensures) in
    omega (arith, on.0, on.1)

pub loop-next-preserved : goal.loop-next-preserved
loop-next-preserved c =
    let on = advances-next _ _ _ _ (rw c.in-Ok-Some.field-0-is at c.in-Ok-Some.ensures) in
    (on.1, on.2 ∙ c.loop-next.invariant.1)

pub returns-in-Err : goal.returns-in-Err
returns-in-Err c =
    reads_of _ (sym (advances-refused _ _ _ c.advance.new.state c.loop-next.invariant.0 c.in-Err.ensures) ∙ c.loop-next.invariant.1)

pub returns-then-behind-file : goal.returns-then-behind-file
returns-then-behind-file c =
    reads_of _
    (sym (advances-more _ _ _ _ (rw c.in-Ok-None.field-0-is at c.in-Ok-None.ensures) c.if-behind-file.true)
    ∙ c.loop-next.invariant.1)

pub overflow_add-behind : goal.overflow_add-behind
overflow_add-behind c = omega (arith, advances-inside _ _ _ _ (rw c.in-Ok-None.field-0-is at c.in-Ok-None.ensures))

pub returns : goal.returns
returns c =
    reads_of _
    (sym (advances-end _ _ _ _ (rw c.in-Ok-None.field-0-is at c.in-Ok-None.ensures) c.if-behind-file.false)
    ∙ c.loop-next.invariant.1)
