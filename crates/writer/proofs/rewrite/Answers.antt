-- `writer::rewrite` meets its contract: of a file that is read the answer is that to its model, which is accepted. Assumes nothing.
use Rattle.std.proofs.Common.{sym}
use Rattle.writer.proofs.Answering.{rewrites-read}
use Rattle.reader.proofs.ReadModels.{read_model-accepted}
use Rattle.writer.proofs.rewrite.Goals as goal

pub put-requires : goal.put-requires
put-requires c = read_model-accepted _ (sym c.in_ok-model.ensures.answer)

pub returns : goal.returns
returns c =
    rw c.or.ensures (rewrites-read _ _ (sym c.in_ok-model.ensures.answer) c.put.ensures)
