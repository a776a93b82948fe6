-- `writer::put` meets its contract: where there is room the file is put, which `ReadBack` says is read as the model. That the model
-- is a stored one is known by its type. Assumes nothing.
use Rattle.integers.proofs.Basics.{arith}
use Rattle.writer.proofs.StoredModels.{stored-model}
use Rattle.writer.proofs.Answering.{writes-all}
use Rattle.writer.proofs.put.Goals as goal

pub returns : goal.returns
returns c =
    writes-all _ _ (stored-model _ c.well_formed.0) c.requires (omega (arith, c.size_of.ensures)) c.put_model.ensures
