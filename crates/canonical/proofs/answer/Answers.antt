-- The buffer has room for every file that is written.
use Rattle.std.proofs.Common.{arith, sym}
use Rattle.writer.proofs.Longest.{rewrite-fits}
use Rattle.canonical.proofs.answer.Goals as goal

pub unreachable-requires : goal.unreachable-requires
unreachable-requires g c =
    rewrite-fits _ _ (omega arith) (sym (rw c.in-Err-Short.field-0-is at c.in-Err-Short.ensures).answer)
