-- `columns::is_zero`: no bit but the sign is set. Assumes nothing.
use Rattle.std.proofs.Common.{sym}
use Rattle.coefficients.proofs.ZeroBits.{is_zero-bits}
use Rattle.columns.proofs.is_zero.Goals as goal

pub returns : goal.returns
returns c = sym (is_zero-bits c.args.bits)
