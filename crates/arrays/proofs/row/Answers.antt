-- `arrays::row` meets its contract. Assumes nothing.
use Rattle.std.proofs.Common.{rules}
use borrow.Author.Tests.{lt-ltb}
use Rattle.integers.specs.Sums.{matrix}
use Rattle.integers.proofs.FromFn.{from_fn-tabulate}
use Rattle.arrays.proofs.row.Goals as goal

pub returns : goal.returns
returns c = simp (lt-ltb c.args.k 16 c.if-k-ge16.false) (from_fn-tabulate _ _ (matrix c.args.rows.now c.args.k) _ 6 c.from_fn.ensures.items (λ j y q l h. search rules))
