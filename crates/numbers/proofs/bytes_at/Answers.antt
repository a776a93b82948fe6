-- `numbers::bytes_at`: each byte as the closure takes it, where not all are there. Assumes nothing.
use Rattle.std.proofs.Common.{rules, arith, ◌+◌, get_or}
use Rattle.std.proofs.lemmas.Grind.{common_steps}
use Rattle.numbers.proofs.FromFn.{from_fn-each}
use Rattle.numbers.proofs.bytes_at.Goals as goal

pub returns-in-None : goal.returns-in-None
returns-in-None g c =
    from_fn-each _ _ (λ k. get_or c.args.bytes.now (c.args.at + k) 0) (λ k y q m. (grind (arith, common_steps), search rules)) _ c.from_fn.ensures.items 0
