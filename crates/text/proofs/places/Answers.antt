-- `text::places` meets its contract: the digits are one more than the logarithm, and one where there is none. Assumes nothing.
use Rattle.integers.proofs.Basics.{ap, ◌∙◌, ℕ, ◌+◌}
use Rattle.text.proofs.Decimals.{decimal-places}
use Rattle.text.proofs.places.Goals as goal

pub returns : goal.returns
returns c =
    let log = c.checked_ilog10.ensures in
    ap (λ (k : ℕ). k + 1) c.unwrap_or.ensures ∙ decimal-places c.args.n c.checked_ilog10.result log.none log.power_le log.next_power_gt log.bound
