-- `listing::guards::put_guard` meets its contract: the three parts of a line with CLEAR, one behind the other. Assumes nothing.
use Rattle.std.proofs.Common.{◌≡◌, sym, ap, Ok, arith, rules}
use Rattle.reachability.specs.declared.verdicts.Verdict.TheVariants.{Clear}
use Rattle.text.proofs.Outputs.{next_is}
use Rattle.judge.specs.Answers.{Judged}
use Rattle.listing.specs.Listing.{judged_text}
use Rattle.listing.proofs.Outputs.{next-most, next_fits, nexts_then}
use Rattle.listing.proofs.guards.put_guard.Goals as goal

pub returns-in-Ok-Clear : goal.returns-in-Ok-Clear
returns-in-Ok-Clear c =
    let name = next_fits c.put.ensures (omega (arith, c.requires)) in
    let number = nexts_then name c.put_decimal.ensures (omega (arith, c.requires)) in
    let is : ◌≡◌ {A = Judged} c.args.answer (Ok Clear) = search rules in
    next_is _ (sym (ap (judged_text c.args.guard) is)) (next-most 56 (omega arith) (nexts_then number c.put-in-Ok-Clear.ensures (omega (arith, c.requires))))
