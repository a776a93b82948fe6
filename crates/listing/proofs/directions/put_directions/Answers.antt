-- `listing::directions::put_directions` meets its contract: a turn puts the lines of one direction behind those of the directions passed.
-- Assumes nothing.
use Rattle.std.proofs.Common.{◌≡◌, subst, ℕ, ◌*◌, arith}
use Rattle.text.specs.Text.{each}
use Rattle.text.specs.Output.{PutNext}
use Rattle.text.proofs.Outputs.{next-each}
use Rattle.listing.specs.Listing.{direction_text}
use Rattle.listing.specs.Inner.{Noted}
use Rattle.listing.proofs.Noting.{noted_more, noted-all}
use Rattle.listing.proofs.directions.put_directions.Goals as goal

pub loop-d-preserved : goal.loop-d-preserved
loop-d-preserved c =
    let so = c.loop-d.invariant in
    let done = c.put_direction.ensures in
    (noted_more c.args.model c.loop-d.d _ _ so.0 done.noted, next-each 16758 c.loop-d.d (direction_text c.args.model) so.1 done.lines)

pub returns : goal.returns
returns c =
    let m = c.args.model in
    let so = c.loop-d.invariant in
    let all : c.loop-d.d ≡ m.questions.directions = omega arith in
    record {
      lines = subst (λ (j : ℕ). PutNext (16758 * j) (each j (direction_text m)) c.args.out.now c.loop-d.out) all so.1;
      noted = noted-all m c.loop-d.answers c.requires.0.accepts (subst (λ (j : ℕ). Noted m j c.loop-d.answers) all so.0);
    }
