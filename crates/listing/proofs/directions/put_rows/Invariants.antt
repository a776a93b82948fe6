-- What the loop of `listing::directions::put_rows` keeps: the rows of the steps passed stand in the buffer.
use Rattle.integers.proofs.Basics.{◌*◌}
use Rattle.integers.specs.Sums.{vector}
use Rattle.text.specs.Text.{each}
use Rattle.text.specs.Output.{PutNext}
use Rattle.listing.specs.Listing.{row_text}
use Rattle.listing.proofs.directions.put_rows.Given as goal

abbrev pub invariant-loop-k : goal.invariant-loop-k
invariant-loop-k l = PutNext (65 * l.k) (each l.k (λ k. row_text k (vector l.bounds k) (vector l.slacks k))) l.fn.out l.out
