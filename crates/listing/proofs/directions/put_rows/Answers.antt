-- `listing::directions::put_rows` meets its contract: a row stands behind those before it. Assumes nothing.
use Rattle.integers.proofs.Basics.{ap₂, ℕ, ◌<◌, rules, ℤ, w64, to_z, of_z}
use lib.Signed.{mag}
use Rattle.integers.specs.Sums.{vector}
use Rattle.integers.proofs.Machine.{read-given}
use Rattle.text.specs.declared.output.Output.{Output}
use Rattle.text.specs.Output.{PutNext}
use Rattle.text.proofs.Outputs.{next_is, next-each}
use Rattle.listing.specs.Listing.{row_text}
use Rattle.listing.proofs.directions.put_rows.Goals as goal

-- a row of two numbers that were read, whichever they are
row-put : {b c : Output} (k : ℕ) (x y : ℤ) → mag x < 9223372036854775808 → mag y < 9223372036854775808 → PutNext 65 (row_text k (to_z w64 (of_z w64 x)) (to_z w64 (of_z w64 y))) b c → PutNext 65 (row_text k x y) b c
row-put k x y first second = next_is _ (ap₂ (row_text k) (read-given w64 x first) (read-given w64 y second))

pub loop-k-preserved : goal.loop-k-preserved
loop-k-preserved c =
    let k = c.loop-k.k in
    let bounds = c.args.bounds.now in
    let slacks = c.args.slacks.now in
    let row : PutNext 65 (row_text k (vector bounds k) (vector slacks k)) c.loop-k.out c.put_row.new.out =
    search (rules, row-put, c.put_row.ensures) in
    next-each 65 k (λ i. row_text i (vector bounds i) (vector slacks i)) c.loop-k.invariant row
