-- `writer::parts::put_rows` meets its contract: a record stands behind those before it. Assumes nothing.
use Rattle.integers.proofs.Basics.{refl, ◌+◌, ◌≤◌, arith, length}
use mathlib.Core.List.{[], ◌∷◌}
use Rattle.text.proofs.Putting.{put-length, put-near}
use Rattle.text.proofs.Outputs.{next_then, next-each, next_whole}
use Rattle.writer.specs.Writing.{six_bytes}
use Rattle.writer.proofs.parts.put_rows.Goals as goal

pub loop-p-preserved : goal.loop-p-preserved
loop-p-preserved c =
    let so = c.loop-p.invariant in
    let p = c.loop-p.p in
    let room : c.loop-p.out.at + 26 ≤ length c.loop-p.out.bytes.now = omega (arith, put-length so.put, put-near so.put, c.requires.1) in
    next-each 26 p (λ k. 0x02 ∷ k ∷ six_bytes c.args.rows.now k) so
    (next_then (next_whole (0x02 ∷ p ∷ []) 2 refl refl (omega arith) c.put.ensures) c.put_six.ensures)
