-- `writer::parts::put_vectors` meets its contract: a record stands behind those before it. Assumes nothing.
use Rattle.integers.proofs.Basics.{◌≡◌, refl, sym, ap, ◌∙◌, ℕ, ◌+◌, ◌≤◌, arith, length}
use mathlib.Core.Bool.{Bool, cond}
use mathlib.Core.List.{[], ◌∷◌}
use borrow.Author.Tests.{eq-eqb, ne_eqb}
use lib.Dec.{eqb}
use Rattle.text.proofs.Putting.{put-length, put-near}
use Rattle.text.proofs.Outputs.{next_then, next-each, next_whole}
use Rattle.writer.specs.Writing.{six_bytes}
use Rattle.writer.proofs.parts.put_vectors.Goals as goal
use Rattle.writer.proofs.parts.put_vectors.Goals.{then-k-eq0, else-k-eq0}

pub loop-k-preserved : goal.loop-k-preserved
loop-k-preserved c =
    let so = c.loop-k.invariant in
    let k = c.loop-k.k in
    let first = c.args.first in
    let other = c.args.other in
    let room : c.loop-k.out.at + 25 ≤ length c.loop-k.out.bytes.now = omega (arith, put-length so.put, put-near so.put, c.requires.0) in
    let kind : c.if-k-eq0.kind ≡ cond (eqb k 0) first other =
    elim c.if-k-eq0.branch [
      | then-k-eq0 w ↦ w.kind-is ∙ sym (ap (λ (b : Bool). cond b first other) (eq-eqb k 0 (omega (arith, w.if-k-eq0.true))))
      | else-k-eq0 w ↦ w.kind-is ∙ sym (ap (λ (b : Bool). cond b first other) (ne_eqb k 0 (omega (arith, w.if-k-eq0.false))))
    ] in
    next-each 25 k (λ k. cond (eqb k 0) first other ∷ six_bytes c.args.xs.now k) so
    (next_then (next_whole (cond (eqb k 0) first other ∷ []) 1 (ap (λ (x : ℕ). x ∷ []) kind) refl (omega arith) c.put.ensures) c.put_six.ensures)
