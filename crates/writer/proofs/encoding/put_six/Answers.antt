-- `writer::encoding::put_six` meets its contract: the four bytes of an entry are those of its bits. Assumes nothing.
use Rattle.integers.proofs.Basics.{◌≡◌, refl, ap, subst, ◌∙◌, ℕ, ◌*◌, ◌<◌, arith, rules, ℤ, w32, to_z, of_z}
use mathlib.Core.List.{List}
use lib.Signed.{mag}
use Rattle.integers.specs.Sums.{matrix}
use Rattle.integers.proofs.Machine.{read-given}
use Rattle.std.specs.Int.{to_le_bytes}
use Rattle.numbers.specs.Numbers.{signed_bytes}
use Rattle.numbers.proofs.Written.{length-signed_bytes}
use Rattle.text.specs.Text.{each}
use Rattle.text.specs.Output.{PutNext}
use Rattle.text.proofs.Putting.{put-length, put-near}
use Rattle.text.proofs.Outputs.{next-each, next_whole}
use Rattle.writer.specs.Writing.{six_bytes}
use Rattle.writer.proofs.Bits.{signed-by-bits}
use Rattle.writer.proofs.encoding.put_six.Goals as goal

-- the bytes of an entry that was read, whichever it is
entry-bytes : (x : ℤ) → mag x < 2147483648 → (t : List ℕ) → t ≡ to_le_bytes w32 (of_z w32 (to_z w32 (of_z w32 x))) → t ≡ signed_bytes 4 x
entry-bytes x h t e = e ∙ ap (λ (z : ℤ). to_le_bytes w32 (of_z w32 z)) (read-given w32 x h) ∙ signed-by-bits w32 4 refl x

pub loop-i-preserved : goal.loop-i-preserved
loop-i-preserved c =
    let so = c.loop-i.invariant in
    let i = c.loop-i.i in
    let xs = c.args.xs.now in
    let is : c.to_le_bytes.result ≡ signed_bytes 4 (matrix xs c.args.row i) = search (rules, entry-bytes, c.to_le_bytes.ensures) in
    next-each 4 i (λ k. signed_bytes 4 (matrix xs c.args.row k)) so
    (next_whole _ 4 is (length-signed_bytes 4 (matrix xs c.args.row i)) (omega (arith, put-length so.put, put-near so.put, c.requires.0)) c.put.ensures)

pub returns : goal.returns
unfolding six_bytes
returns c =
    let all : c.loop-i.i ≡ 6 = omega arith in
    subst (λ (i : ℕ). PutNext (4 * i) (each i (λ k. signed_bytes 4 (matrix c.args.xs.now c.args.row k))) c.args.out.now c.loop-i.out) all c.loop-i.invariant
