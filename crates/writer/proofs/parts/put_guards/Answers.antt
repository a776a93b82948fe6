-- `writer::parts::put_guards` meets its contract: a record stands behind those before it, and the eight bytes of a level are those of its
-- bits. Assumes nothing.
use Rattle.integers.proofs.Basics.{◌≡◌, refl, ap, ◌∙◌, ℕ, ◌+◌, ◌≤◌, ◌<◌, arith, rules, length, get_or, ℤ, w64, to_z, of_z}
use mathlib.Core.List.{List, [], ◌∷◌}
use lib.Signed.{mag}
use Rattle.integers.specs.Sums.{vector}
use Rattle.integers.proofs.Machine.{read-given}
use Rattle.std.specs.Int.{to_le_bytes}
use Rattle.numbers.specs.Numbers.{signed_bytes}
use Rattle.numbers.proofs.Written.{length-signed_bytes}
use Rattle.text.proofs.Putting.{put-length, put-near}
use Rattle.text.proofs.Outputs.{next_then, next-each, next_whole}
use Rattle.writer.proofs.Bits.{signed-by-bits}
use Rattle.writer.proofs.parts.put_guards.Goals as goal

-- the bytes of a level that was read, whichever it is
level-bytes : (x : ℤ) → mag x < 9223372036854775808 → (t : List ℕ) → t ≡ to_le_bytes w64 (of_z w64 (to_z w64 (of_z w64 x))) → t ≡ signed_bytes 8 x
level-bytes x h t e = e ∙ ap (λ (z : ℤ). to_le_bytes w64 (of_z w64 z)) (read-given w64 x h) ∙ signed-by-bits w64 8 refl x

pub loop-g-preserved : goal.loop-g-preserved
loop-g-preserved c =
    let so = c.loop-g.invariant in
    let g = c.loop-g.g in
    let watched = c.args.watched.now in
    let levels = c.args.levels.now in
    let room : c.loop-g.out.at + 10 ≤ length c.loop-g.out.bytes.now = omega (arith, put-length so.put, put-near so.put, c.requires.1) in
    let is : c.to_le_bytes.result ≡ signed_bytes 8 (vector levels g) = search (rules, level-bytes, c.to_le_bytes.ensures) in
    let front = next_whole (0x40 ∷ get_or watched g 0 ∷ []) 2 refl refl (omega arith) c.put.ensures in
    next-each 10 g (λ g. 0x40 ∷ get_or watched g 0 ∷ signed_bytes 8 (vector levels g)) so
    (next_then front (next_whole _ 8 is (length-signed_bytes 8 (vector levels g)) (omega (arith, room, put-length front.put, put-near front.put)) c.put-in-loop-g.ensures))
