-- `text::put` meets its contract: a turn puts one byte behind those passed, and in the end the word stands in the buffer. Assumes
-- nothing.
use Rattle.std.proofs.Common.{◌≡◌, refl, sym, ap, ◌∙◌, ℕ, List, ◌+◌, ◌≤◌, length, get_or, set, arith, add-one}
use lib.Seq.{paste, paste-suc}
use Rattle.text.proofs.Putting.{splice-paste, puts-fits}
use Rattle.text.proofs.put.Goals as goal

pub loop-i-preserved : goal.loop-i-preserved
loop-i-preserved c =
    let a = c.args in
    let i = c.loop-i.i in
    let room : a.at + length a.word.now ≤ length a.out.now = omega (arith, c.full.ensures.enough c.if-full.false) in (
      omega arith,
      ap (λ (x : List ℕ). set x (a.at + i) (get_or a.word.now i 0)) c.loop-i.invariant.1
          ∙ paste-suc a.out.now a.at a.word.now i 0 (omega (arith, room, c.loop-i-test.true)) c.loop-i-test.true
          ∙ sym (ap (paste a.out.now a.at a.word.now) (add-one i)),
    )

pub returns : goal.returns
returns c =
    let a = c.args in
    let room : a.at + length a.word.now ≤ length a.out.now = omega (arith, c.full.ensures.enough c.if-full.false) in
    let all : c.loop-i.i ≡ length a.word.now = omega (arith, c.loop-i.invariant.0, c.loop-i-test.false) in
    puts-fits room
    record {
      end = refl;
      small = omega arith;
      room = room;
      text = c.loop-i.invariant.1 ∙ ap (paste a.out.now a.at a.word.now) all ∙ splice-paste a.out.now a.at a.word.now;
    }
