-- `writer::parts::is_zero_box` meets its contract: each arm is the definition's case. Assumes nothing.
use Rattle.integers.proofs.Basics.{◌≡◌, sym, ap, ◌∙◌, arith}
use mathlib.Core.Bool.{◌&&◌}
use borrow.Author.Tests.{eq-eqb, ne_eqb}
use lib.Dec.{eqb}
use Rattle.arrays.specs.Tests.{zero_outside}
use Rattle.integers.proofs.Booleans.{and-skip, and-stop}
use Rattle.reachability.specs.declared.sets.Shape.{Shape}
use Rattle.reachability.specs.declared.sets.Set.{Set}
use Rattle.writer.specs.Writing.{is_box, is_zero_box}
use Rattle.writer.proofs.parts.is_zero_box.Goals as goal

-- the case of the definition that a shape is
of-shape : (s : Set) (shape : Shape) → s.shape ≡ shape → is_box shape && (eqb s.count 2 && zero_outside 0 0 s.points) ≡ is_zero_box s
unfolding is_zero_box
of-shape s shape e = ap (λ (x : Shape). is_box x && (eqb s.count 2 && zero_outside 0 0 s.points)) (sym e)

pub returns-then-set-eq2 : goal.returns-then-set-eq2
returns-then-set-eq2 c =
    let set = c.args.set in
    c.zero_outside.ensures ∙ sym (and-skip (zero_outside 0 0 set.points) (eq-eqb set.count 2 (omega (arith, c.if-set-eq2.true)))) ∙ of-shape set _ c.in-Box.is

pub returns-else-set-eq2 : goal.returns-else-set-eq2
returns-else-set-eq2 c =
    let set = c.args.set in
    let other = ne_eqb set.count 2 (omega (arith, c.if-set-eq2.false)) in
    other ∙ sym (and-stop (zero_outside 0 0 set.points) other) ∙ of-shape set _ c.in-Box.is

pub returns-in-Zonotope : goal.returns-in-Zonotope
returns-in-Zonotope c = of-shape c.args.set _ c.in-Zonotope.is

pub returns-in-Vertices : goal.returns-in-Vertices
returns-in-Vertices c = of-shape c.args.set _ c.in-Vertices.is
