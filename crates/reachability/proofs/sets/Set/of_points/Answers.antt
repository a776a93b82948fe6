-- `reachability::sets::Set::of_points`: each turn takes the figure with one point more. Assumes nothing.
use Rattle.integers.proofs.Basics.{◌≡◌, sym, ap, ◌∙◌, arith, ℕ, nat_abs, pos, ◌+ℤ◌, w64, to_z}
use Rattle.integers.proofs.Machine.{read-given}
use Rattle.reachability.specs.Sets.{larger}
use Rattle.reachability.specs.declared.sets.Shape.{Shape}
use Rattle.reachability.proofs.sets.PointByPoint.{with_one_more}
use Rattle.reachability.proofs.sets.SupportSoFar.{product, support-first, support-more, support-done, larger_max, zonotope_of, MagnitudeAdded, magnitude-added}
use Rattle.reachability.proofs.sets.Set.of_points.Goals as goal
use Rattle.reachability.proofs.sets.Set.of_points.Goals.{in-Vertices, in-Box}

pub loop-k-init : goal.loop-k-init
loop-k-init c = support-first c.requires.1.0.some (read-given w64 c.dot-figure.result c.dot-figure.type_inv ∙ c.dot-figure.ensures)

added : (c : goal.After-unsigned_abs-size) → MagnitudeAdded (to_z w64 c.loop-k.figure-bits) c.unsigned_abs-size.result
added c =
    magnitude-added c.loop-k.invariant (zonotope_of c.args.self.now.shape c.requires.0 c.in-Box.is) c.requires.1.1 c.requires.1.0.most
    (c.unsigned_abs-size.ensures.value ∙ ap nat_abs (read-given w64 c.dot-d.result c.dot-d.type_inv ∙ c.dot-d.ensures))

pub overflow_cast-size : goal.overflow_cast-size
overflow_cast-size c = (added c).fits

pub overflow_add-figure : goal.overflow_add-figure
overflow_add-figure c = (added c).sum-fits _ (omega (arith, (added c).small, ap nat_abs (added c).read))

pub loop-k-preserved : goal.loop-k-preserved
loop-k-preserved c =
    let a = c.args in
    let so_far = to_z w64 c.loop-k.figure-bits in
    let read-dot = read-given w64 c.dot-d.result c.dot-d.type_inv ∙ c.dot-d.ensures in
    support-more c.loop-k.invariant c.loop-k-test.true
    (elim c.match-self.branch [
      | in-Vertices w ↦
          w.figure-is ∙ read-given w64 w.max-figure.result w.max-figure.type_inv ∙ w.max-figure.ensures.value ∙ larger_max so_far _ ∙ ap (larger so_far) read-dot
          ∙ ap (λ (s : Shape). with_one_more s so_far (product a.self.now.points a.r.now c.loop-k.k)) (sym w.in-Vertices.is)
      | in-Box w ↦
          let z = zonotope_of a.self.now.shape c.requires.0 w.in-Box.is in
          let size : w.unsigned_abs-size.result ≡ nat_abs (product a.self.now.points a.r.now c.loop-k.k) = w.unsigned_abs-size.ensures.value ∙ ap nat_abs read-dot in
          w.figure-is ∙ (magnitude-added c.loop-k.invariant z c.requires.1.1 c.requires.1.0.most size).is ∙ ap (λ (m : ℕ). so_far +ℤ pos m) size
          ∙ ap (λ (s : Shape). with_one_more s so_far (product a.self.now.points a.r.now c.loop-k.k)) (sym z)
    ])

pub returns : goal.returns
returns c = support-done c.requires.0 c.loop-k.invariant c.loop-k-test.false
