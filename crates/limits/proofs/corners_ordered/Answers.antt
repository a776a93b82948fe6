-- `limits::corners_ordered` meets its contract. Assumes nothing.
use Rattle.std.proofs.Common.{rules, arith, refl, ap, ap₂, ℕ, ◌+◌, ◌∙◌}
use borrow.Author.Tests.{le-leb}
use lib.Signed.{le_z}
use Rattle.std.proofs.lemmas.Iterator.{YieldsList-from_range}
use Rattle.std.proofs.lemmas.Iterator.Search.{all_from_yields_List}
use Rattle.integers.specs.Sums.{vector, matrix}
use Rattle.integers.proofs.Chains.{list_all-range}
use Rattle.integers.proofs.Sums.{all_below-cong}
use Rattle.limits.proofs.corners_ordered.Goals as goal

pub returns-then-n-le-MOST_COORDINATES : goal.returns-then-n-le-MOST_COORDINATES
returns-then-n-le-MOST_COORDINATES c =
    let a = c.args in
    let xs = a.points.now in
    let ordered = λ (i : ℕ). le_z (vector xs i) (vector xs (6 + i)) in
    let each = all_from_yields_List ordered _ _ c.all.result c.all.ensures.ran (YieldsList-from_range 0 a.n a.n refl (omega arith)) (λ x b q k. search rules) ∙ list_all-range ordered a.n in
    simp (le-leb a.n 6 c.if-n-le-MOST_COORDINATES.true) (each ∙ all_below-cong a.n ordered (λ i. le_z (matrix xs 0 i) (matrix xs 1 i)) (λ i h. ap₂ le_z (ap (vector xs) (omega arith)) (ap (vector xs) (omega arith))))
