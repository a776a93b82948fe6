-- Sets 20: a set moved by a vector. Definitions only; no public contract cites them. Assumes nothing.
use Rattle.std.specs.Prelude.{cond, List, ℕ, ◌*◌, ◌%◌, ltb, ℤ, ◌+ℤ◌}
use Rattle.integers.specs.Sums.{vector, tabulate}
use Rattle.reachability.specs.declared.sets.Shape.{Shape}
use Rattle.reachability.specs.declared.sets.Shape.TheVariants.{Box, Zonotope, Vertices}
use Rattle.reachability.specs.declared.sets.Set.{Set}

-- Sets 20: the vector is added to both corners, to the centre, or to every vertex. These are the first points of the block.
abbrev pub moved_count : Shape → ℕ → ℕ
moved_count Box count = 2
moved_count Zonotope count = 1
moved_count Vertices count = count

abbrev pub moved_points : Shape → ℕ → List ℤ → List ℤ → List ℤ
moved_points shape count xs by =
    tabulate 96 (λ k. cond (ltb k (6 * moved_count shape count)) (vector xs k +ℤ vector by (k % 6)) (vector xs k))

abbrev pub moved_set : Set → List ℤ → Set
moved_set s by = record { shape = s.shape; count = s.count; points = moved_points s.shape s.count s.points by }
