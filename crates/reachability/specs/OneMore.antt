-- Sets 16 to 19: what one point more makes of a support and of a reach. Definitions only, for laws of what `support`, `reach` and
-- `reach_within` answer; no contract cites them. Assumes nothing.
use Rattle.std.specs.Prelude.{◌≡◌, true, List, Some, ℕ, ◌+◌, ◌≤◌, ◌<◌, ℤ, pos, nat_abs, ◌+ℤ◌}
use Rattle.integers.specs.Sums.{vector, dot}
use Rattle.reachability.specs.Sets.{points, larger, reach_of, support_answer, ReachAnswer, reach_within}
use Rattle.reachability.specs.declared.sets.Shape.TheVariants.{Box, Zonotope, Vertices}
use Rattle.reachability.specs.declared.sets.Set.{Set}

-- Sets 16: t has one point more than s.
pub record OneMore (s t : Set) : Type 0 where
  pub shape_is : t.shape ≡ s.shape
  pub count-is : t.count ≡ s.count + 1
  pub points-are : (k i : ℕ) → k < s.count → i < 6 → points t.points k i ≡ points s.points k i

-- The new point of t, the next of the block.
abbrev pub new_point : Set → Set → ℕ → ℤ
new_point s t = points t.points s.count

-- The reach in a coordinate, of a set or of points that are no whole set yet.
abbrev pub reach_at : Set → ℕ → ℕ
reach_at s i = reach_of s.shape s.count (points s.points) i

-- `more` makes the support of t from that of s and from r · the new point, and each reach of t from that of s and from the
-- magnitude of the new point's coordinate. `support` and `reach` speak of what the routines answer where neither call is refused,
-- `reach-so-far` of any first points (Sets 19).
pub record GrownBy (more : ℤ → ℤ → ℤ) (n : ℕ) (s t : Set) : Type 0 where
  pub support : (r : List ℤ) (v w : ℤ) → support_answer n s r ≡ Some v → support_answer n t r ≡ Some w → w ≡ more v (dot n (vector r) (new_point s t))
  pub reach : (xs ys : List ℤ) → ReachAnswer n s (Some xs) → ReachAnswer n t (Some ys) → (i : ℕ) → i < 6 → vector ys i ≡ more (vector xs i) (pos (nat_abs (new_point s t i)))
  pub reach-so-far : 1 ≤ s.count → (i : ℕ) → i < 6 → pos (reach_at t i) ≡ more (pos (reach_at s i)) (pos (nat_abs (new_point s t i)))

-- Sets 17: one vertex more makes the larger of the two.
abbrev pub VertexMore : ℕ → Set → Set → Type 0
VertexMore n s t = OneMore s t → s.shape ≡ Vertices → GrownBy larger n s t

-- The first plus the magnitude of the second.
abbrev pub plus_magnitude : ℤ → ℤ → ℤ
plus_magnitude a b = a +ℤ pos (nat_abs b)

-- Sets 18: one generator more adds a magnitude.
abbrev pub GeneratorMore : ℕ → Set → Set → Type 0
GeneratorMore n s t = OneMore s t → s.shape ≡ Zonotope → GrownBy plus_magnitude n s t

-- Sets 19: where the reach of the points is within its limit, it was so without the last of them.
abbrev pub WithinBefore : Set → Set → Type 0
WithinBefore s t = OneMore s t → (s.shape ≡ Box → ⊥) → 1 ≤ s.count → reach_within t.shape t.count t.points ≡ true → reach_within s.shape s.count s.points ≡ true
