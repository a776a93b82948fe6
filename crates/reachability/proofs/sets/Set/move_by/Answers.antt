-- `reachability::sets::Set::move_by`: each turn moves one number more, and what stands there is as it was. Assumes nothing.
use Rattle.integers.proofs.Basics.{◌≡◌, sym, ap, ap₂, subst, ◌∙◌, ℕ, ◌+◌, ◌*◌, ◌≤◌, ◌<◌, arith, rules, set, ℤ, pos, ◌+ℤ◌, w32, SFits, to_z, of_z, to_z-of_z}
use mathlib.Core.Bool.{cond}
use mathlib.Core.List.{List}
use Prim.Native.Nat.{◌%◌}
use lib.Dec.{ltb, lit<}
use lib.ListN.{length}
use Rattle.integers.specs.Sums.{vector, tabulate}
use Rattle.integers.proofs.Order.{nat_abs-add}
use Rattle.integers.proofs.Machine.{sfits-of-nat_abs, filled, filled_none, filled_more, filled-some, get_or-unfilled}
use Rattle.reachability.specs.Sets.{reach_limit}
use Rattle.reachability.specs.Moved.{moved_count}
use Rattle.reachability.specs.EnteringInner.{Movable}
use Rattle.reachability.specs.declared.sets.Set.{Set}
use Rattle.reachability.specs.declared.sets.Shape.{Shape}
use Rattle.reachability.specs.declared.sets.Shape.TheVariants.{Box, Zonotope, Vertices}
use Rattle.reachability.proofs.sets.Set.move_by.Goals as goal

-- number k of the points, moved
abbrev sum_at : List ℤ → List ℤ → ℕ → ℤ
sum_at xs by k = vector xs k +ℤ vector by (k % 6)

-- at most all sixteen points are moved
moved-most : (shape : Shape) (count : ℕ) → count ≤ 16 → moved_count shape count ≤ 16
moved-most Box count h = omega arith
moved-most Zonotope count h = omega arith
moved-most Vertices count h = h

-- the set, with these points
abbrev with_points : Set → List ℤ → Set
with_points s xs = record s { points = xs }

module _ (s t : Set) (by : List ℤ) (k : ℕ) (m : Movable s.count s.points by) (so_far : t ≡ with_points s (filled (sum_at s.points by) k s.points)) (inside : k < length s.points) where
  kept : vector t.points k ≡ vector s.points k
  kept = ap (λ (u : Set). vector u.points k) so_far ∙ get_or-unfilled (sum_at s.points by) k s.points k (pos 0) (omega arith) (omega arith)

  point : to_z w32 (of_z w32 (vector t.points k)) ≡ vector s.points k
  point = ap (λ (z : ℤ). to_z w32 (of_z w32 z)) kept ∙ to_z-of_z (sfits-of-nat_abs w32 (m.coordinates k) (lit< tt))

  added : to_z w32 (of_z w32 (vector by (k % 6))) ≡ vector by (k % 6)
  added = to_z-of_z (sfits-of-nat_abs w32 (m.vector-small (k % 6) (omega arith)) (lit< tt))

  both : to_z w32 (of_z w32 (vector t.points k)) +ℤ to_z w32 (of_z w32 (vector by (k % 6))) ≡ sum_at s.points by k
  both = ap₂ ◌+ℤ◌ point added

  fits : SFits w32 (sum_at s.points by k)
  fits = sfits-of-nat_abs w32 {b = 2 * reach_limit} (omega (arith, nat_abs-add (vector s.points k) (vector by (k % 6)), m.coordinates k, m.vector-small (k % 6) (omega arith))) (lit< tt)

  more : with_points t (set t.points k (to_z w32 (of_z w32 (to_z w32 (of_z w32 (vector t.points k)) +ℤ to_z w32 (of_z w32 (vector by (k % 6))))))) ≡ with_points s (filled (sum_at s.points by) (k + 1) s.points)
  more =
      ap₂ (λ (u : Set) (z : ℤ). with_points u (set u.points k z)) so_far (ap (λ (z : ℤ). to_z w32 (of_z w32 z)) both ∙ to_z-of_z fits)
      ∙ ap (with_points s) (filled_more (sum_at s.points by) k s.points inside)

pub loop-k-init : goal.loop-k-init
loop-k-init c = ap (with_points c.args.self.now) (sym (filled_none (sum_at c.args.self.now.points c.args.by.now) c.args.self.now.points))

inside : (c : goal.After-self-in-loop-k-1) → c.loop-k.k < length c.args.self.now.points
inside c =
    let s = c.args.self.now in
    let long : length s.points ≡ 96 = search rules in
    omega (arith, long, moved-most s.shape s.count c.requires.counted.most)

-- above the range, so that a wrong sum fails first here
pub loop-k-preserved : goal.loop-k-preserved
loop-k-preserved c = more c.args.self.now c.loop-k.self c.args.by.now c.loop-k.k c.requires c.loop-k.invariant (inside c)

pub overflow_add-self : goal.overflow_add-self
overflow_add-self c =
    subst (SFits w32)
    (sym (both c.args.self.now c.loop-k.self c.args.by.now c.loop-k.k c.requires c.loop-k.invariant (inside c)))
    (fits c.args.self.now c.loop-k.self c.args.by.now c.loop-k.k c.requires c.loop-k.invariant (inside c))

pub returns : goal.returns
returns c =
    let s = c.args.self.now in
    let f = sum_at s.points c.args.by.now in
    let end = 6 * moved_count s.shape s.count in
    let done : c.loop-k.k ≡ end = omega arith in
    let long : length s.points ≡ 96 = search rules in
    c.loop-k.invariant
    ∙ ap (with_points s)
    (ap (λ (k : ℕ). filled f k s.points) done
    ∙ filled-some f end s.points (omega (arith, long, moved-most s.shape s.count c.requires.counted.most))
    ∙ ap (λ (n : ℕ). tabulate n (λ k. cond (ltb k end) (f k) (vector s.points k))) long)
