-- `reachability::sets::reaches::reach_at`: a box has two points, and a zonotope's centre is the first of its points. Assumes nothing.
use Rattle.integers.proofs.Basics.{◌≡◌, ap, ap₂, ◌∙◌, Bool, true, ℕ, suc, ◌-◌, ◌<◌, ◌≤◌, arith, nat_abs}
use mathlib.Core.Bool.{cond, ◌&&◌}
use Prim.Native.Nat.{max}
use borrow.Author.Tests.{le-leb, lt-ltb}
use Rattle.arrays.specs.Rows.{in_rows}
use Rattle.integers.specs.Sums.{sum_ℕ, max_ℕ}
use Rattle.integers.proofs.Sums.{sum_ℕ-first}
use Rattle.reachability.specs.Sets.{points as points_of}
use Rattle.reachability.proofs.sets.reaches.reach_at.Goals as goal

-- the larger of two
most-of-two : (f : ℕ → ℕ) → max_ℕ 2 f ≡ max (f 0) (f 1)
unfolding max_ℕ
most-of-two f = omega arith

in-rows : (count i : ℕ) → count ≤ 16 → i < 6 → in_rows count i ≡ true
in-rows count i h l = ap₂ ◌&&◌ (le-leb count 16 h) (lt-ltb i 6 l)

pub returns-in-Box : goal.returns-in-Box
returns-in-Box c =
    let sizes = λ (k : ℕ). nat_abs (points_of c.args.points.now k c.args.i) in
    rw c.in-Box.is (c.column_most.ensures ∙ ap (λ (t : Bool). cond t (max_ℕ 2 sizes) 0) (lt-ltb _ 6 c.requires.1) ∙ most-of-two sizes)

pub returns-in-Zonotope : goal.returns-in-Zonotope
returns-in-Zonotope c =
    let count = c.args.count in
    let sizes = λ (k : ℕ). nat_abs (points_of c.args.points.now k c.args.i) in
    let all : count ≡ suc (count - 1) = omega (arith, c.requires.0.some) in
    rw c.in-Zonotope.is
    (c.column_sum.ensures
    ∙ ap (λ (t : Bool). cond t (sum_ℕ count sizes) 0) (in-rows count c.args.i c.requires.0.most c.requires.1)
    ∙ ap (λ (j : ℕ). sum_ℕ j sizes) all
    ∙ sum_ℕ-first (count - 1) sizes)
