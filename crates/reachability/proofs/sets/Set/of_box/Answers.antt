-- `reachability::sets::Set::of_box`: each turn adds a term of the corner taken. Assumes nothing.
use Rattle.integers.proofs.Basics.{◌≡◌, refl, sym, ap, ap₂, ◌∙◌, Bool, true, false, ℕ, ◌+◌, ◌*◌, ◌≤◌, ℤ, pos, nat_abs, ◌*ℤ◌, w32, w64, to_z, of_z, to_z-of_z}
use mathlib.Core.Bool.{cond}
use mathlib.Core.List.{List}
use native.Mathlib.Nat.{zero-add}
use lib.Dec.{lit<}
use lib.Signed.{lt_z}
use Rattle.integers.specs.Sums.{vector}
use Rattle.integers.proofs.Machine.{sfits-of-nat_abs}
use Rattle.integers.proofs.RunningSum.{running-start}
use Rattle.stepping.specs.Limits.{growth_limit}
use Rattle.reachability.specs.Sets.{points, reach_limit}
use Rattle.reachability.specs.SetsInner.{Tested, product_limit}
use Rattle.reachability.proofs.sets.Terms.{TermAdded, term-added}
use Rattle.reachability.proofs.sets.Set.of_box.Goals as goal
use Rattle.reachability.proofs.sets.Set.of_box.Goals.{then-r-i-gt0, else-r-i-gt0}

abbrev corner_at : List ℤ → List ℤ → ℕ → ℤ
corner_at xs r i = cond (lt_z (pos 0) (vector r i)) (points xs 1 i) (points xs 0 i)

corner-small : (xs r : List ℤ) (i : ℕ) → Tested xs r → nat_abs (corner_at xs r i) ≤ reach_limit
corner-small xs r i t = either (lt_z (pos 0) (vector r i))
  where
    either : (b : Bool) → nat_abs (cond b (points xs 1 i) (points xs 0 i)) ≤ reach_limit
    either true = t.coordinates (6 * 1 + i)
    either false = t.coordinates (6 * 0 + i)

-- the corner that is taken, by the sign of the value as it is read
module _ (xs r : List ℤ) (i : ℕ) (b : Bool) (small : nat_abs (vector r i) ≤ growth_limit) (e : lt_z (pos 0) (to_z w64 (of_z w64 (vector r i))) ≡ b) where
  test : lt_z (pos 0) (vector r i) ≡ b
  test = ap (λ (z : ℤ). lt_z (pos 0) z) (sym (to_z-of_z (sfits-of-nat_abs w64 {z = vector r i} small (lit< tt)))) ∙ e

  corner-is : cond b (vector xs (6 + i)) (vector xs i) ≡ corner_at xs r i
  corner-is = ap₂ (λ (t : Bool) (k : ℕ). cond t (vector xs (6 + i)) (vector xs k)) (sym test) (sym (zero-add i))

taken : (c : goal.After-from) → c.from.result ≡ to_z w32 (of_z w32 (corner_at c.args.self.now.points c.args.r.now c.loop-i.i))
taken c =
    let xs = c.args.self.now.points in
    let r = c.args.r.now in
    let i = c.loop-i.i in
    let small = c.requires.values i c.loop-i-test.true in
    c.from.ensures
    ∙ elim c.if-r-i-gt0.branch [
      | then-r-i-gt0 w ↦ w.corner-is ∙ ap (λ (z : ℤ). to_z w32 (of_z w32 z)) (corner-is xs r i true small w.if-r-i-gt0.true)
      | else-r-i-gt0 w ↦ w.corner-is ∙ ap (λ (z : ℤ). to_z w32 (of_z w32 z)) (corner-is xs r i false small w.if-r-i-gt0.false)
    ]

term : (c : goal.After-from) → TermAdded (λ j. vector c.args.r.now j *ℤ corner_at c.args.self.now.points c.args.r.now j) c.loop-i.i (to_z w64 c.loop-i.sum-bits) (vector c.args.r.now c.loop-i.i) c.from.result
term c =
    let i = c.loop-i.i in
    term-added (corner_at c.args.self.now.points c.args.r.now i) c.loop-i.invariant c.loop-i-test.true refl (taken c) (c.requires.values i c.loop-i-test.true) (corner-small c.args.self.now.points c.args.r.now i c.requires)

pub loop-i-init : goal.loop-i-init
loop-i-init c = running-start 6 _ product_limit

pub overflow_mul-sum : goal.overflow_mul-sum
overflow_mul-sum c = (term c).product-fits

pub overflow_add-sum : goal.overflow_add-sum
overflow_add-sum c = (term c).sum-fits

pub loop-i-preserved : goal.loop-i-preserved
loop-i-preserved c = (term c).more
