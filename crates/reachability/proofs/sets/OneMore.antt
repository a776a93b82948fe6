-- Sets 17 to 19: what `support` and `reach` answer of a stored set with one point more. All follow from one law of figures
-- (`PointByPoint`). In order: from an answer to what it says; the figures of both sets; the theorems. Assumes nothing.
use mathlib.Core.Path.{◌≡◌, refl, sym, ap, ap₂, subst, ◌∙◌}
use mathlib.Core.Bool.{Bool, true, false, cond, ◌&&◌}
use mathlib.Core.List.{List}
use Rattle.std.specs.Prelude.{Some, None}
use Prim.Native.Nat.{ℕ, ◌≤◌, ◌<◌}
use native.Mathlib.Nat.{le_trans}
use native.Mathlib.Omega.{arith}
use borrow.Author.Tests.{leb-true, le-leb}
use lib.Dec.{leb}
use lib.IntN.{ℤ, pos, nat_abs}
use Rattle.integers.specs.Sums.{vector, dot, tabulate}
use Rattle.integers.proofs.Booleans.{and-true}
use Rattle.integers.proofs.Machine.{get_or-tabulate}
use Rattle.integers.proofs.Sums.{dot-cong, all_below-at, all_below-intro}
use Rattle.stepping.specs.Refusals.{dimension_ok}
use Rattle.limits.specs.Limits.{direction_ok}
use Rattle.reachability.specs.Sets.{points, support_of, set_ok, reach_ok, reach_limit, support_ok, support_answer, reach_asked, ReachAnswer}
use Rattle.reachability.specs.OneMore.{OneMore, new_point, reach_at, GrownBy, VertexMore, GeneratorMore, WithinBefore}
use Rattle.reachability.specs.declared.sets.Shape.{Shape}
use Rattle.reachability.specs.declared.sets.Shape.TheVariants.{Box, Zonotope, Vertices}
use Rattle.reachability.specs.declared.sets.Set.{Set}
use Rattle.reachability.specs.SetsInner.{Pointwise}
use Rattle.reachability.proofs.sets.Facts.{n-range, set-facts}
use Rattle.reachability.proofs.sets.PointByPoint.{larger-pos, figure, with_one_more, figure-more, support-figure, reach-figure}

-- ---- from an answer to what it says

-- something is answered: nothing is refused, and it is what the definition has
answered : {A : Type 0} (b : Bool) (x v : A) → cond b (Some x) None ≡ Some v → (b ≡ true) × (v ≡ x)
answered true x v e = (refl, cc)
answered false x v e = cc

module _ (n : ℕ) (s : Set) where
  some-points : dimension_ok n ≡ true → set_ok n s.shape s.count s.points ≡ true → (n ≤ 6) × (1 ≤ s.count)
  some-points d o = ((n-range n d).1, (set-facts n s.shape s.count s.points o).counted.some)

  -- a value that `support` answers
  value-is : (r : List ℤ) (v : ℤ) → support_answer n s r ≡ Some v → (n ≤ 6) × (1 ≤ s.count) × (v ≡ support_of n s.shape s.count (points s.points) (vector r))
  value-is r v e =
      let told = answered (support_ok n s r) (support_of n s.shape s.count (points s.points) (vector r)) v e in
      let both = and-true (dimension_ok n) (set_ok n s.shape s.count s.points && direction_ok n r) told.0 in
      let set = and-true (set_ok n s.shape s.count s.points) (direction_ok n r) both.1 in
      let size = some-points both.0 set.0 in
      (size.0, size.1, told.1)

  -- the reaches that `reach` answers
  reach-is : (xs : List ℤ) → ReachAnswer n s (Some xs) → (i : ℕ) → i < 6 → (1 ≤ s.count) × (vector xs i ≡ pos (reach_at s i))
  reach-is xs a i h =
      let told = answered (reach_asked n s) (tabulate 6 (λ j. pos (reach_at s j))) xs (sym a.answer) in
      let both = and-true (dimension_ok n) (set_ok n s.shape s.count s.points) told.0 in
      ((some-points both.0 both.1).1, ap (λ (l : List ℤ). vector l i) told.1 ∙ get_or-tabulate 6 (λ j. pos (reach_at s j)) i (pos 0) h)

-- ---- the figures of both sets

module _ (s t : Set) (m : OneMore s t) (w : Pointwise s.shape) where
  of-t : Pointwise t.shape
  of-t = subst Pointwise (sym m.shape_is) w

  grown : {x y : ℤ} {f g : ℕ → ℤ} → 1 ≤ s.count → x ≡ figure s.shape s.count f → y ≡ figure t.shape t.count g → ((k : ℕ) → k < s.count → g k ≡ f k) → y ≡ with_one_more s.shape x (g s.count)
  grown {x} {y} {f} {g} some a b same =
      b
      ∙ ap₂ (λ (shape : Shape) (k : ℕ). figure shape k g) m.shape_is m.count-is
      ∙ figure-more s.shape s.count some same
      ∙ ap (λ (z : ℤ). with_one_more s.shape z (g s.count)) (sym a)

  support-grows : (n : ℕ) (r : List ℤ) (v u : ℤ) → support_answer n s r ≡ Some v → support_answer n t r ≡ Some u → u ≡ with_one_more s.shape v (dot n (vector r) (new_point s t))
  support-grows n r v u a b =
      let before = value-is n s r v a in
      grown before.1 (before.2 ∙ support-figure n s.shape s.count (points s.points) (vector r) w) ((value-is n t r u b).2 ∙ support-figure n t.shape t.count (points t.points) (vector r) of-t)
      (λ k h. dot-cong n {a = vector r} {b = vector r} (λ i l. refl) (λ i l. m.points-are k i h (omega (arith, before.0))))

  reach-so-far-grows : 1 ≤ s.count → (i : ℕ) → i < 6 → pos (reach_at t i) ≡ with_one_more s.shape (pos (reach_at s i)) (pos (nat_abs (new_point s t i)))
  reach-so-far-grows some i h =
      grown some (reach-figure s.shape s.count (points s.points) i w some) (reach-figure t.shape t.count (points t.points) i of-t (omega (arith, m.count-is)))
      (λ k l. ap (λ (z : ℤ). pos (nat_abs z)) (m.points-are k i l h))

  reach-grows : (n : ℕ) (xs ys : List ℤ) → ReachAnswer n s (Some xs) → ReachAnswer n t (Some ys) → (i : ℕ) → i < 6 → vector ys i ≡ with_one_more s.shape (vector xs i) (pos (nat_abs (new_point s t i)))
  reach-grows n xs ys a b i h =
      let before = reach-is n s xs a i h in
      (reach-is n t ys b i h).1 ∙ reach-so-far-grows before.0 i h ∙ ap (λ (z : ℤ). with_one_more s.shape z (pos (nat_abs (new_point s t i)))) (sym before.1)

  grown-by : (n : ℕ) → GrownBy (with_one_more s.shape) n s t
  grown-by n = record { support = support-grows n; reach = reach-grows n; reach-so-far = reach-so-far-grows }

  -- no reach falls
  reach-rises : 1 ≤ s.count → (i : ℕ) → i < 6 → reach_at s i ≤ reach_at t i
  reach-rises some i h = rises s.shape (reach_at s i) (nat_abs (new_point s t i)) (reach_at t i) (reach-so-far-grows some i h)
    where
      rises : (shape : Shape) (a b c : ℕ) → pos c ≡ with_one_more shape (pos a) (pos b) → a ≤ c
      rises Box a b c e = let same = ap nat_abs e in omega (arith, same)
      rises Zonotope a b c e = let sum = ap nat_abs e in omega (arith, sum)
      rises Vertices a b c e = let most = ap nat_abs (e ∙ larger-pos a b) in omega (arith, most)

-- ---- the theorems

grown-as : (n : ℕ) (s t : Set) (shape : Shape) → OneMore s t → Pointwise shape → s.shape ≡ shape → GrownBy (with_one_more shape) n s t
grown-as n s t shape m w e = subst (λ (x : Shape). GrownBy (with_one_more x) n s t) e (grown-by s t m (subst Pointwise (sym e) w) n)

-- Sets 17.
pub vertex-more : (n : ℕ) (s t : Set) → VertexMore n s t
vertex-more n s t m e = grown-as n s t Vertices m tt e

-- Sets 18.
pub generator-more : (n : ℕ) (s t : Set) → GeneratorMore n s t
generator-more n s t m e = grown-as n s t Zonotope m tt e

-- Sets 19.
pub within-before : (s t : Set) → WithinBefore s t
within-before s t m no-box some h =
    let both = and-true (leb 1 t.count && leb t.count 16) (reach_ok t.shape t.count (points t.points)) h in
    let most = leb-true t.count 16 (and-true (leb 1 t.count) (leb t.count 16) both.0).1 in
    ap₂ ◌&&◌ (ap₂ ◌&&◌ (le-leb 1 s.count some) (le-leb s.count 16 (omega (arith, m.count-is))))
    (all_below-intro 6 (λ i. leb (reach_at s i) reach_limit)
    (λ i l. le-leb (reach_at s i) reach_limit (le_trans (reach-rises s t m (pointwise s.shape no-box) some i l) (leb-true (reach_at t i) reach_limit (all_below-at 6 (λ j. leb (reach_at t j) reach_limit) both.1 i l)))))
  where
    pointwise : (shape : Shape) → (shape ≡ Box → ⊥) → Pointwise shape
    pointwise Box h = absurd (h refl)
    pointwise Zonotope h = tt
    pointwise Vertices h = tt
