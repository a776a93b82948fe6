-- One law for what is taken point by point. Point k gives the number f k; a vertex list comes to the largest of these numbers, a
-- zonotope to the first plus the magnitudes of the others. Supports are such figures of the products r · point, reaches of the
-- magnitudes in a coordinate, and one point more changes them in the same way. In order: the largest of numbers; figures; supports
-- and reaches. Assumes nothing.
use mathlib.Core.Path.{◌≡◌, refl, sym, ap, ap₂, ◌∙◌}
use mathlib.Core.Bool.{Bool, true, false, cond}
use Prim.Native.Nat.{ℕ, zero, suc, ◌+◌, ◌-◌, ◌≤◌, ◌<◌, max}
use native.Mathlib.Omega.{arith}
use borrow.Author.Tests.{ltb-true, ltb-false}
use lib.Dec.{ltb}
use lib.IntN.{ℤ, pos, nat_abs, ◌+ℤ◌, +ℤ_idr, +ℤ_assoc}
use Rattle.integers.specs.Sums.{sum_ℕ, max_ℕ, dot}
use Rattle.integers.proofs.Sums.{sum_ℕ-zero, sum_ℕ-suc, sum_ℕ-cong}
use Rattle.reachability.specs.Sets.{larger, largest, support_of, reach_of}
use Rattle.reachability.specs.SetsInner.{Pointwise}
use Rattle.reachability.specs.OneMore.{plus_magnitude}
use Rattle.reachability.specs.declared.sets.Shape.{Shape}
use Rattle.reachability.specs.declared.sets.Shape.TheVariants.{Box, Zonotope, Vertices}

-- ---- the largest of numbers

largest-zero : (f : ℕ → ℤ) → largest 0 f ≡ f 0
unfolding largest
largest-zero f = refl

largest-suc : (k : ℕ) (f : ℕ → ℤ) → largest (suc k) f ≡ larger (largest k f) (f (suc k))
unfolding largest
largest-suc k f = refl

pub largest-cong : (k : ℕ) {f g : ℕ → ℤ} → ((j : ℕ) → j ≤ k → f j ≡ g j) → largest k f ≡ largest k g
unfolding largest
largest-cong zero e = e 0 (omega arith)
largest-cong (suc k) {f} {g} e = ap₂ larger (largest-cong k (λ j h. e j (omega arith))) (e (suc k) (omega arith))

-- of natural numbers
pub larger-pos : (a b : ℕ) → larger (pos a) (pos b) ≡ pos (max a b)
larger-pos a b = at (ltb a b) refl
  where
    at : (t : Bool) → ltb a b ≡ t → cond t (pos b) (pos a) ≡ pos (max a b)
    at true e = ap pos (omega (arith, ltb-true a b e))
    at false e = ap pos (omega (arith, ltb-false a b e))

largest-pos : (k : ℕ) (f : ℕ → ℕ) → largest k (λ j. pos (f j)) ≡ pos (max_ℕ (suc k) f)
unfolding largest max_ℕ
largest-pos zero f = ap pos (omega arith)
largest-pos (suc k) f = ap (λ (z : ℤ). larger z (pos (f (suc k)))) (largest-pos k f) ∙ larger-pos (max_ℕ (suc k) f) (f (suc k))

-- ---- figures

-- what k points come to; a box is no such figure, and has the number of its first point here
abbrev pub figure : Shape → ℕ → (ℕ → ℤ) → ℤ
figure Box k f = f 0
figure Zonotope k f = f 0 +ℤ pos (sum_ℕ (k - 1) (λ j. nat_abs (f (suc j))))
figure Vertices k f = largest (k - 1) f

-- a figure so far, with the number of one point more
abbrev pub with_one_more : Shape → ℤ → ℤ → ℤ
with_one_more Box so_far new = so_far
with_one_more Zonotope so_far new = plus_magnitude so_far new
with_one_more Vertices so_far new = larger so_far new

pub figure-one : (shape : Shape) (f : ℕ → ℤ) → figure shape 1 f ≡ f 0
figure-one Box f = refl
figure-one Zonotope f = ap (λ (s : ℕ). f 0 +ℤ pos s) (sum_ℕ-zero (λ j. nat_abs (f (suc j)))) ∙ +ℤ_idr (f 0)
figure-one Vertices f = largest-zero f

last : (k : ℕ) → suc k - 1 ≡ k
last k = omega arith

next : (k : ℕ) → suc k + 1 - 1 ≡ suc k
next k = omega arith

-- one point more: f before, g after
pub figure-more : (shape : Shape) (k : ℕ) {f g : ℕ → ℤ} → 1 ≤ k → ((j : ℕ) → j < k → g j ≡ f j) → figure shape (k + 1) g ≡ with_one_more shape (figure shape k f) (g k)
figure-more shape zero h same = absurd (omega arith)
figure-more Box (suc k) h same = same 0 (omega arith)
figure-more Zonotope (suc k) {f} {g} h same =
    ap₂ (λ (z : ℤ) (j : ℕ). z +ℤ pos (sum_ℕ j (λ i. nat_abs (g (suc i))))) (same 0 (omega arith)) (next k)
    ∙ ap (λ (s : ℕ). f 0 +ℤ pos s) (sum_ℕ-suc k (λ i. nat_abs (g (suc i))))
    ∙ sym (+ℤ_assoc (f 0) (pos (sum_ℕ k (λ i. nat_abs (g (suc i))))) (pos (nat_abs (g (suc k)))))
    ∙ ap (λ (s : ℕ). (f 0 +ℤ pos s) +ℤ pos (nat_abs (g (suc k)))) (sum_ℕ-cong k (λ i l. ap nat_abs (same (suc i) (omega arith))) ∙ ap (λ (j : ℕ). sum_ℕ j (λ i. nat_abs (f (suc i)))) (sym (last k)))
figure-more Vertices (suc k) {f} {g} h same =
    ap (λ (j : ℕ). largest j g) (next k)
    ∙ largest-suc k g
    ∙ ap (λ (z : ℤ). larger z (g (suc k))) (largest-cong k (λ j l. same j (omega arith)) ∙ ap (λ (j : ℕ). largest j f) (sym (last k)))

-- ---- supports and reaches

pub support-figure : (n : ℕ) (shape : Shape) (k : ℕ) (p : ℕ → ℕ → ℤ) (r : ℕ → ℤ) → Pointwise shape → support_of n shape k p r ≡ figure shape k (λ j. dot n r (p j))
support-figure n Box k p r w = absurd w
support-figure n Zonotope k p r w = refl
support-figure n Vertices k p r w = refl

pub reach-figure : (shape : Shape) (k : ℕ) (p : ℕ → ℕ → ℤ) (i : ℕ) → Pointwise shape → 1 ≤ k → pos (reach_of shape k p i) ≡ figure shape k (λ j. pos (nat_abs (p j i)))
reach-figure Box k p i w h = absurd w
reach-figure Zonotope k p i w h = refl
reach-figure Vertices zero p i w h = absurd (omega arith)
reach-figure Vertices (suc k) p i w h = sym (largest-pos k (λ j. nat_abs (p j i))) ∙ ap (λ (j : ℕ). largest j (λ m. pos (nat_abs (p m i)))) (sym (last k))
