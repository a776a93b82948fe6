-- Bounds on what the supports of tested points compute, and zeros beyond n: the loops run to six, the definitions to n.
-- Assumes nothing.
use mathlib.Core.Path.{◌≡◌, sym, ap, ap₂, ◌∙◌}
use mathlib.Core.Bool.{Bool, true, false, cond}
use mathlib.Core.List.{List}
use Prim.Native.Nat.{ℕ, suc, ◌+◌, ◌*◌, ◌-◌, ◌≤◌, ◌<◌}
use native.Mathlib.Nat.{le_trans}
use native.Mathlib.Omega.{arith}
use lib.IntN.{ℤ, pos, nat_abs, ◌+ℤ◌, ◌*ℤ◌, *ℤ-zero}
use lib.Signed.{lt_z}
use Rattle.integers.specs.Sums.{vector, dot}
use Rattle.integers.proofs.Order.{nat_abs-mul-le}
use Rattle.integers.proofs.Sums.{sum-beyond, sum_ℕ-bound, sum_ℕ-cong, nat_abs-sum, sum-cong}
use Rattle.arrays.specs.Tests.{zero_outside}
use Rattle.arrays.proofs.Tests.{zero_outside-column}
use Rattle.reachability.specs.Sets.{points, support_of}
use Rattle.reachability.specs.SetsInner.{Tested, product_limit, term_limit}
use Rattle.reachability.specs.declared.sets.Shape.{Shape}
use Rattle.reachability.specs.declared.sets.Shape.TheVariants.{Box, Zonotope, Vertices}
use Rattle.reachability.proofs.sets.PointByPoint.{largest-cong}

-- ---- bounds

pub dot-small : (xs r : List ℤ) (k : ℕ) → Tested xs r → nat_abs (dot 6 (vector r) (points xs k)) ≤ term_limit
dot-small xs r k t =
    le_trans (nat_abs-sum 6 (λ i. vector r i *ℤ points xs k i) (λ i. product_limit) (λ i h. nat_abs-mul-le (vector r i) (points xs k i) (t.values i h) (t.coordinates (6 * k + i))))
    (sum_ℕ-bound 6 product_limit (λ i h. native.Mathlib.Nat.le_refl product_limit))

-- ---- zeros beyond n

six : (n : ℕ) → n ≤ 6 → n + (6 - n) ≡ 6
six n h = omega arith

below-six : (n i : ℕ) → n ≤ 6 → i < n + (6 - n) → i < 6
below-six n i h k = omega arith

module _ (n : ℕ) (n≤6 : n ≤ 6) (count : ℕ) (xs : List ℤ) (outside : zero_outside count n xs ≡ true) where
  -- a coordinate beyond n is zero
  pub coordinate-beyond : (k i : ℕ) → n ≤ i → i < 6 → points xs k i ≡ pos 0
  coordinate-beyond k i l h = zero_outside-column count n xs outside k i h l

  dot-six : (r : ℕ → ℤ) (k : ℕ) → dot 6 r (points xs k) ≡ dot n r (points xs k)
  dot-six r k =
      ap (λ (m : ℕ). dot m r (points xs k)) (sym (six n n≤6))
      ∙ sum-beyond n (6 - n) (λ i. r i *ℤ points xs k i) (λ i l h. ap (λ (z : ℤ). r i *ℤ z) (coordinate-beyond k i l (below-six n i n≤6 h)) ∙ *ℤ-zero (r i))

  box-six : (r : ℕ → ℤ) → support_of 6 Box count (points xs) r ≡ support_of n Box count (points xs) r
  box-six r =
      ap (λ (m : ℕ). support_of m Box count (points xs) r) (sym (six n n≤6))
      ∙ sum-beyond n (6 - n) (λ i. r i *ℤ cond (lt_z (pos 0) (r i)) (points xs 1 i) (points xs 0 i)) (λ i l h. ap (λ (z : ℤ). r i *ℤ z) (both i l (below-six n i n≤6 h) (lt_z (pos 0) (r i))) ∙ *ℤ-zero (r i))
    where
      both : (i : ℕ) → n ≤ i → i < 6 → (b : Bool) → cond b (points xs 1 i) (points xs 0 i) ≡ pos 0
      both i l h true = coordinate-beyond 1 i l h
      both i l h false = coordinate-beyond 0 i l h

  pub support_of-six : (shape : Shape) (r : ℕ → ℤ) → support_of 6 shape count (points xs) r ≡ support_of n shape count (points xs) r
  support_of-six Box r = box-six r
  support_of-six Zonotope r = ap₂ (λ (x : ℤ) (y : ℕ). x +ℤ pos y) (dot-six r 0) (sum_ℕ-cong (count - 1) (λ k h. ap nat_abs (dot-six r (suc k))))
  support_of-six Vertices r = largest-cong (count - 1) (λ k h. dot-six r k)

-- ---- a support looks only at the first n values of a direction

dot-same : (n : ℕ) {r s : ℕ → ℤ} (x : ℕ → ℤ) → ((i : ℕ) → i < n → r i ≡ s i) → dot n r x ≡ dot n s x
dot-same n x e = sum-cong n (λ i h. ap (λ (z : ℤ). z *ℤ x i) (e i h))

pub support_of-same : (n : ℕ) (shape : Shape) (count : ℕ) (p : ℕ → ℕ → ℤ) {r s : ℕ → ℤ} → ((i : ℕ) → i < n → r i ≡ s i) → support_of n shape count p r ≡ support_of n shape count p s
support_of-same n Box count p e = sum-cong n (λ i h. ap (λ (z : ℤ). z *ℤ cond (lt_z (pos 0) z) (p 1 i) (p 0 i)) (e i h))
support_of-same n Zonotope count p e = ap₂ (λ (x : ℤ) (y : ℕ). x +ℤ pos y) (dot-same n (p 0) e) (sum_ℕ-cong (count - 1) (λ k h. ap nat_abs (dot-same n (p (suc k)) e)))
support_of-same n Vertices count p e = largest-cong (count - 1) (λ k h. dot-same n (p k) e)
