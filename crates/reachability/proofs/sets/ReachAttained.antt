-- Sets 13: in each coordinate a point of the set, with denominator 1, comes as far as the reach; that none passes it is `within` of
-- `Laws`. A box: the lower or the upper corner, whichever lies farther out. A zonotope: the point that attains the support in the
-- direction of the coordinate, with the centre's sign, so that the magnitudes of the centre and the generators add up. A vertex
-- list: the vertex that lies farthest out. Assumes nothing.
use mathlib.Core.Path.{◌≡◌, refl, sym, ap, ap₂, ◌∙◌}
use mathlib.Core.Bool.{true}
use Prim.Native.Nat.{ℕ, zero, suc, ◌*◌, ◌-◌, ◌≤◌, ◌<◌, max}
use native.Mathlib.Decide.{dec_lt}
use native.Mathlib.Omega.{arith}
use lib.Dec.{leb}
use lib.IntN.{ℤ, pos, negsuc, nat_abs, ◌+ℤ◌, ◌*ℤ◌}
use lib.Signed.{le_z}
use Rattle.integers.specs.Whole.{◌⩽◌}
use Rattle.integers.specs.Sums.{max_ℕ, dot}
use Rattle.integers.proofs.SignedParts.{v, #, ◌⊗◌, le!, eq!, le?}
use Rattle.integers.proofs.Order.{⩽-of-le_z, nat_abs_mul}
use Rattle.integers.proofs.Sums.{sum-cong, sum_ℕ-cong, unit, sum_ℕ-unit, sum-unit, all_below-at}
use Rattle.integers.proofs.Booleans.{and-true}
use Rattle.reachability.specs.Sets.{reach_of, InBox, Member, ordered_ok, count_ok}
use Rattle.reachability.specs.declared.sets.Shape.{Shape}
use Rattle.reachability.specs.declared.sets.Shape.TheVariants.{Box, Zonotope, Vertices}
use Rattle.reachability.proofs.sets.Laws.{set-laws}

-- what is proved shape by shape: in coordinate i a point comes as far as the reach
abbrev Attained : ℕ → Shape → ℕ → (ℕ → ℕ → ℤ) → ℕ → Type 0
Attained n shape count p i = (x : ℕ → ℤ) × Member n shape count p 1 x × (nat_abs (x i) ≡ reach_of shape count p i)

-- ---- boxes

module _ (n : ℕ) (p : ℕ → ℕ → ℤ) (ordered : (j : ℕ) → j < n → p 0 j ⩽ p 1 j) where
  lower : InBox n 1 p (p 0)
  lower =
      record {
        low = λ j h. le! (# 1 ⊗ v (p 0 j)) (v (p 0 j)) (omega arith);
        high = λ j h. le! (v (p 0 j)) (# 1 ⊗ v (p 1 j)) (omega (arith, le? (v (p 0 j)) (v (p 1 j)) (ordered j h)));
      }

  upper : InBox n 1 p (p 1)
  upper =
      record {
        low = λ j h. le! (# 1 ⊗ v (p 0 j)) (v (p 1 j)) (omega (arith, le? (v (p 0 j)) (v (p 1 j)) (ordered j h)));
        high = λ j h. le! (v (p 1 j)) (# 1 ⊗ v (p 1 j)) (omega arith);
      }

  box-reach : (count i : ℕ) → Attained n Box count p i
  box-reach count i = elim (dec_lt (nat_abs (p 0 i)) (nat_abs (p 1 i))) [ yes l ↦ (p 1, upper, omega (arith, l)) | no g ↦ (p 0, lower, omega (arith, g)) ]

-- ---- zonotopes

-- the direction of coordinate i, s times
abbrev along : ℕ → ℤ → ℕ → ℤ
along i s j = pos (unit i j) *ℤ s

dot-along : (n i : ℕ) (s : ℤ) (x : ℕ → ℤ) → i < n → dot n (along i s) x ≡ s *ℤ x i
dot-along n i s x h = sum-cong n (λ j l. grouped (unit i j) (x j)) ∙ sum-unit n i (λ j. s *ℤ x j) h
  where
    grouped : (u : ℕ) (z : ℤ) → (pos u *ℤ s) *ℤ z ≡ pos u *ℤ (s *ℤ z)
    grouped u z = eq! (# u ⊗ v s ⊗ v z) (# u ⊗ (v s ⊗ v z)) (omega arith)

-- 1 or -1, whichever times the number is its magnitude
sign_of : (c : ℤ) → (s : ℤ) × (nat_abs s ≡ 1) × (s *ℤ c ≡ pos (nat_abs c))
sign_of (pos c) = (pos 1, refl, eq! (# 1 ⊗ # c) (# c) (omega arith))
sign_of (negsuc c) = (negsuc 0, refl, eq! (v (negsuc 0) ⊗ v (negsuc c)) (# (suc c)) (omega arith))

-- such a factor leaves magnitudes alone
nat_abs-signed : (s z : ℤ) → nat_abs s ≡ 1 → nat_abs (s *ℤ z) ≡ nat_abs z
nat_abs-signed s z e = nat_abs_mul s z ∙ ap (λ (k : ℕ). k * nat_abs z) e ∙ omega arith

zonotope-reach : (n count : ℕ) (p : ℕ → ℕ → ℤ) → count_ok Zonotope count ≡ true → (i : ℕ) → i < n → Attained n Zonotope count p i
zonotope-reach n count p c i h =
    let far = (set-laws n Zonotope count p c refl).attained (along i s) in
    let support-is = ap₂ ◌+ℤ◌ (dot-along n i s (p 0) h ∙ centre) (ap pos (sum_ℕ-cong (count - 1) (λ k l. generator k))) in
    (far.0, far.1, sym (nat_abs-signed s (far.0 i) one) ∙ ap nat_abs (sym (dot-along n i s far.0 h) ∙ far.2 ∙ support-is))
  where
    s : ℤ
    s = (sign_of (p 0 i)).0

    one : nat_abs s ≡ 1
    one = (sign_of (p 0 i)).1

    centre : s *ℤ p 0 i ≡ pos (nat_abs (p 0 i))
    centre = (sign_of (p 0 i)).2

    generator : (k : ℕ) → nat_abs (dot n (along i s) (p (suc k))) ≡ nat_abs (p (suc k) i)
    generator k = ap nat_abs (dot-along n i s (p (suc k)) h) ∙ nat_abs-signed s (p (suc k) i) one

-- ---- vertex lists

-- one of them, of which there is at least one, is the largest
max_ℕ-one : (k : ℕ) (f : ℕ → ℕ) → (j : ℕ) × (j < suc k) × (f j ≡ max_ℕ (suc k) f)
unfolding max_ℕ
max_ℕ-one zero f = (0, omega arith, omega arith)
max_ℕ-one (suc k) f = elim (dec_lt (max_ℕ (suc k) f) (f (suc k))) [ yes l ↦ (suc k, omega arith, omega (arith, l)) | no g ↦ earlier g (max_ℕ-one k f) ]
  where
    earlier : (max_ℕ (suc k) f < f (suc k) → ⊥) → (j : ℕ) × (j < suc k) × (f j ≡ max_ℕ (suc k) f) → (j : ℕ) × (j < suc (suc k)) × (f j ≡ max (max_ℕ (suc k) f) (f (suc k)))
    earlier g w = (w.0, omega (arith, w.1), omega (arith, g, w.2))

hull-reach : (n count : ℕ) (p : ℕ → ℕ → ℤ) → 1 ≤ count → (i : ℕ) → Attained n Vertices count p i
hull-reach n zero p some i = absurd (omega arith)
hull-reach n (suc k) p some i =
    let far = max_ℕ-one k (λ j. nat_abs (p j i)) in
    (p far.0, record { weight = unit far.0; whole = sum_ℕ-unit (suc k) far.0 far.1; is = λ j h. sym (sum-unit (suc k) far.0 (λ m. p m j) far.1) }, far.2)

-- ---- the three together: a set with an allowed count, and a box's corners in order

-- Sets 13: the reach is the magnitude of a point's coordinate.
pub reach-attained : (n : ℕ) (shape : Shape) (count : ℕ) (p : ℕ → ℕ → ℤ) → count_ok shape count ≡ true → ordered_ok n shape p ≡ true → (i : ℕ) → i < n → (x : ℕ → ℤ) × Member n shape count p 1 x × (nat_abs (x i) ≡ reach_of shape count p i)
reach-attained n Box count p c o i h = box-reach n p (λ j l. ⩽-of-le_z (p 0 j) (p 1 j) (all_below-at n (λ k. le_z (p 0 k) (p 1 k)) o j l)) count i
reach-attained n Zonotope count p c o i h = zonotope-reach n count p c i h
reach-attained n Vertices count p c o i h = hull-reach n count p (borrow.Author.Tests.leb-true 1 count (and-true (leb 1 count) (leb count 16) c).0) i
