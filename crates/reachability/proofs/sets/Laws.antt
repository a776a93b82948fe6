-- The theorem of each set, behind one record that later proofs use: no point of the set is above its support, for a direction
-- of any size and a point with any denominator; a point with denominator 1 attains it; each coordinate of a point is at most
-- the reach. In order: boxes; zonotopes; vertex lists; the three together. Assumes nothing.
use mathlib.Core.Path.{◌≡◌, refl, sym, ap, ap₂, subst, ◌∙◌}
use mathlib.Core.Bool.{Bool, true, false, cond}
use Prim.Native.Nat.{ℕ, zero, suc, ◌+◌, ◌*◌, ◌-◌, ◌≤◌, ◌<◌, max}
use native.Mathlib.Nat.{le_refl, le_trans, mul-le-mul_left, mul-le-mul}
use native.Mathlib.Omega.{arith}
use lib.IntN.{ℤ, pos, negsuc, neg_ℤ, nat_abs, ◌+ℤ◌, ◌*ℤ◌}
use lib.Signed.{lt_z, le_z}
use Rattle.integers.specs.Whole.{◌⩽◌}
use Rattle.integers.specs.Sums.{sum, sum_ℕ, max_ℕ, dot}
use Rattle.integers.proofs.SignedParts.{v, #, neg, ◌⊕◌, ◌⊗◌, le!, eq!, le?, abs!, nat_abs-parts}
use Rattle.integers.proofs.Order.{⩽-refl, ⩽-of-eq, ⩽-trans, ⩽-add, ⩽-scale, ⩽-turn, ⩽-of-le_z, lt-of-lt_z, le-of-lt_z-false, nat_abs_mul, nat_abs-add}
use Rattle.integers.proofs.Sums.{sum-cong, sum-scale, sum-⩽, sum_ℕ-scale, nat_abs-sum, pos-sum_ℕ, dot-add, dot-scale, dot-combination, dot-cong, le-max_ℕ, unit, sum_ℕ-unit, sum-unit, all_below-at}
use Rattle.integers.proofs.Booleans.{and-true}
use Rattle.reachability.specs.Sets.{support_of, reach_of, largest, InBox, InZonotope, InHull, Member, ordered_ok, count_ok}
use Rattle.reachability.specs.declared.sets.Shape.{Shape}
use Rattle.reachability.specs.declared.sets.Shape.TheVariants.{Box, Zonotope, Vertices}

-- What later proofs use of a set: its points, its support and its reach.
pub record SetLaws (n : ℕ) (member : ℕ → (ℕ → ℤ) → Type 0) (support : (ℕ → ℤ) → ℤ) (reach : ℕ → ℕ) : Type 0 where
  pub above : (q : ℕ) (x : ℕ → ℤ) → member q x → (r : ℕ → ℤ) → dot n r x ⩽ pos q *ℤ support r
  pub attained : (r : ℕ → ℤ) → (x : ℕ → ℤ) × member 1 x × (dot n r x ≡ support r)
  pub within : (q : ℕ) (x : ℕ → ℤ) → member q x → (i : ℕ) → i < n → nat_abs (x i) ≤ q * reach i

-- ---- boxes

-- the corner that a direction takes in a coordinate
abbrev corner : (ℕ → ℕ → ℤ) → (ℕ → ℤ) → ℕ → ℤ
corner p r i = cond (lt_z (pos 0) (r i)) (p 1 i) (p 0 i)

-- r times a point between the corners is at most r times the corner taken
times-corner : (r low high x : ℤ) → low ⩽ x → x ⩽ high → (b : Bool) → lt_z (pos 0) r ≡ b → r *ℤ x ⩽ r *ℤ cond b high low
times-corner (pos a) low high x l h true e = ⩽-scale a h
times-corner (pos zero) low high x l h false e = ⩽-of-eq (eq! (# 0 ⊗ v x) (# 0 ⊗ v low) (omega arith))
times-corner (pos (suc a)) low high x l h false e = absurd (omega (arith, borrow.Author.Tests.ltb-false 0 (suc a) e))
times-corner (negsuc a) low high x l h true e = let z : ◌≡◌ {A = ℕ} 0 1 = cc in absurd (omega arith)
times-corner (negsuc a) low high x l h false e = ⩽-turn a l

module _ (n : ℕ) (p : ℕ → ℕ → ℤ) where
  box-above : (q : ℕ) (x : ℕ → ℤ) → InBox n q p x → (r : ℕ → ℤ) → dot n r x ⩽ pos q *ℤ sum n (λ i. r i *ℤ corner p r i)
  box-above q x m r = ⩽-trans (sum-⩽ n (λ i h. at i h)) (⩽-of-eq (sum-scale n (pos q) (λ i. r i *ℤ corner p r i)))
    where
      turned : (i : ℕ) (b : Bool) → r i *ℤ cond b (pos q *ℤ p 1 i) (pos q *ℤ p 0 i) ≡ pos q *ℤ (r i *ℤ cond b (p 1 i) (p 0 i))
      turned i true = eq! (v (r i) ⊗ (# q ⊗ v (p 1 i))) (# q ⊗ (v (r i) ⊗ v (p 1 i))) (omega arith)
      turned i false = eq! (v (r i) ⊗ (# q ⊗ v (p 0 i))) (# q ⊗ (v (r i) ⊗ v (p 0 i))) (omega arith)

      at : (i : ℕ) → i < n → r i *ℤ x i ⩽ pos q *ℤ (r i *ℤ corner p r i)
      at i h = ⩽-trans (times-corner (r i) (pos q *ℤ p 0 i) (pos q *ℤ p 1 i) (x i) (m.low i h) (m.high i h) (lt_z (pos 0) (r i)) refl) (⩽-of-eq (turned i (lt_z (pos 0) (r i))))

  one-times : (z : ℤ) → pos 1 *ℤ z ≡ z
  one-times z = eq! (# 1 ⊗ v z) (v z) (omega arith)

  box-attained : ((i : ℕ) → i < n → p 0 i ⩽ p 1 i) → (r : ℕ → ℤ) → InBox n 1 p (corner p r)
  box-attained ordered r =
      record {
        low = λ i h. ⩽-trans (⩽-of-eq (one-times (p 0 i))) (above_low i h (lt_z (pos 0) (r i)));
        high = λ i h. ⩽-trans (below-high i h (lt_z (pos 0) (r i))) (⩽-of-eq (sym (one-times (p 1 i))));
      }
    where
      above_low : (i : ℕ) → i < n → (b : Bool) → p 0 i ⩽ cond b (p 1 i) (p 0 i)
      above_low i h true = ordered i h
      above_low i h false = ⩽-refl (p 0 i)

      below-high : (i : ℕ) → i < n → (b : Bool) → cond b (p 1 i) (p 0 i) ⩽ p 1 i
      below-high i h true = ⩽-refl (p 1 i)
      below-high i h false = ordered i h

  box-within : (q : ℕ) (x : ℕ → ℤ) → InBox n q p x → (i : ℕ) → i < n → nat_abs (x i) ≤ q * max (nat_abs (p 0 i)) (nat_abs (p 1 i))
  box-within q x m i h =
      let low = le? (# q ⊗ v (p 0 i)) (v (x i)) (m.low i h) in
      let high = le? (v (x i)) (# q ⊗ v (p 1 i)) (m.high i h) in
      let top : ℕ = max (nat_abs (p 0 i)) (nat_abs (p 1 i)) in
      let of_low : q * nat_abs (p 0 i) ≤ q * max (nat_abs (p 0 i)) (nat_abs (p 1 i)) = mul-le-mul_left q (omega arith) in
      let of-high : q * nat_abs (p 1 i) ≤ q * max (nat_abs (p 0 i)) (nat_abs (p 1 i)) = mul-le-mul_left q (omega arith) in
      let parts_low = ap (λ (k : ℕ). q * k) (nat_abs-parts (p 0 i)) in
      let parts-high = ap (λ (k : ℕ). q * k) (nat_abs-parts (p 1 i)) in
      abs! (v (x i)) (q * max (nat_abs (p 0 i)) (nat_abs (p 1 i))) (omega arith) (omega arith)

  box_laws : ((i : ℕ) → i < n → p 0 i ⩽ p 1 i) → (count : ℕ) → SetLaws n (Member n Box count p) (support_of n Box count p) (reach_of Box count p)
  box_laws ordered count =
      record { above = box-above; attained = λ r. (corner p r, box-attained ordered r, refl); within = box-within }

-- ---- zonotopes

-- a factor from -q to q times a number is at most q times the number's magnitude
factor-times : (q : ℕ) (f d : ℤ) → neg_ℤ (pos q) ⩽ f → f ⩽ pos q → f *ℤ d ⩽ pos q *ℤ pos (nat_abs d)
factor-times q f (pos d) l h = ⩽-trans (⩽-of-eq (lib.IntN.*ℤ_comm f (pos d))) (⩽-trans (⩽-scale d h) (⩽-of-eq (lib.IntN.*ℤ_comm (pos d) (pos q))))
factor-times q f (negsuc d) l h =
    le! (v f ⊗ v (negsuc d)) (# q ⊗ # (suc d)) (omega (arith, mul-le-mul_left (suc d) (le? (neg (# q)) (v f) l)))

-- the factor with which a number times it is the magnitude
abbrev sign : ℤ → ℤ
sign (pos d) = pos 1
sign (negsuc d) = negsuc 0

sign-times : (d : ℤ) → sign d *ℤ d ≡ pos (nat_abs d)
sign-times (pos d) = eq! (# 1 ⊗ # d) (# d) (omega arith)
sign-times (negsuc d) = eq! (v (negsuc 0) ⊗ v (negsuc d)) (# (suc d)) (omega arith)

sign_low : (d : ℤ) → neg_ℤ (pos 1) ⩽ sign d
sign_low (pos d) = le! (neg (# 1)) (# 1) (omega arith)
sign_low (negsuc d) = le! (neg (# 1)) (v (negsuc 0)) (omega arith)

sign_high : (d : ℤ) → sign d ⩽ pos 1
sign_high (pos d) = le! (# 1) (# 1) (omega arith)
sign_high (negsuc d) = le! (v (negsuc 0)) (# 1) (omega arith)

-- a number from -q to q has a magnitude of at most q
magnitude-most : (q : ℕ) (f : ℤ) → neg_ℤ (pos q) ⩽ f → f ⩽ pos q → nat_abs f ≤ q
magnitude-most q f l h = abs! (v f) q (omega (arith, le? (v f) (# q) h)) (omega (arith, le? (neg (# q)) (v f) l))

module _ (n count : ℕ) (p : ℕ → ℕ → ℤ) where
  -- a direction meets a point of the zonotope
  dot-zonotope : (q : ℕ) (f r : ℕ → ℤ) (x : ℕ → ℤ) → ((i : ℕ) → i < n → x i ≡ pos q *ℤ p 0 i +ℤ sum (count - 1) (λ k. f k *ℤ p (suc k) i)) → dot n r x ≡ pos q *ℤ dot n r (p 0) +ℤ sum (count - 1) (λ k. f k *ℤ dot n r (p (suc k)))
  dot-zonotope q f r x e =
      dot-cong n {a = r} {b = r} {x = x} {y = λ i. pos q *ℤ p 0 i +ℤ sum (count - 1) (λ k. f k *ℤ p (suc k) i)} (λ i h. refl) e
      ∙ dot-add n r (λ i. pos q *ℤ p 0 i) (λ i. sum (count - 1) (λ k. f k *ℤ p (suc k) i))
      ∙ ap₂ ◌+ℤ◌ (dot-scale n (pos q) r (p 0)) (dot-combination n (count - 1) f (λ k. p (suc k)) r)

  abbrev spread : (ℕ → ℤ) → ℕ → ℕ
  spread r k = nat_abs (dot n r (p (suc k)))

  zonotope-above : (q : ℕ) (x : ℕ → ℤ) → InZonotope n q count p x → (r : ℕ → ℤ) → dot n r x ⩽ pos q *ℤ support_of n Zonotope count p r
  zonotope-above q x m r =
      ⩽-trans (⩽-of-eq (dot-zonotope q m.factor r x m.is))
      (⩽-trans (⩽-add (⩽-refl (pos q *ℤ dot n r (p 0))) (sum-⩽ (count - 1) (λ k h. factor-times q (m.factor k) (dot n r (p (suc k))) (m.at_least k h) (m.at_most k h))))
      (⩽-of-eq (ap (λ (z : ℤ). pos q *ℤ dot n r (p 0) +ℤ z) (sum-scale (count - 1) (pos q) (λ k. pos (spread r k)) ∙ ap (λ (z : ℤ). pos q *ℤ z) (sym (pos-sum_ℕ (count - 1) (spread r)))) ∙ sym (Rattle.integers.proofs.Order.mul_ℤ-add (pos q) (dot n r (p 0)) (pos (sum_ℕ (count - 1) (spread r)))))))

  -- the point that a direction attains
  abbrev farthest : (ℕ → ℤ) → ℕ → ℤ
  farthest r i = pos 1 *ℤ p 0 i +ℤ sum (count - 1) (λ k. sign (dot n r (p (suc k))) *ℤ p (suc k) i)

  zonotope-attained : (r : ℕ → ℤ) → (x : ℕ → ℤ) × InZonotope n 1 count p x × (dot n r x ≡ support_of n Zonotope count p r)
  zonotope-attained r = (
    farthest r,
    record { factor = λ k. sign (dot n r (p (suc k))); at_least = λ k h. sign_low (dot n r (p (suc k))); at_most = λ k h. sign_high (dot n r (p (suc k))); is = λ i h. refl },
    dot-zonotope 1 (λ k. sign (dot n r (p (suc k)))) r (farthest r) (λ i h. refl) ∙ ap₂ ◌+ℤ◌ (eq! (# 1 ⊗ v (dot n r (p 0))) (v (dot n r (p 0))) (omega arith)) (sum-cong (count - 1) (λ k h. sign-times (dot n r (p (suc k)))) ∙ sym (pos-sum_ℕ (count - 1) (spread r))),
  )

  zonotope-within : (q : ℕ) (x : ℕ → ℤ) → InZonotope n q count p x → (i : ℕ) → i < n → nat_abs (x i) ≤ q * (nat_abs (p 0 i) + sum_ℕ (count - 1) (λ k. nat_abs (p (suc k) i)))
  zonotope-within q x m i h =
      let rest : ℤ = sum (count - 1) (λ k. m.factor k *ℤ p (suc k) i) in
      let spreads = sum_ℕ-scale (count - 1) q (λ k. nat_abs (p (suc k) i)) in
      let each = nat_abs-sum (count - 1) (λ k. m.factor k *ℤ p (suc k) i) (λ k. q * nat_abs (p (suc k) i)) (λ k l. term k l) in
      let centre = nat_abs_mul (pos q) (p 0 i) in
      subst (λ (z : ℤ). nat_abs z ≤ q * (nat_abs (p 0 i) + sum_ℕ (count - 1) (λ k. nat_abs (p (suc k) i)))) (sym (m.is i h)) (omega (arith, nat_abs-add (pos q *ℤ p 0 i) (sum (count - 1) (λ k. m.factor k *ℤ p (suc k) i))))
    where
      term : (k : ℕ) → k < count - 1 → nat_abs (m.factor k *ℤ p (suc k) i) ≤ q * nat_abs (p (suc k) i)
      term k l = subst (λ (y : ℕ). y ≤ q * nat_abs (p (suc k) i)) (sym (nat_abs_mul (m.factor k) (p (suc k) i))) (mul-le-mul (magnitude-most q (m.factor k) (m.at_least k l) (m.at_most k l)) (le_refl (nat_abs (p (suc k) i))))

  zonotope-laws : SetLaws n (Member n Zonotope count p) (support_of n Zonotope count p) (reach_of Zonotope count p)
  zonotope-laws = record { above = zonotope-above; attained = zonotope-attained; within = zonotope-within }

-- ---- vertex lists

-- each is at most the largest, and one of them is it
pub ⩽-largest : (k : ℕ) (f : ℕ → ℤ) (j : ℕ) → j ≤ k → f j ⩽ largest k f
unfolding largest
⩽-largest zero f j h = ⩽-of-eq (ap f (omega arith))
⩽-largest (suc k) f j h = elim (native.Mathlib.Decide.ℕ_discrete j (suc k)) [ yes e ↦ last e (lt_z (largest k f) (f (suc k))) refl | no ne ↦ ⩽-trans (⩽-largest k f j (omega (arith, ne))) (earlier (lt_z (largest k f) (f (suc k))) refl) ]
  where
    last : j ≡ suc k → (b : Bool) → lt_z (largest k f) (f (suc k)) ≡ b → f j ⩽ cond b (f (suc k)) (largest k f)
    last e true t = ⩽-of-eq (ap f e)
    last e false t = ⩽-trans (⩽-of-eq (ap f e)) (le-of-lt_z-false (largest k f) (f (suc k)) t)

    earlier : (b : Bool) → lt_z (largest k f) (f (suc k)) ≡ b → largest k f ⩽ cond b (f (suc k)) (largest k f)
    earlier true t = ⩽-trans (le! (v (largest k f)) (v (largest k f) ⊕ # 1) (omega arith)) (lt-of-lt_z (largest k f) (f (suc k)) t)
    earlier false t = ⩽-refl (largest k f)

largest-one : (k : ℕ) (f : ℕ → ℤ) → (j : ℕ) × (j ≤ k) × (f j ≡ largest k f)
unfolding largest
largest-one zero f = (0, le_refl 0, refl)
largest-one (suc k) f = pick (lt_z (largest k f) (f (suc k))) (largest-one k f)
  where
    pick : (b : Bool) → (j : ℕ) × (j ≤ k) × (f j ≡ largest k f) → (j : ℕ) × (j ≤ suc k) × (f j ≡ cond b (f (suc k)) (largest k f))
    pick true w = (suc k, le_refl (suc k), refl)
    pick false w = (w.0, omega (arith, w.1), w.2)

module _ (n count : ℕ) (some : 1 ≤ count) (p : ℕ → ℕ → ℤ) where
  abbrev top : (ℕ → ℤ) → ℤ
  top r = largest (count - 1) (λ k. dot n r (p k))

  dot-hull : (w : ℕ → ℕ) (r x : ℕ → ℤ) → ((i : ℕ) → i < n → x i ≡ sum count (λ k. pos (w k) *ℤ p k i)) → dot n r x ≡ sum count (λ k. pos (w k) *ℤ dot n r (p k))
  dot-hull w r x e =
      dot-cong n {a = r} {b = r} {x = x} {y = λ i. sum count (λ k. pos (w k) *ℤ p k i)} (λ i h. refl) e ∙ dot-combination n count (λ k. pos (w k)) p r

  hull-above : (q : ℕ) (x : ℕ → ℤ) → InHull n q count p x → (r : ℕ → ℤ) → dot n r x ⩽ pos q *ℤ top r
  hull-above q x m r =
      ⩽-trans (⩽-of-eq (dot-hull m.weight r x m.is))
      (⩽-trans (sum-⩽ count (λ k h. ⩽-scale (m.weight k) (⩽-largest (count - 1) (λ j. dot n r (p j)) k (omega arith))))
      (⩽-of-eq (weighted (top r))))
    where
      weighted : (t : ℤ) → sum count (λ k. pos (m.weight k) *ℤ t) ≡ pos q *ℤ t
      weighted t =
          sum-cong count (λ k h. lib.IntN.*ℤ_comm (pos (m.weight k)) t)
          ∙ sum-scale count t (λ k. pos (m.weight k))
          ∙ ap (λ (z : ℤ). t *ℤ z) (sym (pos-sum_ℕ count m.weight) ∙ ap pos m.whole)
          ∙ lib.IntN.*ℤ_comm t (pos q)

  hull-attained : (r : ℕ → ℤ) → (x : ℕ → ℤ) × InHull n 1 count p x × (dot n r x ≡ top r)
  hull-attained r =
      let one = largest-one (count - 1) (λ k. dot n r (p k)) in
      let inside : one.0 < count = omega (arith, one.1) in
      (p one.0, record { weight = unit one.0; whole = sum_ℕ-unit count one.0 inside; is = λ i h. sym (sum-unit count one.0 (λ k. p k i) inside) }, one.2)

  hull-within : (q : ℕ) (x : ℕ → ℤ) → InHull n q count p x → (i : ℕ) → i < n → nat_abs (x i) ≤ q * max_ℕ count (λ k. nat_abs (p k i))
  hull-within q x m i h =
      let most : ℕ = max_ℕ count (λ k. nat_abs (p k i)) in
      subst (λ (z : ℤ). nat_abs z ≤ q * max_ℕ count (λ k. nat_abs (p k i))) (sym (m.is i h))
      (le_trans (nat_abs-sum count (λ k. pos (m.weight k) *ℤ p k i) (λ k. max_ℕ count (λ j. nat_abs (p j i)) * m.weight k) (λ k l. term k l))
      (native.Mathlib.Nat.le_of_eq (sum_ℕ-scale count (max_ℕ count (λ j. nat_abs (p j i))) m.weight ∙ ap (λ (y : ℕ). max_ℕ count (λ j. nat_abs (p j i)) * y) m.whole ∙ native.Mathlib.Nat.mul_comm (max_ℕ count (λ j. nat_abs (p j i))) q)))
    where
      term : (k : ℕ) → k < count → nat_abs (pos (m.weight k) *ℤ p k i) ≤ max_ℕ count (λ j. nat_abs (p j i)) * m.weight k
      term k l =
          subst (λ (y : ℕ). y ≤ max_ℕ count (λ j. nat_abs (p j i)) * m.weight k) (native.Mathlib.Nat.mul_comm (nat_abs (p k i)) (m.weight k) ∙ sym (nat_abs_mul (pos (m.weight k)) (p k i))) (mul-le-mul (le-max_ℕ count (λ j. nat_abs (p j i)) k l) (le_refl (m.weight k)))

  hull-laws : SetLaws n (Member n Vertices count p) (support_of n Vertices count p) (reach_of Vertices count p)
  hull-laws = record { above = hull-above; attained = hull-attained; within = hull-within }

-- ---- the three together: a set with an allowed count, and a box's corners in order

pub set-laws : (n : ℕ) (shape : Shape) (count : ℕ) (p : ℕ → ℕ → ℤ) → count_ok shape count ≡ true → ordered_ok n shape p ≡ true → SetLaws n (Member n shape count p) (support_of n shape count p) (reach_of shape count p)
set-laws n Box count p c o = box_laws n p (λ i h. ⩽-of-le_z (p 0 i) (p 1 i) (all_below-at n (λ j. le_z (p 0 j) (p 1 j)) o i h)) count
set-laws n Zonotope count p c o = zonotope-laws n count p
set-laws n Vertices count p c o = hull-laws n count (borrow.Author.Tests.leb-true 1 count (and-true (lib.Dec.leb 1 count) (lib.Dec.leb count 16) c).0) p
