-- Laws of ℤ that later proofs cite by name: the ring, the order, tests of order, magnitude, distance.
-- Each is a line by `le!` and `eq!` of `SignedParts`. Assumes nothing.
use mathlib.Core.Path.{◌≡◌, refl, sym, ap, subst}
use mathlib.Core.Bool.{Bool, true, false, not}
use Prim.Native.Nat.{ℕ, zero, suc, ◌+◌, ◌*◌, ◌≤◌}
use native.Mathlib.Nat.{le_refl, mul-le-mul, mul-le-mul_left, le_trans}
use native.Mathlib.Omega.{arith}
use borrow.Author.Tests.{ltb-true, ltb-false, lt-leb, le-leb, leb-false}
use lib.Dec.{T}
use lib.IntN.{ℤ, pos, negsuc, neg_ℤ, nat_abs, ◌+ℤ◌, ◌-ℤ◌, ◌*ℤ◌}
use lib.Signed.{le_z, lt_z, lt_z_no}
use Rattle.integers.specs.Whole.{◌⩽◌, Near, NearHalves}
use Rattle.integers.proofs.SignedParts.{v, #, ◌⊕◌, ◌⊖◌, ◌⊗◌, le!, eq!, le?, eq?, abs!, near!, halves!, halves?, nat_abs-parts}

-- ---- the ring

pub mul_ℤ-add : (a b c : ℤ) → a *ℤ (b +ℤ c) ≡ a *ℤ b +ℤ a *ℤ c
mul_ℤ-add a b c = eq! (v a ⊗ (v b ⊕ v c)) (v a ⊗ v b ⊕ v a ⊗ v c) (omega arith)

pub mul_ℤ-left-comm : (a b c : ℤ) → a *ℤ (b *ℤ c) ≡ b *ℤ (a *ℤ c)
mul_ℤ-left-comm a b c = eq! (v a ⊗ (v b ⊗ v c)) (v b ⊗ (v a ⊗ v c)) (omega arith)

pub add_ℤ-swap : (a b c d : ℤ) → (a +ℤ b) +ℤ (c +ℤ d) ≡ (a +ℤ c) +ℤ (b +ℤ d)
add_ℤ-swap a b c d = eq! ((v a ⊕ v b) ⊕ (v c ⊕ v d)) ((v a ⊕ v c) ⊕ (v b ⊕ v d)) (omega arith)

-- ---- the order

pub ⩽-refl : (a : ℤ) → a ⩽ a
⩽-refl a = le! (v a) (v a) (omega arith)

pub ⩽-of-eq : {a b : ℤ} → a ≡ b → a ⩽ b
⩽-of-eq {a} {b} e = le! (v a) (v b) (omega (arith, eq? (v a) (v b) e))

pub ⩽-trans : {a b c : ℤ} → a ⩽ b → b ⩽ c → a ⩽ c
⩽-trans {a} {b} {c} h k = le! (v a) (v c) (omega (arith, le? (v a) (v b) h, le? (v b) (v c) k))

pub ⩽-add : {a b c d : ℤ} → a ⩽ b → c ⩽ d → a +ℤ c ⩽ b +ℤ d
⩽-add {a} {b} {c} {d} h k = le! (v a ⊕ v c) (v b ⊕ v d) (omega (arith, le? (v a) (v b) h, le? (v c) (v d) k))

pub ⩽-scale : (k : ℕ) {a b : ℤ} → a ⩽ b → pos k *ℤ a ⩽ pos k *ℤ b
⩽-scale k {a} {b} h = le! (# k ⊗ v a) (# k ⊗ v b) (omega (arith, mul-le-mul_left k (le? (v a) (v b) h)))

-- a number below 0 turns the order
pub ⩽-turn : (k : ℕ) {a b : ℤ} → a ⩽ b → negsuc k *ℤ b ⩽ negsuc k *ℤ a
⩽-turn k {a} {b} h = le! (v (negsuc k) ⊗ v b) (v (negsuc k) ⊗ v a) (omega (arith, mul-le-mul_left (suc k) (le? (v a) (v b) h)))

-- what is scaled by a number above 0 has the order that it had before
pub ⩽-unscale : (k : ℕ) {a b : ℤ} → pos (suc k) *ℤ a ⩽ pos (suc k) *ℤ b → a ⩽ b
⩽-unscale k {a} {b} h = le! (v a) (v b) (cancel k (omega (arith, le? (# (suc k) ⊗ v a) (# (suc k) ⊗ v b) h)))
  where
    cancel : (k : ℕ) {m n : ℕ} → suc k * m ≤ suc k * n → m ≤ n
    cancel k h = native.Mathlib.Nat.le_of_mul-le-mul_left h (native.Mathlib.Nat.zero-lt-suc k)

-- ---- tests of order, as a branch leaves them

pub le-of-lt_z-false : (a b : ℤ) → lt_z a b ≡ false → b ⩽ a
le-of-lt_z-false a b e = lt_z_no (subst (λ (t : Bool). T (not t)) (sym e) tt)

pub lt-of-lt_z : (a b : ℤ) → lt_z a b ≡ true → a +ℤ pos 1 ⩽ b
lt-of-lt_z (pos a) (pos b) e = le! (# a ⊕ # 1) (# b) (omega (arith, ltb-true a b e))
lt-of-lt_z (pos a) (negsuc b) e = let z : ◌≡◌ {A = ℕ} 0 1 = cc in absurd (omega arith)
lt-of-lt_z (negsuc a) (pos b) e = le! (v (negsuc a) ⊕ # 1) (# b) (omega arith)
lt-of-lt_z (negsuc a) (negsuc b) e = le! (v (negsuc a) ⊕ # 1) (v (negsuc b)) (omega (arith, ltb-true b a e))

-- the same as values of the other test
pub le_z-of-lt_z : (a b : ℤ) → lt_z a b ≡ true → le_z b a ≡ false
le_z-of-lt_z (pos a) (pos b) e = lt-leb b a (ltb-true a b e)
le_z-of-lt_z (pos a) (negsuc b) e = let z : ◌≡◌ {A = ℕ} 0 1 = cc in absurd (omega arith)
le_z-of-lt_z (negsuc a) (pos b) e = refl
le_z-of-lt_z (negsuc a) (negsuc b) e = lt-leb a b (ltb-true b a e)

pub le_z-of-lt_z-false : (a b : ℤ) → lt_z a b ≡ false → le_z b a ≡ true
le_z-of-lt_z-false (pos a) (pos b) e = le-leb b a (ltb-false a b e)
le_z-of-lt_z-false (pos a) (negsuc b) e = refl
le_z-of-lt_z-false (negsuc a) (pos b) e = let z : ◌≡◌ {A = ℕ} 0 1 = cc in absurd (omega arith)
le_z-of-lt_z-false (negsuc a) (negsuc b) e = le-leb a b (ltb-false b a e)

pub ⩽-of-le_z : (a b : ℤ) → le_z a b ≡ true → a ⩽ b
⩽-of-le_z a b e = record { le = subst T (sym e) tt }

pub le_z-of-⩽ : {a b : ℤ} → a ⩽ b → le_z a b ≡ true
le_z-of-⩽ {a} {b} h = told (le_z a b) h.le
  where
    told : (t : Bool) → T t → t ≡ true
    told true h = refl
    told false h = absurd h

pub lt-of-le_z-false : (a b : ℤ) → le_z a b ≡ false → b +ℤ pos 1 ⩽ a
lt-of-le_z-false (pos a) (pos b) e = le! (# b ⊕ # 1) (# a) (omega (arith, leb-false a b e))
lt-of-le_z-false (pos a) (negsuc b) e = le! (v (negsuc b) ⊕ # 1) (# a) (omega arith)
lt-of-le_z-false (negsuc a) (pos b) e = let z : ◌≡◌ {A = ℕ} 0 1 = cc in absurd (omega arith)
lt-of-le_z-false (negsuc a) (negsuc b) e = le! (v (negsuc b) ⊕ # 1) (v (negsuc a)) (omega (arith, leb-false b a e))

-- ---- magnitude

nat_abs-negpos : (n : ℕ) → nat_abs (neg_ℤ (pos n)) ≡ n
nat_abs-negpos zero = refl
nat_abs-negpos (suc n) = refl

pub nat_abs_mul : (a b : ℤ) → nat_abs (a *ℤ b) ≡ nat_abs a * nat_abs b
nat_abs_mul (pos a) (pos b) = refl
nat_abs_mul (pos a) (negsuc b) = nat_abs-negpos (a * suc b)
nat_abs_mul (negsuc a) (pos b) = nat_abs-negpos (suc a * b)
nat_abs_mul (negsuc a) (negsuc b) = refl

pub nat_abs-mul-le : (a b : ℤ) {x y : ℕ} → nat_abs a ≤ x → nat_abs b ≤ y → nat_abs (a *ℤ b) ≤ x * y
nat_abs-mul-le a b {x} {y} h k = subst (λ (m : ℕ). m ≤ x * y) (sym (nat_abs_mul a b)) (mul-le-mul h k)

pub nat_abs-neg : (a : ℤ) → nat_abs (neg_ℤ a) ≡ nat_abs a
nat_abs-neg (pos n) = nat_abs-negpos n
nat_abs-neg (negsuc n) = refl

pub nat_abs-add : (a b : ℤ) → nat_abs (a +ℤ b) ≤ nat_abs a + nat_abs b
nat_abs-add a b =
    abs! (v a ⊕ v b) (nat_abs a + nat_abs b) (omega (arith, nat_abs-parts a, nat_abs-parts b)) (omega (arith, nat_abs-parts a, nat_abs-parts b))

-- ---- distance

pub near-of-eq : {a b : ℤ} → a ≡ b → Near a b 0
near-of-eq {a} {b} e = near! (v a) (v b) 0 (omega (arith, eq? (v a) (v b) e)) (omega (arith, eq? (v a) (v b) e))

pub near-mono : {a b : ℤ} {d e : ℕ} → d ≤ e → Near a b d → Near a b e
near-mono h k = record { within = le_trans k.within h }

-- ---- distance in half units

pub near-of-halves : {a b : ℤ} {e h : ℕ} → NearHalves a b e → e ≤ 2 * h → Near a b h
near-of-halves {a} {b} {e} {h} k l = record { within = omega (arith, k.within) }

pub halves-of-eq : {a b : ℤ} → a ≡ b → NearHalves a b 0
halves-of-eq {a} {b} e = halves! (v a) (v b) 0 (omega (arith, eq? (v a) (v b) e)) (omega (arith, eq? (v a) (v b) e))

pub halves-mono : {a b : ℤ} {d e : ℕ} → d ≤ e → NearHalves a b d → NearHalves a b e
halves-mono h k = record { within = le_trans k.within h }

pub halves-trans : {a b c : ℤ} {d e : ℕ} → NearHalves a b d → NearHalves b c e → NearHalves a c (d + e)
halves-trans {a} {b} {c} {d} {e} h k = halves! (v a) (v c) (d + e) (omega (arith, halves? (v a) (v b) d h, halves? (v b) (v c) e k)) (omega (arith, halves? (v a) (v b) d h, halves? (v b) (v c) e k))

pub halves-add : {a b a' b' : ℤ} {d e : ℕ} → NearHalves a b d → NearHalves a' b' e → NearHalves (a +ℤ a') (b +ℤ b') (d + e)
halves-add {a} {b} {a'} {b'} {d} {e} h k = halves! (v a ⊕ v a') (v b ⊕ v b') (d + e) (omega (arith, halves? (v a) (v b) d h, halves? (v a') (v b') e k)) (omega (arith, halves? (v a) (v b) d h, halves? (v a') (v b') e k))

-- a distance times a number of at most a given magnitude
pub halves-times : (m : ℤ) {a b : ℤ} {d e : ℕ} → nat_abs m ≤ d → NearHalves a b e → NearHalves (m *ℤ a) (m *ℤ b) (d * e)
halves-times m {a} {b} {d} {e} h k =
    record { within = omega (arith, mul-le-mul h k.within, nat_abs_mul m (a -ℤ b), ap nat_abs (eq! (v m ⊗ (v a ⊖ v b)) (v m ⊗ v a ⊖ v m ⊗ v b) (omega arith))) }

pub halves-scale : (k : ℕ) {a b : ℤ} {e : ℕ} → NearHalves a b e → NearHalves (pos k *ℤ a) (pos k *ℤ b) (k * e)
halves-scale k h = halves-times (pos k) (le_refl k) h
