-- Laws of the roundings of `Whole`: what a rounded quotient times its divisor is, and by how much it misses.
-- In order: `floor_div`; `nearest_div`; `ceil_div`; `ceil_div_ℕ`. Each holds for every divisor above 0. Assumes nothing.
use mathlib.Core.Path.{◌≡◌, refl, sym, ap, ◌∙◌}
use mathlib.Core.Bool.{Bool, true, false, cond}
use Prim.Native.Nat.{ℕ, suc, ◌+◌, ◌*◌, ◌-◌, ◌/◌, ◌%◌, ◌≤◌, ◌<◌}
use native.Mathlib.Nat.{div-add-mod', mod-lt, lt_of_mul-lt-mul_left}
use native.Mathlib.Omega.{arith}
use borrow.Author.Tests.{eqb-true}
use lib.Dec.{eqb}
use lib.IntN.{ℤ, pos, negsuc, neg_ℤ, nat_abs, ◌+ℤ◌, ◌-ℤ◌, ◌*ℤ◌}
use Rattle.integers.specs.Whole.{◌⩽◌, Near, NearHalves, floor_div, nearest_div, ceil_div, ceil_div_ℕ, is_multiple, fraction}
use Rattle.integers.proofs.SignedParts.{v, #, neg, ◌⊕◌, ◌⊖◌, ◌⊗◌, le!, eq!, le?, eq?, abs!, near!, near?, halves! }
use Rattle.integers.proofs.Order.{nat_abs-neg, nat_abs_mul, near-of-eq, near-mono, halves-of-eq, halves-mono}

-- the quotient and the remainder of a natural number
pub divides : (a m : ℕ) → a ≡ a / m * m + a % m
divides a m = sym (div-add-mod' a m)

-- ---- rounded toward minus infinity

pub floor_div-le : (a : ℤ) (m : ℕ) → 0 < m → pos m *ℤ floor_div a m ⩽ a
floor_div-le (pos a) m h = le! (# m ⊗ # (a / m)) (# a) (omega (arith, divides a m))
floor_div-le (negsuc a) m h = le! (# m ⊗ v (negsuc (a / m))) (v (negsuc a)) (omega (arith, divides a m, mod-lt a h))

pub floor_div-lt : (a : ℤ) (m : ℕ) → 0 < m → a +ℤ pos 1 ⩽ pos m *ℤ floor_div a m +ℤ pos m
floor_div-lt (pos a) m h = le! (# a ⊕ # 1) (# m ⊗ # (a / m) ⊕ # m) (omega (arith, divides a m, mod-lt a h))
floor_div-lt (negsuc a) m h = le! (v (negsuc a) ⊕ # 1) (# m ⊗ v (negsuc (a / m)) ⊕ # m) (omega (arith, divides a m))

-- a multiple is the divisor times its quotient
multiple-of : (a m : ℕ) → 0 < m → suc a % m ≡ 0 → suc a ≡ m * suc (a / m)
multiple-of a m h e =
    let whole : suc a ≡ m * (suc a / m) = omega (arith, divides (suc a) m) in
    let above : a / m < suc a / m = lt_of_mul-lt-mul_left m (omega (arith, divides a m)) in
    let below : suc a / m < suc (suc (a / m)) = lt_of_mul-lt-mul_left m (omega (arith, divides a m, mod-lt a h)) in
    let same : suc a / m ≡ suc (a / m) = omega arith in
    whole ∙ ap (λ (k : ℕ). m * k) same

pub floor_div-of-multiple : (a : ℤ) (m : ℕ) → 0 < m → is_multiple a m ≡ true → a ≡ pos m *ℤ floor_div a m
floor_div-of-multiple (pos a) m h e = eq! (# a) (# m ⊗ # (a / m)) (omega (arith, divides a m, eqb-true (a % m) 0 e))
floor_div-of-multiple (negsuc a) m h e = eq! (v (negsuc a)) (# m ⊗ v (negsuc (a / m))) (omega (arith, multiple-of a m h (eqb-true (suc a % m) 0 e)))

-- Rounding down misses by less than the divisor, and by nothing at a multiple.
pub near-floor_div : (a : ℤ) (m : ℕ) → 0 < m → Near a (pos m *ℤ floor_div a m) (m * fraction a m)
near-floor_div a m h = cases (is_multiple a m) refl
  where
    cases : (b : Bool) → is_multiple a m ≡ b → Near a (pos m *ℤ floor_div a m) (m * cond b 0 1)
    cases true e = near-mono (omega arith) (near-of-eq (floor_div-of-multiple a m h e))
    cases false e =
        near! (v a) (# m ⊗ v (floor_div a m)) (m * 1)
        (omega (arith, le? (v a ⊕ # 1) (# m ⊗ v (floor_div a m) ⊕ # m) (floor_div-lt a m h)))
        (omega (arith, le? (# m ⊗ v (floor_div a m)) (v a) (floor_div-le a m h)))

-- ---- rounded to the nearest

-- It is at most half a divisor above, and less than half a divisor below: the nearest, and a half goes up.
pub nearest_div-le : (a : ℤ) (m : ℕ) → 0 < m → pos 2 *ℤ (pos m *ℤ nearest_div a m) ⩽ pos 2 *ℤ a +ℤ pos m
nearest_div-le a m h =
    let q = nearest_div a m in
    le! (# 2 ⊗ (# m ⊗ v q)) (# 2 ⊗ v a ⊕ # m) (omega (arith, le? (# m ⊗ v q) (v a ⊕ # (m / 2)) (floor_div-le (a +ℤ pos (m / 2)) m h)))

pub nearest_div-lt : (a : ℤ) (m : ℕ) → 0 < m → pos 2 *ℤ a +ℤ pos 1 ⩽ pos 2 *ℤ (pos m *ℤ nearest_div a m) +ℤ pos m
nearest_div-lt a m h =
    let q = nearest_div a m in
    le! (# 2 ⊗ v a ⊕ # 1) (# 2 ⊗ (# m ⊗ v q) ⊕ # m) (omega (arith, le? (v a ⊕ # (m / 2) ⊕ # 1) (# m ⊗ v q ⊕ # m) (floor_div-lt (a +ℤ pos (m / 2)) m h)))

-- a multiple is less than a divisor away from what its quotient is rounded to, so that is the quotient
nearest_div-of-multiple : (a : ℤ) (m : ℕ) → 0 < m → is_multiple a m ≡ true → a ≡ pos m *ℤ nearest_div a m
nearest_div-of-multiple a m h e =
    let p = floor_div a m in
    let q = nearest_div a m in
    let whole = eq? (v a) (# m ⊗ v p) (floor_div-of-multiple a m h e) in
    let above = le? (# 2 ⊗ (# m ⊗ v q)) (# 2 ⊗ v a ⊕ # m) (nearest_div-le a m h) in
    let below = le? (# 2 ⊗ v a ⊕ # 1) (# 2 ⊗ (# m ⊗ v q) ⊕ # m) (nearest_div-lt a m h) in
    let small : nat_abs (pos m *ℤ (p -ℤ q)) ≤ m - 1 = abs! (# m ⊗ (v p ⊖ v q)) (m - 1) (omega arith) (omega arith) in
    let same : nat_abs (p -ℤ q) < 1 = lt_of_mul-lt-mul_left m (omega (arith, small, nat_abs_mul (pos m) (p -ℤ q))) in
    floor_div-of-multiple a m h e ∙ ap (λ (z : ℤ). pos m *ℤ z) (eq! (v p) (v q) (omega (arith, near? (v p) (v q) 0 (record { within = omega (arith, same) }))))

-- Rounding to the nearest misses by at most half the divisor, and by nothing at a multiple.
pub halves-nearest_div : (a : ℤ) (m : ℕ) → 0 < m → NearHalves a (pos m *ℤ nearest_div a m) (m * fraction a m)
halves-nearest_div a m h = cases (is_multiple a m) refl
  where
    cases : (b : Bool) → is_multiple a m ≡ b → NearHalves a (pos m *ℤ nearest_div a m) (m * cond b 0 1)
    cases true e = halves-mono (omega arith) (halves-of-eq (nearest_div-of-multiple a m h e))
    cases false e =
        halves! (v a) (# m ⊗ v (nearest_div a m)) (m * 1)
        (omega (arith, le? (# 2 ⊗ v a ⊕ # 1) (# 2 ⊗ (# m ⊗ v (nearest_div a m)) ⊕ # m) (nearest_div-lt a m h)))
        (omega (arith, le? (# 2 ⊗ (# m ⊗ v (nearest_div a m))) (# 2 ⊗ v a ⊕ # m) (nearest_div-le a m h)))

-- ---- rounded up

pub ceil_div-le : (a : ℤ) (m : ℕ) → 0 < m → a ⩽ pos m *ℤ ceil_div a m
ceil_div-le a m h =
    let q = floor_div (neg_ℤ a) m in
    le! (v a) (# m ⊗ neg (v q)) (omega (arith, le? (# m ⊗ v q) (neg (v a)) (floor_div-le (neg_ℤ a) m h)))

fraction-neg : (a : ℤ) (m : ℕ) → fraction (neg_ℤ a) m ≡ fraction a m
fraction-neg a m = ap (λ (n : ℕ). cond (eqb (n % m) 0) 0 1) (nat_abs-neg a)

-- Rounding up misses by less than the divisor, and by nothing at a multiple.
pub ceil_div-near : (a : ℤ) (m : ℕ) → 0 < m → pos m *ℤ ceil_div a m ⩽ a +ℤ pos (m * fraction a m)
ceil_div-near a m h =
    let q = floor_div (neg_ℤ a) m in
    let f = fraction (neg_ℤ a) m in
    le! (# m ⊗ neg (v q)) (v a ⊕ # (m * fraction a m))
    (omega (arith, near? (neg (v a)) (# m ⊗ v q) (m * f) (near-floor_div (neg_ℤ a) m h), ap (λ (k : ℕ). m * k) (fraction-neg a m)))

pub ceil_div_ℕ-le : (a m : ℕ) → 0 < m → a ≤ m * ceil_div_ℕ a m
ceil_div_ℕ-le a m h = omega (arith, divides (a + (m - 1)) m, mod-lt (a + (m - 1)) h)

pub ceil_div_ℕ-near : (a m : ℕ) → m * ceil_div_ℕ a m ≤ a + (m - 1)
ceil_div_ℕ-near a m = omega (arith, divides (a + (m - 1)) m)

-- ---- what a fraction adds

pub fraction-le-one : (a : ℤ) (m : ℕ) → fraction a m ≤ 1
fraction-le-one a m = cases (is_multiple a m)
  where
    cases : (b : Bool) → cond b 0 1 ≤ 1
    cases true = omega arith
    cases false = omega arith
