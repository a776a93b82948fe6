-- Laws of the spare figure: it is the h of Recurrence 8, and it is the leading zeros of one less than the sum, as 32 bits, less two
-- (Forms 3). Assumes nothing.
use mathlib.Core.Path.{◌≡◌, sym, ap, subst, ◌∙◌}
use mathlib.Core.Bool.{Bool, true, false, cond}
use Prim.Native.Nat.{ℕ, zero, suc, ◌+◌, ◌*◌, ◌-◌, ◌^◌, ◌≤◌, ◌<◌}
use native.Mathlib.Nat.{mul-le-mul_left, mul-le-mul_right, lt_of_lt_of_le, pow-suc}
use native.Mathlib.Decide.{ℕ_discrete, dec_lt}
use native.Mathlib.Omega.{arith}
use borrow.Author.Tests.{le-leb, lt-leb}
use lib.Dec.{leb}
use lib.Pow.{pow_mono, pow-add, pow_pos}
use lib.Count.{count_leading_zeros, leading_length}
use Rattle.stepping.specs.Limits.{growth_limit}
use Rattle.stepping.specs.Recurrence.{greatest, spare}

-- a place that passes, above which none does, is the greatest
greatest-is : (k : ℕ) (p : ℕ → Bool) (h : ℕ) → h ≤ k → p h ≡ true → ((j : ℕ) → h < j → p j ≡ false) → greatest k p ≡ h
unfolding greatest
greatest-is zero p h l t f = omega arith
greatest-is (suc k) p h l t f = elim (ℕ_discrete h (suc k)) [ yes e ↦ last e | no ne ↦ lower (omega (arith, ne)) (λ m. greatest-is k p h m t f) ]
  where
    last : h ≡ suc k → cond (p (suc k)) (suc k) (greatest k p) ≡ h
    last e = ap (λ (b : Bool). cond b (suc k) (greatest k p)) (subst (λ (j : ℕ). p j ≡ true) e t) ∙ sym e

    lower : h ≤ k → (h ≤ k → greatest k p ≡ h) → cond (p (suc k)) (suc k) (greatest k p) ≡ h
    lower m below = ap (λ (b : Bool). cond b (suc k) (greatest k p)) (f (suc k) (omega arith)) ∙ below m

-- The spare figure of a sum: h, with what it is in leading zeros.
pub record SpareIs (s h : ℕ) : Type 0 where
  pub zeros : count_leading_zeros 32 (s - 1) ≡ h + 2
  pub holds : 2 ^ h * s ≤ growth_limit
  pub greater : (j : ℕ) → h < j → growth_limit < 2 ^ j * s
  pub small : h ≤ 30

pub spare_of : (s : ℕ) → 1 ≤ s → s ≤ growth_limit → (h : ℕ) × SpareIs s h
spare_of s low high =
    let a : ℕ = s - 1 in
    let top = leading_length 32 (s - 1) (omega arith) in
    let m : ℕ = top.0 in
    (30 - top.0, is top.0 top.1 top.2 top.3 (at_most top.0 (omega (arith, top.3))))
  where
    -- m digits are at most 30
    at_most : (m : ℕ) → 2 ^ m < 2 ^ 31 → m ≤ 30
    at_most m h = elim (dec_lt 30 m) [ yes l ↦ absurd (native.Mathlib.Nat.lt_irrefl (2 ^ m) (lt_of_lt_of_le h (pow_mono l))) | no f ↦ omega (arith, f) ]

    is : (m : ℕ) → count_leading_zeros 32 (s - 1) + m ≡ 32 → s - 1 < 2 ^ m → 2 ^ m ≤ 2 * (s - 1) + 1 → m ≤ 30 → SpareIs s (30 - m)
    is m e lt le small =
        let p : ℕ = 2 ^ (30 - m) in
        let whole : 2 ^ (30 - m) * 2 ^ m ≡ growth_limit = sym (pow-add 2 (30 - m) m) ∙ ap (λ (k : ℕ). 2 ^ k) (full m small) in
        record {
          zeros = omega arith;
          holds = omega (arith, mul-le-mul_left (2 ^ (30 - m)) (up lt), whole);
          greater = λ j l. beyond j (pow_mono l) whole;
          small = omega arith;
        }
      where
        full : (m : ℕ) → m ≤ 30 → 30 - m + m ≡ 30
        full m h = omega arith

        up : s - 1 < 2 ^ m → s ≤ 2 ^ m
        up h = omega arith

        beyond : (j : ℕ) → 2 ^ suc (30 - m) ≤ 2 ^ j → 2 ^ (30 - m) * 2 ^ m ≡ growth_limit → growth_limit < 2 ^ j * s
        beyond j g w = omega (arith, mul-le-mul_right s g, ap (λ (k : ℕ). k * s) (pow-suc 2 (30 - m)), mul-le-mul_left (2 ^ (30 - m)) twice, pow_pos (30 - m), w)
          where
            twice : 2 ^ m + 1 ≤ 2 * s
            twice = omega arith

pub spare-is : (s : ℕ) → 1 ≤ s → s ≤ growth_limit → SpareIs s (spare s)
spare-is s low high =
    let found = spare_of s low high in
    subst (SpareIs s) (sym (greatest-is 30 (λ h. leb (2 ^ h * s) growth_limit) found.0 found.1.small (le-leb _ _ found.1.holds) (λ j l. lt-leb _ _ (found.1.greater j l)))) found.1
