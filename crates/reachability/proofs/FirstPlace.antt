-- Laws of `first_place`: it passes the test where it is below n, and none before it does; and a loop that looks for it. Assumes nothing.
use mathlib.Core.Path.{◌≡◌, refl, sym, ap, ◌∙◌}
use mathlib.Core.Bool.{Bool, true, false, cond}
use Prim.Native.Nat.{ℕ, zero, suc, ◌+◌, ◌≤◌, ◌<◌, zero-le, suc-le-suc}
use native.Mathlib.Nat.{lt_of_lt_of_le, le_of_suc-le-suc, not-suc-le-zero}
use native.Mathlib.Omega.{arith}
use borrow.Author.Count.{below_none, below_more}
use Rattle.reachability.specs.Recurrence.{first_place}

pub first_place-passes : (n : ℕ) (p : ℕ → Bool) → first_place n p < n → p (first_place n p) ≡ true
unfolding first_place
first_place-passes zero p h = absurd (not-suc-le-zero h)
first_place-passes (suc n) p h = cases (p 0) refl h (first_place-passes n (λ k. p (suc k)))
  where
    cases : (b : Bool) → p 0 ≡ b → cond b 0 (suc (first_place n (λ k. p (suc k)))) < suc n → (first_place n (λ k. p (suc k)) < n → p (suc (first_place n (λ k. p (suc k)))) ≡ true) → p (cond b 0 (suc (first_place n (λ k. p (suc k))))) ≡ true
    cases true e l later = e
    cases false e l later = later (le_of_suc-le-suc l)

pub first_place-before : (n : ℕ) (p : ℕ → Bool) (j : ℕ) → j < first_place n p → p j ≡ false
unfolding first_place
first_place-before zero p j h = absurd (not-suc-le-zero h)
first_place-before (suc n) p j h = cases (p 0) refl j h (first_place-before n (λ k. p (suc k)))
  where
    cases : (b : Bool) → p 0 ≡ b → (j : ℕ) → j < cond b 0 (suc (first_place n (λ k. p (suc k)))) → ((i : ℕ) → i < first_place n (λ k. p (suc k)) → p (suc i) ≡ false) → p j ≡ false
    cases true e j l later = absurd (not-suc-le-zero l)
    cases false e zero l later = e
    cases false e (suc i) l later = later i (le_of_suc-le-suc l)

pub first_place-le : (n : ℕ) (p : ℕ → Bool) → first_place n p ≤ n
unfolding first_place
first_place-le zero p = zero-le
first_place-le (suc n) p = cases (p 0) (first_place-le n (λ k. p (suc k)))
  where
    cases : (b : Bool) → first_place n (λ k. p (suc k)) ≤ n → cond b 0 (suc (first_place n (λ k. p (suc k)))) ≤ suc n
    cases true l = zero-le
    cases false l = suc-le-suc l

clash : {b : Bool} → b ≡ true → b ≡ false → ⊥
clash e f = let z : ◌≡◌ {A = ℕ} 0 1 = cc in omega arith

-- A place that passes, with none before it, is the first.
pub first_place-is : (n : ℕ) (p : ℕ → Bool) (k : ℕ) → k < n → p k ≡ true → ((j : ℕ) → j < k → p j ≡ false) → first_place n p ≡ k
first_place-is n p k h t before = elim (native.Mathlib.Decide.dec_lt (first_place n p) k) [ yes l ↦ absurd (clash (first_place-passes n p (native.Mathlib.Nat.lt_trans l h)) (before (first_place n p) l)) | no f ↦ elim (native.Mathlib.Decide.dec_lt k (first_place n p)) [ yes l ↦ absurd (clash t (first_place-before n p k l)) | no g ↦ omega (arith, f, g) ] ]

-- Where no place passes, it is n.
pub first_place-none : (n : ℕ) (p : ℕ → Bool) → ((j : ℕ) → j < n → p j ≡ false) → first_place n p ≡ n
first_place-none n p all = elim (native.Mathlib.Decide.dec_lt (first_place n p) n) [ yes l ↦ absurd (clash (first_place-passes n p l) (all (first_place n p) l)) | no f ↦ omega (arith, f, first_place-le n p) ]

-- Two tests that agree below n have the same first place.
pub first_place-cong : (n : ℕ) (p q : ℕ → Bool) → ((k : ℕ) → k < n → p k ≡ q k) → first_place n p ≡ first_place n q
unfolding first_place
first_place-cong zero p q h = refl
first_place-cong (suc n) p q h =
    ap (λ (t : Bool). cond t 0 (suc (first_place n (λ k. p (suc k))))) (h 0 (suc-le-suc zero-le)) ∙ ap (λ (x : ℕ). cond (q 0) 0 (suc x)) (first_place-cong n (λ k. p (suc k)) (λ k. q (suc k)) (λ k l. h (suc k) (suc-le-suc l)))

-- ---- a loop that looks for the first step: none of those passed passes the test

pub record NoneBefore (n : ℕ) (p : ℕ → Bool) (k : ℕ) : Type 0 where
  pub within : k ≤ n
  pub none : (j : ℕ) → j < k → p j ≡ false

pub none-before-start : (n : ℕ) (p : ℕ → Bool) → NoneBefore n p 0
none-before-start n p = record { within = zero-le; none = below_none (λ j. p j ≡ false) }

pub none-before-more : (n : ℕ) (p : ℕ → Bool) (k : ℕ) → NoneBefore n p k → k < n → p k ≡ false → NoneBefore n p (k + 1)
none-before-more n p k so l f = record { within = omega (arith, l); none = below_more (λ j. p j ≡ false) k so.none f }

pub first_found : (n : ℕ) (p : ℕ → Bool) (k : ℕ) → NoneBefore n p k → k < n → p k ≡ true → k ≡ first_place n p
first_found n p k so l t = sym (first_place-is n p k l t so.none)

pub first-missing : (n : ℕ) (p : ℕ → Bool) (k : ℕ) → NoneBefore n p k → n ≤ k → k ≡ first_place n p
first-missing n p k so l = omega (arith, so.within, l) ∙ sym (first_place-none n p (λ j h. so.none j (lt_of_lt_of_le h l)))
