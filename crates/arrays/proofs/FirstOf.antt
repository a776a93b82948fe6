-- Laws of `first_of`: which of the two it is, what it tells where it is 0, and what holds of it. Assumes nothing.
use mathlib.Core.Path.{◌≡◌, refl, sym, ap, ◌∙◌}
use mathlib.Core.Bool.{Bool, true, false, cond}
use Prim.Native.Nat.{ℕ}
use borrow.Author.Tests.{eq-eqb, ne_eqb, eqb-true, eqb-false}
use lib.Dec.{eqb}
use Rattle.arrays.specs.Tests.{first_of}

pub first_of-none : {a : ℕ} (b : ℕ) → a ≡ 0 → first_of a b ≡ b
first_of-none {a} b z = ap (λ (t : Bool). cond t b a) (eq-eqb a 0 z)

pub first_of-some : (a b : ℕ) → (a ≡ 0 → ⊥) → first_of a b ≡ a
first_of-some a b ne = ap (λ (t : Bool). cond t b a) (ne_eqb a 0 ne)

-- back: no number applies
pub first_of-zero : (a b : ℕ) → first_of a b ≡ 0 → (a ≡ 0) × (b ≡ 0)
first_of-zero a b e = split (eqb a 0) refl
  where
    split : (t : Bool) → eqb a 0 ≡ t → (a ≡ 0) × (b ≡ 0)
    split true f = let n = eqb-true a 0 f in (n, sym (first_of-none b n) ∙ e)
    split false f = let ne = eqb-false a 0 f in absurd (ne (sym (first_of-some a b ne) ∙ e))

-- what holds of both holds of the first
pub first_of-ind : (P : ℕ → Type 0) {a b : ℕ} → P a → P b → P (first_of a b)
first_of-ind P {a} {b} h k = split (eqb a 0)
  where
    split : (t : Bool) → P (cond t b a)
    split true = k
    split false = h
