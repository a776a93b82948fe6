-- Laws of `reaches` and of the first-step rules. The laws and proofs above cite these and don't unfold `reaches`. In order: values
-- against a level; the verdict from the two first steps; the same of equal bounds and slacks. Assumes nothing.
use mathlib.Core.Path.{◌≡◌, refl, ap, ap₂, ◌∙◌}
use mathlib.Core.Bool.{Bool, true, false, cond}
use Prim.Native.Nat.{ℕ, ◌≤◌, ◌<◌}
use native.Mathlib.Omega.{arith}
use borrow.Author.Tests.{lt-ltb, le-ltb}
use lib.Dec.{ltb}
use lib.IntN.{ℤ, pos, ◌-ℤ◌, ◌+ℤ◌, ◌*ℤ◌}
use Rattle.integers.specs.Whole.{◌⩽◌}
use Rattle.integers.proofs.SignedParts.{v, #, ◌⊕◌, ◌⊗◌, le!, le?}
use Rattle.integers.proofs.Order.{⩽-trans, ⩽-scale, le-of-lt_z-false, lt-of-lt_z}
use Rattle.reachability.specs.Recurrence.{first_place}
use Rattle.reachability.specs.Verdicts.{reaches, hit_at, unknown_at, verdict_below}
use Rattle.reachability.specs.declared.verdicts.Verdict.TheVariants.{Hit, Unknown, Clear}
use Rattle.reachability.proofs.FirstPlace.{first_place-cong}

-- ---- values against a level

pub reaches-above : (level x : ℤ) → level +ℤ pos 1 ⩽ x → reaches level x ≡ true
reaches-above level x h = told (reaches level x) refl
  where
    told : (t : Bool) → reaches level x ≡ t → t ≡ true
    told true t = refl
    told false f = absurd (omega (arith, le? (v level ⊕ # 1) (v x) h, le? (v x) (v level) (le-of-lt_z-false level x f)))

pub reaches-not : (level x : ℤ) → x ⩽ level → reaches level x ≡ false
reaches-not level x h = told (reaches level x) refl
  where
    told : (t : Bool) → reaches level x ≡ t → t ≡ false
    told true t = absurd (omega (arith, le? (v x) (v level) h, le? (v level ⊕ # 1) (v x) (lt-of-lt_z level x t)))
    told false f = refl

pub reaches-lt : (level x : ℤ) → reaches level x ≡ true → level +ℤ pos 1 ⩽ x
reaches-lt level x t = lt-of-lt_z level x t

pub reaches-le : (level x : ℤ) → reaches level x ≡ true → level ⩽ x
reaches-le level x t = le! (v level) (v x) (omega (arith, le? (v level ⊕ # 1) (v x) (reaches-lt level x t)))

pub reaches-false-le : (level x : ℤ) → reaches level x ≡ false → x ⩽ level
reaches-false-le level x f = le-of-lt_z-false level x f

-- a value at or above one that reaches the level
pub reaches-mono : (level x y : ℤ) → reaches level x ≡ true → x ⩽ y → reaches level y ≡ true
reaches-mono level x y t h = reaches-above level y (⩽-trans (reaches-lt level x t) h)

-- a level at or below one that is reached
pub reaches-lower : (lower higher x : ℤ) → lower ⩽ higher → reaches higher x ≡ true → reaches lower x ≡ true
reaches-lower lower higher x h t = reaches-above lower x (le! (v lower ⊕ # 1) (v x) (omega (arith, le? (v lower) (v higher) h, le? (v higher ⊕ # 1) (v x) (reaches-lt higher x t))))

-- level and value over a common denominator
pub reaches-scale : (p : ℕ) (level x : ℤ) → 1 ≤ p → reaches level x ≡ true → reaches (pos p *ℤ level) (pos p *ℤ x) ≡ true
reaches-scale p level x l t = reaches-above (pos p *ℤ level) (pos p *ℤ x) (le! (# p ⊗ v level ⊕ # 1) (# p ⊗ v x) (omega (arith, l, le? (# p ⊗ (v level ⊕ # 1)) (# p ⊗ v x) (⩽-scale p (reaches-lt level x t)))))

pub reaches-unscale : (p : ℕ) (level x : ℤ) → reaches (pos p *ℤ level) (pos p *ℤ x) ≡ true → reaches level x ≡ true
reaches-unscale p level x t = told (reaches level x) refl
  where
    told : (s : Bool) → reaches level x ≡ s → s ≡ true
    told true s = refl
    told false f = absurd (omega (arith, le? (# p ⊗ v x) (# p ⊗ v level) (⩽-scale p (reaches-false-le level x f)), le? (# p ⊗ v level ⊕ # 1) (# p ⊗ v x) (reaches-lt (pos p *ℤ level) (pos p *ℤ x) t)))

-- ---- the verdict from the two first steps

module _ (n : ℕ) (level : ℤ) (b s : ℕ → ℤ) where
  abbrev h : ℕ
  h = first_place n (hit_at level b s)

  abbrev u : ℕ
  u = first_place n (unknown_at level b)

  pub verdict-hit : h < n → verdict_below n level b s ≡ Hit h
  verdict-hit l = ap (λ (t : Bool). cond t (Hit h) (cond (ltb u n) (Unknown u) Clear)) (lt-ltb h n l)

  no_hit : n ≤ h → verdict_below n level b s ≡ cond (ltb u n) (Unknown u) Clear
  no_hit l = ap (λ (t : Bool). cond t (Hit h) (cond (ltb u n) (Unknown u) Clear)) (le-ltb h n l)

  pub verdict-clear : n ≤ h → n ≤ u → verdict_below n level b s ≡ Clear
  verdict-clear l k = no_hit l ∙ ap (λ (t : Bool). cond t (Unknown u) Clear) (le-ltb u n k)

-- ---- equal bounds and slacks

pub verdict-cong : (n : ℕ) (level : ℤ) (b s b' s' : ℕ → ℤ) → ((k : ℕ) → k < n → b k ≡ b' k) → ((k : ℕ) → k < n → s k ≡ s' k) → verdict_below n level b s ≡ verdict_below n level b' s'
verdict-cong n level b s b' s' e f =
    ap₂ (λ (x y : ℕ). cond (ltb x n) (Hit x) (cond (ltb y n) (Unknown y) Clear))
    (first_place-cong n (hit_at level b s) (hit_at level b' s') (λ k l. ap₂ (λ (x y : ℤ). reaches level (x -ℤ y)) (e k l) (f k l)))
    (first_place-cong n (unknown_at level b) (unknown_at level b') (λ k l. ap (reaches level) (e k l)))
