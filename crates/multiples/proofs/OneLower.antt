-- Verdicts 5: a level that is one count lower has the verdict, word and step, that the level had before 2026-09. Assumes nothing.
use mathlib.Core.Path.{◌≡◌, refl, ap₂}
use mathlib.Core.Bool.{Bool, true, false, cond}
use Prim.Native.Nat.{ℕ}
use native.Mathlib.Omega.{arith}
use lib.Dec.{ltb}
use lib.IntN.{ℤ, pos, ◌-ℤ◌}
use lib.Signed.{le_z}
use Rattle.integers.proofs.SignedParts.{v, #, ◌⊕◌, ◌⊖◌, le!, le?}
use Rattle.integers.proofs.Order.{⩽-of-le_z, lt-of-le_z-false}
use Rattle.reachability.specs.Verdicts.{reaches, hit_at, unknown_at, verdict_below}
use Rattle.reachability.specs.declared.verdicts.Verdict.TheVariants.{Hit, Unknown, Clear}
use Rattle.reachability.proofs.FirstPlace.{first_place-cong}
use Rattle.reachability.proofs.VerdictLaws.{reaches-above, reaches-not}
use Rattle.multiples.specs.OneLower.{verdict_before}

-- of whole numbers, those above the lower level are those at the level or above
reaches-lower-one : (level x : ℤ) → reaches (level -ℤ pos 1) x ≡ le_z level x
reaches-lower-one level x = told (le_z level x) refl
  where
    told : (t : Bool) → le_z level x ≡ t → reaches (level -ℤ pos 1) x ≡ t
    told true t = reaches-above (level -ℤ pos 1) x (le! (v level ⊖ # 1 ⊕ # 1) (v x) (omega (arith, le? (v level) (v x) (⩽-of-le_z level x t))))
    told false f = reaches-not (level -ℤ pos 1) x (le! (v x) (v level ⊖ # 1) (omega (arith, le? (v x ⊕ # 1) (v level) (lt-of-le_z-false level x f))))

pub verdict-one-lower : (n : ℕ) (level : ℤ) (b s : ℕ → ℤ) → verdict_below n (level -ℤ pos 1) b s ≡ verdict_before n level b s
verdict-one-lower n level b s =
    ap₂ (λ (x y : ℕ). cond (ltb x n) (Hit x) (cond (ltb y n) (Unknown y) Clear))
    (first_place-cong n (hit_at (level -ℤ pos 1) b s) (λ k. le_z level (b k -ℤ s k)) (λ k l. reaches-lower-one level (b k -ℤ s k)))
    (first_place-cong n (unknown_at (level -ℤ pos 1) b) (λ k. le_z level (b k)) (λ k l. reaches-lower-one level (b k)))
