-- A bound less its slack beyond an end of i64: below it, it reaches no level, and above it each. Assumes nothing.
use mathlib.Core.Path.{◌≡◌}
use mathlib.Core.Bool.{true, false}
use native.Mathlib.Omega.{arith}
use lib.IntN.{ℤ, pos, negsuc, ◌+ℤ◌, ◌-ℤ◌}
use lib.Signed.{le_z, lt_z}
use mir.Syntax.{w64}
use mir.Val.{SFits}
use Rattle.integers.specs.Whole.{◌⩽◌}
use Rattle.integers.proofs.SignedParts.{v, #, ◌⊕◌, ◌⊖◌, le!, le?}
use Rattle.integers.proofs.Order.{lt-of-lt_z}
use Rattle.reachability.specs.Verdicts.{reaches}
use Rattle.reachability.proofs.VerdictLaws.{reaches-above, reaches-not}

abbrev least : ℤ
least = negsuc 9223372036854775807

abbrev most : ℤ
most = pos 9223372036854775807

least-le : (z : ℤ) → SFits w64 z → least ⩽ z
least-le (pos k) f = le! (v least) (# k) (omega arith)
least-le (negsuc k) f = le! (v least) (v (negsuc k)) (omega (arith, f.sfits))

le-most : (z : ℤ) → SFits w64 z → z ⩽ most
le-most (pos k) f = le! (# k) (v most) (omega (arith, f.sfits))
le-most (negsuc k) f = le! (v (negsuc k)) (v most) (omega arith)

module _ (slack : ℤ) (fs : SFits w64 slack) where
  -- the difference is below every level
  pub hit-below : le_z (pos 0) slack ≡ true → (level bound : ℤ) → SFits w64 level → lt_z bound (least +ℤ slack) ≡ true → reaches level (bound -ℤ slack) ≡ false
  hit-below t level bound f b = reaches-not level (bound -ℤ slack) (le! (v bound ⊖ v slack) (v level) (omega (arith, le? (v least) (v level) (least-le level f), le? (v bound ⊕ # 1) (v least ⊕ v slack) (lt-of-lt_z bound (least +ℤ slack) b))))

  -- the difference is above every level
  pub hit-above : le_z (pos 0) slack ≡ false → (level bound : ℤ) → SFits w64 level → lt_z (most +ℤ slack) bound ≡ true → reaches level (bound -ℤ slack) ≡ true
  hit-above t level bound f b = reaches-above level (bound -ℤ slack) (le! (v level ⊕ # 1) (v bound ⊖ v slack) (omega (arith, le? (v level) (v most) (le-most level f), le? (v most ⊕ v slack ⊕ # 1) (v bound) (lt-of-lt_z (most +ℤ slack) bound b))))
