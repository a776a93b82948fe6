-- `coefficients::value_of`: a pattern above that of the infinity, with the sign's bit taken off, is a NaN's.
-- Assumes nothing.
use Rattle.integers.proofs.Basics.{◌≡◌, refl, sym, subst, ◌∙◌, Bool, true}
use Rattle.std.proofs.Common.{not, T, le-ltb, lt-ltb}
use lib.Ieee.{Float, nan, inf, fin, binary64, of_bits, is_nan}
use lib.Ieee.Bits.{nan_bits_is, nan_bits_above}
use Rattle.coefficients.proofs.value_of.Goals as goal

nan-of : (x : Float) → is_nan x ≡ true → nan ≡ x
unfolding is_nan
nan-of nan e = refl
nan-of (inf s) e = absurd (mathlib.Core.Bool.false≢true e)
nan-of (fin s m e) h = absurd (mathlib.Core.Bool.false≢true h)

pub returns-then-bits-gt-INFINITY_BITS : goal.returns-then-bits-gt-INFINITY_BITS
unfolding of_bits
returns-then-bits-gt-INFINITY_BITS c = nan-of (of_bits binary64 c.args.bits) (sym (nan_bits_is binary64 c.args.bits) ∙ nan_bits_above binary64 c.args.bits ∙ lt-ltb _ _ c.if-bits-gt-INFINITY_BITS.true)

pub float_from_bits-result : goal.float_from_bits-result
float_from_bits-result c = subst (λ (b : Bool). T (not b)) (sym (nan_bits_above binary64 c.args.bits ∙ le-ltb _ _ c.if-bits-gt-INFINITY_BITS.false)) tt
