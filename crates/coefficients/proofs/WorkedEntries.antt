-- Figures 23: the worked entries are what `entry_of_bits` answers. By computation. Assumes nothing.
use Rattle.std.proofs.Common.{refl}
use Rattle.coefficients.specs.Binary64.{binary64_unit, magnitude_of}
use Rattle.integers.specs.Whole.{nearest_even}
use Rattle.coefficients.specs.Entries.{fitted_ok, fitted_entry, entry_of_bits}
use Rattle.coefficients.specs.Cases.{worked, Answered}

pub worked-entries : Answered worked
unfolding worked binary64_unit magnitude_of nearest_even fitted_ok fitted_entry entry_of_bits
worked-entries = (refl, (refl, (refl, (refl, (refl, (refl, (refl, (refl, (refl, (refl, (refl, (refl, (refl, (refl, (refl, (refl, (refl, tt)))))))))))))))))
