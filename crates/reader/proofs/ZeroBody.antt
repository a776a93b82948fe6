-- A body of 24 zero bytes: its six entries are zero. Assumes nothing.
use mathlib.Core.Path.{◌≡◌, refl, ap}
use mathlib.Core.Bool.{true}
use Prim.Native.Nat.{ℕ, zero, suc, ◌+◌, ◌*◌, ◌^◌}
use native.Mathlib.Omega.{arith}
use lib.Dec.{eqb}
use lib.IntN.{ℤ, pos, nat_abs}
use Rattle.integers.proofs.Machine.{tabulate-cong, get_or-replicate-default}
use Rattle.numbers.specs.Numbers.{little_endian, twos_complement}
use Rattle.columns.specs.Columns.{entry_at, entry_zero, six_at}
use Rattle.filling.specs.Models.{zeros}
use Rattle.reader.specs.LeftOut.{zero_body}

little_endian-zeros : (k at : ℕ) → little_endian k zero_body at ≡ 0
unfolding little_endian
little_endian-zeros zero at = refl
little_endian-zeros (suc k) at = omega (arith, get_or-replicate-default {A = ℕ} 24 at 0, little_endian-zeros k (suc at))

entry_at-zeros : (i : ℕ) → entry_at zero_body 0 i ≡ pos 0
entry_at-zeros i = ap (twos_complement (2 ^ 31)) (little_endian-zeros 4 (0 + 4 * i))

pub six_at-zeros : six_at zero_body 0 ≡ zeros 6
unfolding six_at zeros
six_at-zeros = tabulate-cong 6 {f = entry_at zero_body 0} {g = λ i. pos 0} (λ i h. entry_at-zeros i)

-- so there is nothing beyond n
pub entry_zero-zeros : (i : ℕ) → entry_zero zero_body 0 i ≡ true
entry_zero-zeros i = ap (λ (z : ℤ). eqb (nat_abs z) 0) (entry_at-zeros i)
