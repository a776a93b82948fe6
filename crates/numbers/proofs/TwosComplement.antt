-- Laws of `twos_complement` and `signed_at`, once for every width. In order: the numbers that stand for themselves; those that
-- stand for numbers below 0; the range; as `cast_signed` reads the bits. Assumes nothing.
use mathlib.Core.Path.{◌≡◌, refl, sym, ap, ap₂, subst, ◌∙◌}
use mathlib.Core.List.{List}
use Prim.Native.Nat.{ℕ, suc, ◌*◌, ◌-◌, ◌^◌, ◌≤◌, ◌<◌}
use native.Mathlib.Nat.{le_refl}
use native.Mathlib.Decide.{dec_lt}
use native.Mathlib.Omega.{arith}
use borrow.Author.Tests.{lt-ltb, le-ltb}
use lib.IntN.{ℤ, pos, negsuc, ◌-ℤ◌}
use mir.Syntax.{Width, w8, w16, w32, w64, w128}
use mir.Val.{SFits, bytes, bits, hbits, to_z}
use mir.Facts.{to_z_pos, to_z-neg}
use Rattle.integers.proofs.SignedParts.{v, #, ◌⊖◌, eq! }
use Rattle.numbers.specs.Numbers.{little_endian, twos_complement, signed_at}
use Rattle.integers.proofs.Machine.{AllBytes}
use Rattle.numbers.proofs.LittleEndian.{little_endian-lt}

module _ (half n : ℕ) where
  pub twos_complement-low : n < half → twos_complement half n ≡ pos n
  twos_complement-low h = simp (lt-ltb n half h)

  module _ (low : half ≤ n) (high : n < 2 * half) where
    -- what is left to the largest number
    left-small : half - 1 - (n - half) < half
    left-small = omega arith

    pub twos_complement-high : twos_complement half n ≡ negsuc (half - 1 - (n - half))
    twos_complement-high =
        simp (le-ltb n half low) (eq! (# n ⊖ # (2 * half)) (v (negsuc (half - 1 - (n - half)))) (omega arith))

    -- the same number as a program makes it: -1 less what is left
    module _ (w : Width) (fits : half ≤ 2 ^ hbits w) where
      pub twos_complement-difference : negsuc 0 -ℤ to_z w (half - 1 - (n - half)) ≡ twos_complement half n
      twos_complement-difference =
          ap (λ (z : ℤ). negsuc 0 -ℤ z) (to_z_pos w (omega (arith, left-small)))
          ∙ eq! (v (negsuc 0) ⊖ # (half - 1 - (n - half))) (v (negsuc (half - 1 - (n - half)))) (omega arith)
          ∙ sym twos_complement-high

  -- ---- the range

  pub twos_complement-fits : (w : Width) → half ≤ 2 ^ hbits w → n < 2 * half → SFits w (twos_complement half n)
  twos_complement-fits w fits high = elim (dec_lt n half) [ yes l ↦ subst (SFits w) (sym (twos_complement-low l)) (record { sfits = omega arith }) | no g ↦ below-zero (omega (arith, g)) ]
    where
      below-zero : half ≤ n → SFits w (twos_complement half n)
      below-zero low = subst (SFits w) (sym (twos_complement-high low high)) (record { sfits = omega (arith, left-small low high) })

-- the sign is one bit of a width's bytes
pub half_of : (w : Width) → 2 ^ (8 * bytes w - 1) ≡ 2 ^ hbits w
half_of w8 = refl
half_of w16 = refl
half_of w32 = refl
half_of w64 = refl
half_of w128 = refl

pub twice-half-of : (w : Width) → 2 ^ (8 * bytes w) ≡ 2 * 2 ^ hbits w
twice-half-of w8 = refl
twice-half-of w16 = refl
twice-half-of w32 = refl
twice-half-of w64 = refl
twice-half-of w128 = refl

-- A signed number of a width's bytes fits the width: `signed_at-fits w32 l at b : SFits w32 (signed_at 4 l at)`.
pub signed_at-fits : (w : Width) (l : List ℕ) (at : ℕ) → AllBytes l → SFits w (signed_at (bytes w) l at)
signed_at-fits w l at b =
    let n = little_endian (bytes w) l at in
    let small = little_endian-lt (bytes w) l at b in
    subst (λ (half : ℕ). SFits w (twos_complement half n)) (sym (half_of w))
    (twos_complement-fits (2 ^ hbits w) n w (le_refl (2 ^ hbits w)) (omega (arith, small, twice-half-of w)))

-- ---- the bits of a width

all-bits-of : (w : Width) → 2 ^ bits w ≡ 2 * 2 ^ hbits w
all-bits-of w8 = refl
all-bits-of w16 = refl
all-bits-of w32 = refl
all-bits-of w64 = refl
all-bits-of w128 = refl

pub twos_complement-bits : (w : Width) (n : ℕ) → n < 2 ^ bits w → to_z w n ≡ twos_complement (2 ^ hbits w) n
twos_complement-bits w n h =
    let half = 2 ^ hbits w in
    let high : n < 2 * half = omega (arith, all-bits-of w) in
    elim (dec_lt n half) [
      | yes l ↦ to_z_pos w l ∙ sym (twos_complement-low half n l)
      | no g ↦
          let k = half - 1 - (n - half) in
          let is : 2 ^ bits w - suc k ≡ n = omega (arith, all-bits-of w, g) in
          ap (to_z w) (sym is) ∙ to_z-neg w k (omega (arith, g)) ∙ sym (twos_complement-high half n (omega (arith, g)) high)
    ]

-- A number of a width's bytes whose bits are read as a signed one: `signed_at-bits w32 l at b n e` is of 4 bytes.
pub signed_at-bits : (w : Width) (l : List ℕ) (at : ℕ) → AllBytes l → (n : ℕ) → n ≡ little_endian (bytes w) l at → to_z w n ≡ signed_at (bytes w) l at
signed_at-bits w l at b n e =
    let small = little_endian-lt (bytes w) l at b in
    twos_complement-bits w n (omega (arith, e, small, twice-half-of w, all-bits-of w))
    ∙ ap₂ twos_complement (sym (half_of w)) e
