-- The bytes of a number as the library has them are those of File 2, of a signed one too; a signed one's are the lowest of its 64
-- bits, for every width; the length of a row's six entries. Assumes nothing.
use mathlib.Core.Path.{◌≡◌, refl, sym, ap, ap₂, ◌∙◌}
use mathlib.Core.List.{List, ◌∷◌}
use Prim.Native.Nat.{ℕ, zero, suc, ◌+◌, ◌*◌, ◌-◌, ◌/◌, ◌%◌, ◌^◌, ◌≤◌, ◌<◌}
use native.Mathlib.Nat.{pow-suc, pow-zero, div-div-eq-div-mul}
use native.Mathlib.Omega.{arith}
use lib.IntN.{ℤ, pos, negsuc}
use lib.ListN.{length}
use lib.Pow.{pow-add, pow_pos}
use lib.Signed.{mag}
use mir.Syntax.{Width}
use mir.Val.{of_z, bits}
use Rattle.std.specs.Int.{byte_at, bytes_low_first}
use Rattle.integers.specs.Sums.{matrix}
use Rattle.numbers.specs.Numbers.{bytes_of, signed_bytes}
use Rattle.numbers.proofs.Written.{shifted, shifted_none, shifted-suc, length-signed_bytes, bytes_of-above}
use Rattle.text.proofs.Each.{length-each}
use Rattle.writer.specs.Writing.{six_bytes}

-- ---- the bytes of a number

divided : (i n : ℕ) → shifted i n ≡ n / 256 ^ i
divided zero n =
    let one : n / 1 ≡ n = omega arith in
    shifted_none n ∙ sym (ap (λ (d : ℕ). n / d) (pow-zero 256) ∙ one)
divided (suc i) n =
    let more : 256 ^ i * 256 ≡ 256 ^ suc i = omega (arith, pow-suc 256 i) in
    shifted-suc i n ∙ ap (λ (m : ℕ). m / 256) (divided i n) ∙ div-div-eq-div-mul n (256 ^ i) 256 ∙ ap (λ (d : ℕ). n / d) more

byte-shifted : (i n : ℕ) → byte_at i n ≡ shifted i n % 256
byte-shifted zero n = ap (λ (m : ℕ). m % 256) (sym (shifted_none n))
byte-shifted (suc i) n = ap (λ (m : ℕ). m % 256) (sym (divided (suc i) n))

bytes-from : (k i n : ℕ) → bytes_low_first i k n ≡ bytes_of k (shifted i n)
unfolding bytes_of
bytes-from zero i n = refl
bytes-from (suc k) i n =
    ap₂ (λ (b : ℕ) (t : List ℕ). b ∷ t) (byte-shifted i n) (bytes-from k (suc i) n ∙ ap (bytes_of k) (shifted-suc i n))

pub unsigned-bytes : (k n : ℕ) → bytes_low_first 0 k n ≡ bytes_of k n
unsigned-bytes k n = bytes-from k 0 n ∙ ap (bytes_of k) (shifted_none n)

-- ---- and of a signed one, by its bits

pub signed-by-bits : (w : Width) (k : ℕ) → bits w ≡ 8 * k → (z : ℤ) → bytes_low_first 0 k (of_z w z) ≡ signed_bytes k z
signed-by-bits w k e (pos n) = unsigned-bytes k n
signed-by-bits w k e (negsuc n) = unsigned-bytes k (of_z w (negsuc n)) ∙ ap (λ (b : ℕ). bytes_of k (2 ^ b - suc n)) e

-- ---- a signed number's bytes are the lowest of its 64 bits

-- A signed number as 64 bits, in two's complement (File 2).
abbrev pub bits_of : ℤ → ℕ
bits_of (pos n) = n
bits_of (negsuc n) = 2 ^ 64 - suc n

-- one below 0: its 64 bits are its k bytes, and ones above them
bits_below : (k n : ℕ) → k ≤ 8 → n < 2 ^ (8 * k) → 2 ^ 64 - suc n ≡ 2 ^ (8 * k) - suc n + 2 ^ (8 * k) * (2 ^ (64 - 8 * k) - 1)
bits_below k n h small = split (2 ^ (8 * k)) (2 ^ (64 - 8 * k)) (ap (λ (i : ℕ). 2 ^ i) all ∙ pow-add 2 (8 * k) (64 - 8 * k)) (pow_pos (64 - 8 * k)) small
  where
    all : 64 ≡ 8 * k + (64 - 8 * k)
    all = omega arith

    split : (p q : ℕ) → 2 ^ 64 ≡ p * q → 0 < q → n < p → 2 ^ 64 - suc n ≡ p - suc n + p * (q - 1)
    split p q e l s = omega (arith, mul-sub-one p q l)
      where
        less_one : (q : ℕ) → suc q - 1 ≡ q
        less_one q = omega arith

        mul-sub-one : (p q : ℕ) → 0 < q → p * (q - 1) + p ≡ p * q
        mul-sub-one p zero l = absurd (omega arith)
        mul-sub-one p (suc q) l = omega (arith, ap (λ (m : ℕ). p * m) (less_one q))

pub bytes_of_bits : (k : ℕ) (z : ℤ) → k ≤ 8 → mag z < 2 ^ (8 * k) → bytes_of k (bits_of z) ≡ signed_bytes k z
bytes_of_bits k (pos n) h small = refl
bytes_of_bits k (negsuc n) h small = ap (bytes_of k) (bits_below k n h small) ∙ bytes_of-above k (2 ^ (8 * k) - suc n) (2 ^ (64 - 8 * k) - 1)

-- ---- the six entries of a row

pub length-six_bytes : (xs : List ℤ) (k : ℕ) → length (six_bytes xs k) ≡ 24
unfolding six_bytes
length-six_bytes xs k = length-each 6 4 (λ i. signed_bytes 4 (matrix xs k i)) (λ i. length-signed_bytes 4 (matrix xs k i))
