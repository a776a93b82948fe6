-- Numbers as bytes, and read again. In order: how many bytes there are; one byte more, at the end; what stands above them; a number of k
-- bytes read wherever it stands; a signed one.
-- Assumes nothing.
use mathlib.Core.Path.{◌≡◌, refl, sym, ap, ap₂, ◌∙◌}
use mathlib.Core.List.{List, [], ◌∷◌, ◌++◌}
use Prim.Native.Nat.{ℕ, zero, suc, ◌+◌, ◌*◌, ◌-◌, ◌/◌, ◌%◌, ◌^◌, ◌<◌}
use native.Mathlib.Nat.{mul_assoc}
use native.Mathlib.Omega.{arith}
use lib.IntN.{ℤ, pos, negsuc}
use lib.ListN.{length, length-append}
use lib.Pow.{pow-add}
use lib.Seq.{append_snoc, get_or-append_seam}
use mir.Syntax.{Width}
use mir.Val.{SFits, bytes, hbits}
use Rattle.numbers.specs.Numbers.{little_endian, twos_complement, signed_at, bytes_of, signed_bytes}
use Rattle.numbers.proofs.TwosComplement.{half_of, twice-half-of, twos_complement-low, twos_complement-high}

-- ---- how many bytes

pub length-bytes_of : (k n : ℕ) → length (bytes_of k n) ≡ k
unfolding bytes_of
length-bytes_of zero n = refl
length-bytes_of (suc k) n = ap suc (length-bytes_of k (n / 256))

pub length-signed_bytes : (k : ℕ) (z : ℤ) → length (signed_bytes k z) ≡ k
length-signed_bytes k (pos n) = length-bytes_of k n
length-signed_bytes k (negsuc n) = length-bytes_of k (2 ^ (8 * k) - suc n)

-- ---- one byte more

-- a number without its k lowest bytes
pub shifted : ℕ → ℕ → ℕ
shifted zero n = n
shifted (suc k) n = shifted k (n / 256)

pub shifted_none : (n : ℕ) → shifted 0 n ≡ n
unfolding shifted
shifted_none n = refl

pub shifted-suc : (k n : ℕ) → shifted (suc k) n ≡ shifted k n / 256
unfolding shifted
shifted-suc zero n = refl
shifted-suc (suc k) n = shifted-suc k (n / 256)

pub bytes_of-none : (n : ℕ) → bytes_of 0 n ≡ []
unfolding bytes_of
bytes_of-none n = refl

-- one byte more, behind the others
pub bytes_of-last : (k n : ℕ) → bytes_of k n ++ (shifted k n % 256 ∷ []) ≡ bytes_of (suc k) n
unfolding bytes_of shifted
bytes_of-last zero n = refl
bytes_of-last (suc k) n = ap (λ (t : List ℕ). n % 256 ∷ t) (bytes_of-last k (n / 256))

-- ---- what stands above the k lowest bytes

pub bytes_of-above : (k n y : ℕ) → bytes_of k (n + 2 ^ (8 * k) * y) ≡ bytes_of k n
unfolding bytes_of
bytes_of-above zero n y = refl
bytes_of-above (suc k) n y =
    ap (λ (p : ℕ). bytes_of (suc k) (n + p)) wide
    ∙ ap₂ (λ (b r : ℕ). b ∷ bytes_of k r) (lowest n (2 ^ (8 * k) * y)) (others n (2 ^ (8 * k) * y))
    ∙ ap (λ (t : List ℕ). n % 256 ∷ t) (bytes_of-above k (n / 256) y)
  where
    more : 8 * suc k ≡ 8 + 8 * k
    more = omega arith

    wide : 2 ^ (8 * suc k) * y ≡ 256 * (2 ^ (8 * k) * y)
    wide = ap (λ (i : ℕ). 2 ^ i * y) more ∙ ap (λ (p : ℕ). p * y) (pow-add 2 8 (8 * k)) ∙ mul_assoc 256 (2 ^ (8 * k)) y

    lowest : (n q : ℕ) → (n + 256 * q) % 256 ≡ n % 256
    lowest n q = omega arith

    others : (n q : ℕ) → (n + 256 * q) / 256 ≡ n / 256 + q
    others n q = omega arith

-- ---- a number of k bytes

one_more : (k : ℕ) → 2 ^ (8 * suc k) ≡ 256 * 2 ^ (8 * k)
one_more k = ap (λ (i : ℕ). 2 ^ i) more ∙ pow-add 2 8 (8 * k)
  where
    more : 8 * suc k ≡ 8 + 8 * k
    more = omega arith

-- with anything before it and anything behind it
pub little_endian-bytes_of : (k n : ℕ) (before after : List ℕ) → n < 2 ^ (8 * k) → little_endian k (before ++ (bytes_of k n ++ after)) (length before) ≡ n
unfolding bytes_of little_endian
little_endian-bytes_of zero n before after h = omega arith
little_endian-bytes_of (suc k) n before after h =
    let byte : ℕ = n % 256 in
    let rest : List ℕ = bytes_of k (n / 256) ++ after in
    let here = get_or-append_seam before byte rest 0 in
    let moved : length (before ++ (byte ∷ [])) ≡ suc (length before) = simp length-append (omega arith) in
    let next =
    ap₂ (little_endian k) (sym (append_snoc before byte rest)) (sym moved)
    ∙ little_endian-bytes_of k (n / 256) (before ++ (byte ∷ [])) after (omega (arith, h, one_more k)) in
    omega (arith, here, next)

-- ---- a signed number

-- `signed_at-signed_bytes w32 z ..` is of 4 bytes, with w64 of 8.
pub signed_at-signed_bytes : (w : Width) (z : ℤ) (before after : List ℕ) → SFits w z → signed_at (bytes w) (before ++ (signed_bytes (bytes w) z ++ after)) (length before) ≡ z
signed_at-signed_bytes w (pos n) before after f =
    let read = little_endian-bytes_of (bytes w) n before after (omega (arith, f.sfits, twice-half-of w)) in
    ap₂ twos_complement (half_of w) read ∙ twos_complement-low (2 ^ hbits w) n (omega (arith, f.sfits))
signed_at-signed_bytes w (negsuc n) before after f =
    let n' : ℕ = 2 ^ (8 * bytes w) - suc n in
    let read = little_endian-bytes_of (bytes w) n' before after (omega (arith, f.sfits, twice-half-of w)) in
    let left : 2 ^ hbits w - 1 - (n' - 2 ^ hbits w) ≡ n = omega (arith, f.sfits, twice-half-of w) in
    ap₂ twos_complement (half_of w) read
    ∙ twos_complement-high (2 ^ hbits w) n' (omega (arith, f.sfits, twice-half-of w)) (omega (arith, f.sfits, twice-half-of w))
    ∙ ap negsuc left
