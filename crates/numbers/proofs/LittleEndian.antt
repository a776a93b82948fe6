-- Laws of `little_endian`. In order: one byte more; bytes beyond the end; the range; from an offset on; the same number by std's
-- `from_le_bytes`. Assumes nothing.
use mathlib.Core.Path.{◌≡◌, refl, ap}
use mathlib.Core.List.{List}
use Prim.Native.Nat.{ℕ, zero, suc, ◌+◌, ◌*◌, ◌^◌, ◌≤◌, ◌<◌}
use native.Mathlib.Nat.{lt_of_lt_of_le, mul-le-mul_left, pow-suc}
use native.Mathlib.Omega.{arith}
use lib.ListN.{length, drop, get_or, get_or-eq_default}
use Rattle.std.proofs.Common.{get_or-drop}
use lib.Pow.{pow-add, pow_mono}
use Rattle.std.specs.Int.{byte_worth, sum_through}
use Rattle.integers.proofs.Machine.{AllBytes}
use Rattle.numbers.specs.Numbers.{little_endian}

-- one byte more in front
pub little_endian-suc : (k : ℕ) (l : List ℕ) (at : ℕ) → little_endian (suc k) l at ≡ get_or l at 0 + 256 * little_endian k l (suc at)
unfolding little_endian
little_endian-suc k l at = refl

-- beyond the end every byte counts as 0
pub little_endian-beyond : (k : ℕ) (l : List ℕ) (at : ℕ) → length l ≤ at → little_endian k l at ≡ 0
unfolding little_endian
little_endian-beyond zero l at h = refl
little_endian-beyond (suc k) l at h = omega (arith, get_or-eq_default l 0 {n = at} h, little_endian-beyond k l (suc at) (omega arith))

-- k bytes are a number of 8 × k bits.
pub little_endian-lt : (k : ℕ) (l : List ℕ) (at : ℕ) → AllBytes l → little_endian k l at < 2 ^ (8 * k)
unfolding little_endian
little_endian-lt zero l at b = omega arith
little_endian-lt (suc k) l at b = omega (arith, (b at).fits, little_endian-lt k l (suc at) b, ap (λ (i : ℕ). 2 ^ i) more, pow-add 2 8 (8 * k))
  where
    more : 8 * suc k ≡ 8 + 8 * k
    more = omega arith

-- and of as many bits as more bytes have
pub little_endian-lt-of-le : (k m : ℕ) (l : List ℕ) (at : ℕ) → AllBytes l → k ≤ m → little_endian k l at < 2 ^ (8 * m)
little_endian-lt-of-le k m l at b h = lt_of_lt_of_le (little_endian-lt k l at b) (pow_mono (mul-le-mul_left 8 h))

-- in the bytes from an offset on
pub little_endian-drop : (k : ℕ) (l : List ℕ) (at i : ℕ) → little_endian k (drop at l) i ≡ little_endian k l (at + i)
unfolding little_endian
little_endian-drop zero l at i = refl
little_endian-drop (suc k) l at i =
    let next : at + suc i ≡ suc (at + i) = omega arith in
    omega (arith, get_or-drop at l i 0, little_endian-drop k l at (suc i), ap (little_endian k l) next)

-- ---- by `from_le_bytes`, of bytes that stand in an array

-- one byte more behind
little_endian-last : (k : ℕ) (l : List ℕ) (at : ℕ) → little_endian k l at + get_or l (at + k) 0 * 256 ^ k ≡ little_endian (suc k) l at
unfolding little_endian
little_endian-last zero l at = let here : at + 0 ≡ at = omega arith in omega (arith, ap (λ (j : ℕ). get_or l j 0) here)
little_endian-last (suc k) l at =
    let place : at + suc k ≡ suc at + k = omega arith in
    let here = ap (λ (j : ℕ). get_or l j 0 * 256 ^ suc k) place in
    let worth = ap (λ (p : ℕ). get_or l (suc at + k) 0 * p) (pow-suc 256 k) in
    omega (arith, here, worth, little_endian-last k l (suc at))

-- `from_le_bytes` of an array of k + 1 bytes that stand in l from `at` on, as it computes at each width
pub little_endian-read : (k : ℕ) (xs l : List ℕ) (at : ℕ) → ((j : ℕ) → j < suc k → get_or xs j 0 ≡ get_or l (at + j) 0) → sum_through (λ i. byte_worth i (get_or xs i 0)) k ≡ little_endian (suc k) l at
unfolding little_endian
little_endian-read zero xs l at same = let here : at + 0 ≡ at = omega arith in omega (arith, ap (λ (j : ℕ). get_or l j 0) here, same 0 (omega arith))
little_endian-read (suc k) xs l at same =
    let before = little_endian-read k xs l at (λ j h. same j (omega (arith, h))) in
    let here = same (suc k) (omega arith) in
    omega (arith, before, ap (λ (b : ℕ). b * 256 ^ suc k) here, little_endian-last (suc k) l at)
