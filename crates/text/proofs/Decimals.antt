-- Decimal digits from the last to the first: the digits still to come are those of the rest. Assumes nothing.
use mathlib.Core.Path.{◌≡◌, refl, sym, ap, ◌∙◌}
use mathlib.Core.Bool.{Bool, true, false, cond}
use mathlib.Core.List.{List, [], ◌∷◌, ◌++◌, append_assoc, append-nil}
use Prim.Native.Nat.{ℕ, zero, suc, ◌+◌, ◌*◌, ◌/◌, ◌%◌, ◌^◌, ◌≤◌, ◌<◌}
use native.Mathlib.Decide.{dec_lt}
use native.Mathlib.Nat.{pow-suc, pow-zero, one-le-pow}
use native.Mathlib.Omega.{arith}
use borrow.Author.Tests.{lt-ltb, le-ltb}
use lib.Dec.{ltb}
use lib.ListN.{length, length-append}
use lib.IntN.{ℤ, pos, negsuc, nat_abs}
use lib.Signed.{lt_z}
use Rattle.std.specs.Prelude.{Option, None, Some, IfNone, IfSome, unwrap_or}
use Rattle.integers.proofs.SignedParts.{v, #, ◌⊕◌, le?}
use Rattle.integers.proofs.Order.{lt-of-lt_z, le-of-lt_z-false}
use Rattle.text.specs.Text.{word, digit, decimal_for, decimal, signed_decimal}

last-digit : (places n : ℕ) → n < 10 → decimal_for (suc places) n ≡ digit n ∷ []
last-digit places n h = ap (λ (t : Bool). cond t (digit n ∷ []) (decimal_for places (n / 10) ++ (digit (n % 10) ∷ []))) (lt-ltb n 10 h)

more-digits : (places n : ℕ) → 10 ≤ n → decimal_for (suc places) n ≡ decimal_for places (n / 10) ++ (digit (n % 10) ∷ [])
more-digits places n h = ap (λ (t : Bool). cond t (digit n ∷ []) (decimal_for places (n / 10) ++ (digit (n % 10) ∷ []))) (le-ltb n 10 h)

length-decimal_for : (places n : ℕ) → length (decimal_for places n) ≤ places
length-decimal_for zero n = omega arith
length-decimal_for (suc places) n = cases (ltb n 10) (length-decimal_for places (n / 10))
  where
    cases : (t : Bool) → length (decimal_for places (n / 10)) ≤ places → length (cond t (digit n ∷ []) (decimal_for places (n / 10) ++ (digit (n % 10) ∷ []))) ≤ suc places
    cases true h = omega arith
    cases false h = omega (arith, length-append (decimal_for places (n / 10)) (digit (n % 10) ∷ []), h)

pub length-decimal : (n : ℕ) → length (decimal n) ≤ 20
unfolding decimal
length-decimal n = length-decimal_for 20 n

-- t has the last digits of n, and the rest's are still to come.
pub record Digits (n rest : ℕ) (t : List ℕ) : Type 0 where
  pub places : ℕ
  pub whole : decimal n ≡ decimal_for places rest ++ t

pub digits-none : (n : ℕ) → Digits n n []
unfolding decimal
digits-none n = record { places = 20; whole = sym (append-nil (decimal_for 20 n)) }

-- one digit more, which is the first one where the rest is below ten
pub digits_more : (n rest : ℕ) (t : List ℕ) → length t < length (decimal n) → Digits n rest t → Digits n (rest / 10) (digit (rest % 10) ∷ t)
digits_more n rest t more d = cases d.places d.whole
  where
    cases : (places : ℕ) → decimal n ≡ decimal_for places rest ++ t → Digits n (rest / 10) (digit (rest % 10) ∷ t)
    cases zero whole = absurd (omega (arith, ap length whole))
    cases (suc places) whole = elim (dec_lt rest 10) [ yes l ↦ first l | no g ↦ later (omega (arith, g)) ]
      where
        first : rest < 10 → Digits n (rest / 10) (digit (rest % 10) ∷ t)
        first l =
            let same : rest ≡ rest % 10 = omega arith in
            record { places = 0; whole = whole ∙ ap (λ (x : List ℕ). x ++ t) (last-digit places rest l) ∙ ap (λ (k : ℕ). digit k ∷ t) same }

        later : 10 ≤ rest → Digits n (rest / 10) (digit (rest % 10) ∷ t)
        later g =
            record {
              places = places;
              whole = whole ∙ ap (λ (x : List ℕ). x ++ t) (more-digits places rest g) ∙ append_assoc (decimal_for places (rest / 10)) (digit (rest % 10) ∷ []) t;
            }

-- as many digits as there are, are all of them
pub digits-all : (n rest : ℕ) (t : List ℕ) → length t ≡ length (decimal n) → Digits n rest t → decimal n ≡ t
digits-all n rest t all d = cases (decimal_for d.places rest) d.whole
  where
    cases : (left : List ℕ) → decimal n ≡ left ++ t → decimal n ≡ t
    cases [] whole = whole
    cases (x ∷ left) whole = absurd (omega (arith, ap length whole, length-append left t))

-- ---- how many there are

-- by the largest power of ten that is no larger than the number
length-decimal_by : (places k n : ℕ) → k < places → 10 ^ k ≤ n → n < 10 * 10 ^ k → length (decimal_for places n) ≡ k + 1
length-decimal_by zero k n room low high = absurd (omega arith)
length-decimal_by (suc places) zero n room low high = ap length (last-digit places n (omega (arith, high, pow-zero 10)))
length-decimal_by (suc places) (suc k) n room low high =
    let more = length-decimal_by places k (n / 10) (omega arith) (omega (arith, low, pow-suc 10 k)) (omega (arith, high, pow-suc 10 k)) in
    omega (arith, more, ap length (more-digits places n (omega (arith, low, pow-suc 10 k, one-le-pow k 10 (omega arith)))), length-append (decimal_for places (n / 10)) (digit (n % 10) ∷ []))

-- by the logarithm, which 0 has none of
pub decimal-places : (n : ℕ) (log : Option ℕ) → IfNone log (n ≡ 0) → IfSome log (λ k. 10 ^ k ≤ n) → IfSome log (λ k. n < 10 * 10 ^ k) → IfSome log (λ k. k < 20) → unwrap_or log 0 + 1 ≡ length (decimal n)
unfolding decimal
decimal-places n None zeros low high few = sym (ap length (last-digit 19 n (omega (arith, zeros))))
decimal-places n (Some k) zeros low high few = sym (length-decimal_by 20 k n few low high)

-- ---- with a sign

pub signed_below : (x : ℤ) → lt_z x (pos 0) ≡ true → word "-" ++ decimal (nat_abs x) ≡ signed_decimal x
signed_below (pos n) t = absurd (omega (arith, le? (v (pos n) ⊕ # 1) (# 0) (lt-of-lt_z (pos n) (pos 0) t)))
signed_below (negsuc n) t = refl

pub signed_above : (x : ℤ) → lt_z x (pos 0) ≡ false → decimal (nat_abs x) ≡ signed_decimal x
signed_above (pos n) t = refl
signed_above (negsuc n) t = absurd (omega (arith, le? (# 0) (v (negsuc n)) (le-of-lt_z-false (negsuc n) (pos 0) t)))
