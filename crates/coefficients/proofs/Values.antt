-- Binary64 numbers as fractions: what a pattern's value is, what the product with 131,072 is, what is left without the fraction,
-- and when a whole number is below. `HasValue x s a c` of the library says that x is finite, has the sign s, and is a / c in
-- size. Assumes nothing.
use Rattle.std.proofs.Common.{◌≡◌, ℕ, zero, suc, ◌+◌, ◌-◌, ◌*◌, ◌/◌, ◌^◌, ◌<◌, ◌≤◌, min, Bool, true, false, cond, T, eqb, ltb, ℤ, pos, sym, refl, ap, ◌∙◌, subst, ap₂, true≢false, le_trans, le_of_eq, lt_of_lt_of_le, lt_of_le_of_lt, mul-le-mul_right, zero-lt-suc, mul_assoc, div-lt_iff_lt-mul, lt_of_mul-lt-mul_right, mul-lt-mul_of_pos_right, mul-pos, zero-mul, mul-one, mul_right_comm, arith, lit<, lt→ltb, pow_pos, pow-add, ltb-false, ltb-true, le-ltb, lt-ltb, eq-eqb, ne_eqb}
use native.Mathlib.Nat.{zero-div}
use native.Mathlib.Decide.{dec_lt}
use lib.Dec.{eqb-suc-zero}
use lib.Ieee.{Float, nan, inf, fin, binary64, up, down, unlike, odd, round, mul, lt, of_int, to_unsigned, of_fields, of_bits}
use lib.Ieee.Fits.{down_pos}
use lib.Ieee.Exact.{HasValue, odd_sign, round_exact}
use lib.Ieee.Scale.{finite}
use lib.Ieee.Nearest.{div_same}
use lib.Ieee.Back.{round_whole}
use Rattle.coefficients.specs.Binary64.{is_negative, exponent_of, fraction_of, is_finite, significand_of, binary64_unit, magnitude_of}

-- ---- the value of a pattern

pub unit-pos : 0 < binary64_unit
unfolding binary64_unit
unit-pos = pow_pos 1074

-- by the exponent
fields_value : (s : Bool) (x t : ℕ) → ltb x 2047 ≡ true → HasValue (of_fields binary64 s x t) s (cond (eqb x 0) t (2 ^ 52 + t) * 2 ^ (x - 1)) (2 ^ 1074)
unfolding of_fields
fields_value s zero t h = odd_sign 53 s t 0 1074
fields_value s (suc x) t h =
    let value = odd_sign 53 s (2 ^ 52 + t) x 1074 in
    let size : (2 ^ 52 + t) * 2 ^ x ≡ cond (eqb (suc x) 0) t (2 ^ 52 + t) * 2 ^ (suc x - 1) =
    ap₂ (λ (b : Bool) (k : ℕ). cond b t (2 ^ 52 + t) * 2 ^ k) (sym (eqb-suc-zero x)) (omega arith) in
    let exponent : false ≡ eqb (suc x) 2047 = sym (ne_eqb (suc x) 2047 (λ e. omega (arith, e, ltb-true (suc x) 2047 h))) in
    subst (λ (a : ℕ). HasValue (of_fields binary64 s (suc x) t) s a (2 ^ 1074)) size
    (subst (λ (b : Bool). HasValue (cond b (cond (eqb t 0) (inf s) nan) (odd 53 s (2 ^ 52 + t) x 1074)) s ((2 ^ 52 + t) * 2 ^ x) (2 ^ 1074)) exponent value)

pub bits-value : (bits : ℕ) → is_finite bits ≡ true → HasValue (of_bits binary64 bits) (is_negative bits) (magnitude_of bits) binary64_unit
unfolding of_bits binary64_unit magnitude_of
bits-value bits h = fields_value (is_negative bits) (exponent_of bits) (fraction_of bits) h

exponent_lt : (bits : ℕ) → exponent_of bits < 2048
exponent_lt bits = omega arith

no_value : (b s : Bool) (v : Float) → finite (cond true (cond b (inf s) nan) v) ≡ false
no_value true s v = refl
no_value false s v = refl

fields-infinite : (s : Bool) (x t : ℕ) → x < 2048 → ltb x 2047 ≡ false → finite (of_fields binary64 s x t) ≡ false
unfolding of_fields
fields-infinite s zero t l h = absurd (omega (arith, ltb-false 0 2047 h))
fields-infinite s (suc x) t l h =
    let exponent : true ≡ eqb (suc x) 2047 = sym (eq-eqb (suc x) 2047 (omega (arith, l, ltb-false (suc x) 2047 h))) in
    subst (λ (b : Bool). finite (cond b (cond (eqb t 0) (inf s) nan) (odd 53 s (2 ^ 52 + t) x 1074)) ≡ false) exponent (no_value (eqb t 0) s (odd 53 s (2 ^ 52 + t) x 1074))

pub bits-infinite : (bits : ℕ) → is_finite bits ≡ false → finite (of_bits binary64 bits) ≡ false
unfolding of_bits
bits-infinite bits h = fields-infinite (is_negative bits) (exponent_of bits) (fraction_of bits) (exponent_lt bits) h

significand-lt : (bits : ℕ) → significand_of bits < 2 ^ 53
significand-lt bits = cases (eqb (exponent_of bits) 0)
  where
    cases : (b : Bool) → cond b (fraction_of bits) (2 ^ 52 + fraction_of bits) < 2 ^ 53
    cases true = omega arith
    cases false = omega arith

-- ---- the product with 131,072

-- the constant of the code
pub factor : of_bits binary64 0x4100_0000_0000_0000 ≡ fin false 1 (pos 17)
unfolding of_bits
factor = refl

-- it loses nothing: q * 2 ^ k parts have at most 53 digits, and are far below the largest number
product_value : (s : Bool) (m : ℕ) (e : ℤ) (q k : ℕ) → q < 2 ^ 53 → q * 2 ^ k ≤ 2 * 2 ^ 1074 → m * up e * 2 ^ 1074 ≡ q * 2 ^ k * down e
    → HasValue (mul binary64 (fin s m e) (fin false 1 (pos 17))) s (m * up e * 131072) (down e)
unfolding mul
product_value s m e q k small within value = cases s
  where
    d : ℕ
    d = down e

    a : ℕ
    a = m * up e * 131072

    shifted : q * 2 ^ (k + 17) ≡ q * 2 ^ k * 131072
    shifted = ap (λ (x : ℕ). q * x) (pow-add 2 k 17) ∙ sym (mul_assoc q (2 ^ k) (2 ^ 17))

    few : q * 2 ^ (k + 17) < 2 ^ 2098
    few = lt_of_le_of_lt (le_trans (le_of_eq shifted) (mul-le-mul_right 131072 within)) (lit< tt)

    crossed : (x p y : ℕ) → x * p ≡ y * d → x * 131072 * p ≡ y * 131072 * (d * 1)
    crossed x p y h = omega (arith, h)

    exact : (t : Bool) → HasValue (round binary64 t a (d * 1)) t a d
    exact t =
        subst (HasValue (round binary64 t a (d * 1)) t a) (mul-one d)
        (round_exact binary64 t a (d * 1) q (k + 17) (subst (λ (x : ℕ). 0 < x) (sym (mul-one d)) (down_pos e)) small few (crossed (m * up e) (2 ^ 1074) (q * 2 ^ k) value ∙ ap (λ (x : ℕ). x * (d * 1)) (sym shifted)))

    cases : (t : Bool) → HasValue (round binary64 (unlike t false) a (d * 1)) t a d
    cases true = exact true
    cases false = exact false

pub scaled_value : (s t : Bool) (m : ℕ) (e : ℤ) (bits : ℕ) → HasValue (fin s m e) t (magnitude_of bits) binary64_unit → magnitude_of bits ≤ 2 * binary64_unit
    → HasValue (mul binary64 (fin s m e) (fin false 1 (pos 17))) s (m * up e * 131072) (down e)
unfolding magnitude_of binary64_unit
scaled_value s t m e bits v within = product_value s m e (significand_of bits) (exponent_of bits - 1) (significand-lt bits) within v.1

-- ---- without the fraction

-- a number from 0 to below 2 ^ 64: what the truncating cast asks and gives
pub record Cut (y : Float) (n : ℕ) : Type 0 where
  pub above : T (lt (fin true 1 (pos 0)) y)
  pub below : T (lt y (fin false 1 (pos 64)))
  pub is : to_unsigned 64 y ≡ n

zero-of-product : (x c : ℕ) → 0 < c → x * c ≡ 0 → x ≡ 0
zero-of-product zero c h e = refl
zero-of-product (suc x) c h e = absurd (omega (arith, mul-pos (zero-lt-suc x) h, e))

pub value-cut : (y : Float) (s : Bool) (a c : ℕ) → 0 < c → (s ≡ true → a ≡ 0) → a / c < 2 ^ 64 → HasValue y s a c → Cut y (a / c)
unfolding lt to_unsigned
value-cut nan s a c C z l v = absurd v
value-cut (inf t) s a c C z l v = absurd v
value-cut (fin true m e) s a c C z l v =
    let none : a ≡ 0 = z (sym v.0) in
    let size : m * up e ≡ 0 = zero-of-product (m * up e) c C (v.1 ∙ ap (λ (x : ℕ). x * down e) none ∙ zero-mul (down e)) in
    record {
      above = lt→ltb (m * up e * 1) (1 * 1 * down e) (omega (arith, size, down_pos e));
      below = lt→ltb 0 (m * up e * 1 + 1 * 2 ^ 64 * down e) (omega (arith, down_pos e));
      is = sym (ap (λ (x : ℕ). x / c) none ∙ zero-div c);
    }
value-cut (fin false m e) s a c C z l v =
    let size = m * up e in
    let crossed : size * c < 2 ^ 64 * down e * c = lt_of_le_of_lt (le_of_eq v.1) (lt_of_lt_of_le (mul-lt-mul_of_pos_right ((div-lt_iff_lt-mul C).0 l) (down_pos e)) (le_of_eq (mul_right_comm (2 ^ 64) c (down e)))) in
    record {
      above = lt→ltb 0 (1 * 1 * down e + size * 1) (omega (arith, down_pos e));
      below = lt→ltb (size * 1) (1 * 2 ^ 64 * down e) (omega (arith, lt_of_mul-lt-mul_right c crossed));
      is = ap (λ (x : ℕ). min x (2 ^ 64 - 1)) (div_same size (down e) a c (down_pos e) C v.1) ∙ omega (arith, l);
    }

-- ---- a whole number below

tests : (p q r s : ℕ) → (p < q → r < s) → (r < s → p < q) → ltb p q ≡ ltb r s
tests p q r s there back = cases (ltb p q) refl
  where
    cases : (b : Bool) → ltb p q ≡ b → b ≡ ltb r s
    cases true e = sym (lt-ltb r s (there (ltb-true p q e)))
    cases false e = sym (le-ltb r s (elim (dec_lt r s) [ yes h ↦ absurd (omega (arith, back h, ltb-false p q e)) | no k ↦ omega (arith, k) ]))

-- h below x / p, where x / p is a / c
cross : (h p x q c a : ℕ) → 0 < p → 0 < q → 0 < c → x * c ≡ a * p → (h * p * q < x * q → h * c < a) × (h * c < a → h * p * q < x * q)
cross h p x q c a P Q C e = (
  λ l. lt_of_mul-lt-mul_right p (omega (arith, e, mul-lt-mul_of_pos_right (lt_of_mul-lt-mul_right q l) C)),
  λ l. mul-lt-mul_of_pos_right (lt_of_mul-lt-mul_right c (omega (arith, e, mul-lt-mul_of_pos_right l P))) Q,
)

lt-value : (x y : Float) (s : Bool) (h a c : ℕ) → 0 < c → (s ≡ true → a ≡ 0) → HasValue x false h 1 → HasValue y s a c → lt x y ≡ ltb (h * c) a
unfolding lt
lt-value nan y s h a c C z u v = absurd u
lt-value (inf t) y s h a c C z u v = absurd u
lt-value (fin true n d) y s h a c C z u v = absurd (true≢false u.0)
lt-value (fin false n d) nan s h a c C z u v = absurd v
lt-value (fin false n d) (inf t) s h a c C z u v = absurd v
lt-value (fin false n d) (fin true m e) s h a c C z u v = sym (le-ltb (h * c) a (omega (arith, z (sym v.0))))
lt-value (fin false n d) (fin false m e) s h a c C z u v =
    let left : n * up d * down e ≡ h * down e * down d = ap (λ (x : ℕ). x * down e) (sym (mul-one (n * up d)) ∙ u.1) ∙ mul_right_comm h (down d) (down e) in
    let crossed = cross h (down e) (m * up e) (down d) c a (down_pos e) (down_pos d) C v.1 in
    ap (λ (x : ℕ). ltb x (m * up e * down d)) left ∙ tests (h * down e * down d) (m * up e * down d) (h * c) a crossed.0 crossed.1

pub whole_below : (h : ℕ) (y : Float) (s : Bool) (a c : ℕ) → h ≤ 2 ^ 53 → 0 < c → (s ≡ true → a ≡ 0) → HasValue y s a c → lt (of_int binary64 (pos h)) y ≡ ltb (h * c) a
unfolding of_int
whole_below h y s a c few C z v = lt-value (round binary64 false h 1) y s h a c C z (round_whole binary64 false h few) v
