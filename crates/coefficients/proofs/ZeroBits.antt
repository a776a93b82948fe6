-- Laws of `is_zero` (File 11): no bit but the sign is set, so there are two patterns. Assumes nothing.
use Rattle.std.proofs.Common.{◌≡◌, ℕ, ◌+◌, ◌-◌, ◌*◌, ◌%◌, ◌^◌, ◌<◌, Bool, true, false, cond, ◌&&◌, eqb, ◌⊎◌, sym, refl, ap, ◌∙◌, ap₂, inl, inr, mul-pos, zero-mul, arith, pow_pos, lt-ltb, eq-eqb, ne_eqb, eqb-true}
use native.Mathlib.Decide.{dec_lt}
use Rattle.integers.proofs.Booleans.{and-false}
use Rattle.coefficients.specs.Binary64.{exponent_of, fraction_of, is_finite, magnitude_of, is_zero}

-- without its sign a pattern is zero where exponent and fraction are
magnitude-none : (bits : ℕ) → bits % 2 ^ 63 ≡ 0 → magnitude_of bits ≡ 0
unfolding magnitude_of
magnitude-none bits e =
    let x : exponent_of bits ≡ 0 = omega (arith, e) in
    let f : fraction_of bits ≡ 0 = omega (arith, e) in
    ap (λ (b : Bool). cond b (fraction_of bits) (2 ^ 52 + fraction_of bits) * 2 ^ (exponent_of bits - 1)) (eq-eqb (exponent_of bits) 0 x)
    ∙ ap (λ (k : ℕ). k * 2 ^ (exponent_of bits - 1)) f
    ∙ zero-mul (2 ^ (exponent_of bits - 1))

magnitude-some : (bits : ℕ) → 0 < bits % 2 ^ 63 → 0 < magnitude_of bits
unfolding magnitude_of
magnitude-some bits h = mul-pos (significand (eqb (exponent_of bits) 0) refl) (pow_pos (exponent_of bits - 1))
  where
    significand : (b : Bool) → eqb (exponent_of bits) 0 ≡ b → 0 < cond b (fraction_of bits) (2 ^ 52 + fraction_of bits)
    significand true e = omega (arith, h, eqb-true (exponent_of bits) 0 e)
    significand false e = omega arith

pub is_zero-bits : (bits : ℕ) → is_zero bits ≡ eqb (bits % 2 ^ 63) 0
unfolding is_zero
is_zero-bits bits =
    elim (dec_lt 0 (bits % 2 ^ 63)) [
      | yes h ↦
          ap (λ (b : Bool). is_finite bits && b) (ne_eqb (magnitude_of bits) 0 (λ e. omega (arith, e, magnitude-some bits h))) ∙ and-false (is_finite bits)
          ∙ sym (ne_eqb (bits % 2 ^ 63) 0 (λ e. omega (arith, e, h)))
      | no g ↦
          let none : bits % 2 ^ 63 ≡ 0 = omega (arith, g) in
          ap₂ ◌&&◌ (lt-ltb (exponent_of bits) 2047 (omega (arith, none))) (eq-eqb (magnitude_of bits) 0 (magnitude-none bits none)) ∙ sym (eq-eqb (bits % 2 ^ 63) 0 none)
    ]

-- File 11: the two patterns.
pub zero-patterns : (bits : ℕ) → bits < 2 ^ 64 → is_zero bits ≡ true → (bits ≡ 0) ⊎ (bits ≡ 2 ^ 63)
zero-patterns bits l z =
    let none = eqb-true (bits % 2 ^ 63) 0 (sym (is_zero-bits bits) ∙ z) in
    elim (dec_lt 0 bits) [ yes h ↦ inr (omega (arith, l, none, h)) | no g ↦ inl (omega (arith, g)) ]
