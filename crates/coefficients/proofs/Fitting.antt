-- A binary64 number beside its bits, those that `to_bits` gives: its magnitude within 2, and the entry that it becomes.
-- Assumes nothing.
use Rattle.std.proofs.Common.{Ok, Err, ◌≡◌, ℕ, zero, suc, ◌+◌, ◌*◌, ◌/◌, ◌^◌, ◌<◌, ◌≤◌, Bool, true, false, cond, not, ◌&&◌, ◌||◌, T, eqb, ltb, leb, ℤ, pos, nat_abs, sym, refl, ap, ◌∙◌, subst, ap₂, true≢false, lt_of_lt_of_le, mul-le-mul_right, div-lt_iff_lt-mul, mul-one, le_of_mul-le-mul_right, arith, lit≤, ltb-false, ltb-true, le-ltb, lt-ltb, eqb-true, le-leb, leb-false, leb-true}
use mathlib.Core.Bool.{false≢true}
use native.Mathlib.Decide.{dec_lt}
use borrow.Author.Tests.{lt-leb, eqb-false}
use lib.Ieee.{Float, nan, inf, fin, binary64, up, down, fits, mul, lt, le, eq, of_int, of_bits, to_bits, is_nan}
use lib.Ieee.Fits.{down_pos}
use lib.Ieee.Bits.{is_true, of_bits-to_bits, to_bits-of_bits, of_bits-fits}
use lib.Ieee.Exact.{HasValue}
use lib.Ieee.Scale.{finite}
use lib.Ieee.Positive.{num, den, den_pos}
use Rattle.std.specs.Float.{float_with_sign}
use Rattle.stepping.specs.Limits.{matrix_unit, entry_limit}
use Rattle.integers.proofs.Booleans.{and-true}
use Rattle.coefficients.specs.Binary64.{is_negative, is_finite, binary64_unit, magnitude_of, signed}
use Rattle.integers.specs.Whole.{nearest_even}
use Rattle.coefficients.specs.Entries.{fitted_ok, fitted_entry, entry_of_bits, entry_of}
use Rattle.coefficients.specs.declared.Coefficient.TheVariants.{Fitted}
use Rattle.coefficients.specs.declared.EntryRefusal.{EntryRefusal}
use Rattle.coefficients.specs.Inner.{InRange}
use Rattle.integers.proofs.NearestEven.{nearest_even-same, nearest_even-le}
use Rattle.coefficients.proofs.Values.{Cut, factor, unit-pos, bits-value, bits-infinite, scaled_value, value-cut, whole_below}

-- ---- the constant of the code

pub two_is : of_bits binary64 0x4000_0000_0000_0000 ≡ fin false 1 (pos 1)
unfolding of_bits
two_is = refl

-- ---- the magnitude of a number

abbrev pub absolute_of : Float → Float
absolute_of x = float_with_sign false x

-- x and the number of these bits have the same magnitude
pub record SameMagnitude (x : Float) (bits : ℕ) : Type 0 where
  pub crossed : num x * binary64_unit ≡ magnitude_of bits * den x

-- not above 2, both ways of saying it
module _ (x : Float) (bits : ℕ) (p : SameMagnitude x bits) where
  within : num x ≤ 2 * den x → magnitude_of bits ≤ 2 * binary64_unit
  within h = le_of_mul-le-mul_right (omega (arith, p.crossed, mul-le-mul_right binary64_unit h)) (den_pos x)

  back : magnitude_of bits ≤ 2 * binary64_unit → num x ≤ 2 * den x
  back h = le_of_mul-le-mul_right (omega (arith, p.crossed, mul-le-mul_right (den x) h)) unit-pos

  pub magnitude-test : leb (num x) (2 * den x) ≡ leb (magnitude_of bits) (2 * binary64_unit)
  magnitude-test = cases (leb (num x) (2 * den x)) refl
    where
      cases : (b : Bool) → leb (num x) (2 * den x) ≡ b → b ≡ leb (magnitude_of bits) (2 * binary64_unit)
      cases true e = sym (le-leb (magnitude_of bits) (2 * binary64_unit) (within (leb-true (num x) (2 * den x) e)))
      cases false e =
          sym
          (lt-leb (magnitude_of bits) (2 * binary64_unit)
          (elim (dec_lt (2 * binary64_unit) (magnitude_of bits)) [ yes h ↦ h | no k ↦ absurd (omega (arith, back (omega (arith, k)), leb-false (num x) (2 * den x) e)) ]))

  pub magnitude-entry : nearest_even (matrix_unit * num x) (den x) ≡ nearest_even (matrix_unit * magnitude_of bits) binary64_unit
  magnitude-entry = nearest_even-same (matrix_unit * num x) (den x) (matrix_unit * magnitude_of bits) binary64_unit (den_pos x) unit-pos (omega (arith, p.crossed))

-- ---- a number beside its bits

-- a finite one
module _ (s : Bool) (m : ℕ) (e : ℤ) (h : T (fits binary64 (fin s m e))) where
  abbrev bits : ℕ
  bits = to_bits binary64 (fin s m e)

  is-finite : is_finite bits ≡ true
  is-finite = cases (is_finite bits) refl
    where
      cases : (b : Bool) → is_finite bits ≡ b → b ≡ true
      cases true f = refl
      cases false f = absurd (true≢false (sym (ap finite (of_bits-to_bits binary64 (fin s m e) h)) ∙ bits-infinite bits f))

  value : HasValue (fin s m e) (is_negative bits) (magnitude_of bits) binary64_unit
  value = subst (λ (x : Float). HasValue x (is_negative bits) (magnitude_of bits) binary64_unit) (of_bits-to_bits binary64 (fin s m e) h) (bits-value bits is-finite)

  pub same-magnitude : SameMagnitude (fin s m e) bits
  same-magnitude = record { crossed = value.1 }

  ok-is : fitted_ok bits ≡ leb (m * up e) (2 * down e)
  unfolding fitted_ok
  ok-is = ap (λ (b : Bool). b && leb (magnitude_of bits) (2 * binary64_unit)) is-finite ∙ sym (magnitude-test (fin s m e) bits same-magnitude)

  entry-is : fitted_entry bits ≡ signed s (nearest_even (matrix_unit * (m * up e)) (down e))
  unfolding fitted_entry
  entry-is = ap₂ signed (sym value.0) (sym (magnitude-entry (fin s m e) bits same-magnitude))

-- no finite one, whichever of its patterns
pub infinite-bits : (x : Float) (bits : ℕ) → of_bits binary64 bits ≡ x → finite x ≡ false → fitted_ok bits ≡ false
unfolding fitted_ok
infinite-bits x bits is n = cases (is_finite bits) refl
  where
    none : (y : Float) (s : Bool) (a c : ℕ) → finite y ≡ false → HasValue y s a c → ⊥
    none nan s a c f v = v
    none (inf t) s a c f v = v
    none (fin t m e) s a c f v = true≢false f

    cases : (b : Bool) → is_finite bits ≡ b → b && leb (magnitude_of bits) (2 * binary64_unit) ≡ false
    cases true f = absurd (none (of_bits binary64 bits) (is_negative bits) (magnitude_of bits) binary64_unit (ap finite is ∙ n) (bits-value bits f))
    cases false f = refl

-- ---- what the code tests and rounds

pub record Checked (x : Float) (bits : ℕ) : Type 0 where
  pub test : le (absolute_of x) (fin false 1 (pos 1)) ≡ fitted_ok bits
  pub low : lt (absolute_of x) (fin false 0 (pos 0)) ≡ false
  pub entry : fitted_ok bits ≡ true → signed (lt x (fin false 0 (pos 0))) (nearest_even (matrix_unit * num (absolute_of x)) (den (absolute_of x))) ≡ fitted_entry bits

-- a magnitude is compared with 2 as a fraction, and is never below 0
at_most : (a b : ℕ) → ltb a b || (eqb a b && true) ≡ leb a b
at_most a b = cases (ltb a b) refl (eqb a b) refl
  where
    cases : (t : Bool) → ltb a b ≡ t → (u : Bool) → eqb a b ≡ u → t || (u && true) ≡ leb a b
    cases true l u k = sym (le-leb a b (omega (arith, ltb-true a b l)))
    cases false l true k = sym (le-leb a b (omega (arith, eqb-true a b k)))
    cases false l false k = sym (lt-leb a b (elim (dec_lt b a) [ yes h ↦ h | no n ↦ absurd (eqb-false a b k (omega (arith, ltb-false a b l, n))) ]))

le-two : (m : ℕ) (e : ℤ) → le (fin false m e) (fin false 1 (pos 1)) ≡ leb (m * up e) (2 * down e)
unfolding le lt eq
le-two m e = at_most (m * up e * 1) (1 * 2 * down e) ∙ ap (λ (a : ℕ). leb a (2 * down e)) (mul-one (m * up e))

low-positive : (m : ℕ) (e : ℤ) → lt (fin false m e) (fin false 0 (pos 0)) ≡ false
unfolding lt
low-positive m e = le-ltb (m * up e * 1) (0 * 1 * down e) (omega arith)

refused : (x : Float) (b : ℕ) → le (absolute_of x) (fin false 1 (pos 1)) ≡ false → lt (absolute_of x) (fin false 0 (pos 0)) ≡ false → fitted_ok b ≡ false → Checked x b
refused x b t l n = record { test = t ∙ sym n; low = l; entry = λ e. absurd (true≢false (sym e ∙ n)) }

-- with the sign 1 a number is at most 2, -0 too
below_two : (m : ℕ) (e : ℤ) → le (fin true m e) (fin false 1 (pos 1)) ≡ true
unfolding le lt
below_two m e = ap (λ (b : Bool). b || eq (fin true m e) (fin false 1 (pos 1))) (lt-ltb 0 (m * up e * 1 + 1 * 2 * down e) (omega (arith, down_pos e)))

-- of -0 the sign is lost, and with it nothing
sign-is : (s : Bool) (m : ℕ) (e : ℤ) → signed (lt (fin s m e) (fin false 0 (pos 0))) (nearest_even (matrix_unit * (m * up e)) (down e)) ≡ signed s (nearest_even (matrix_unit * (m * up e)) (down e))
unfolding lt
sign-is false m e = ap (λ (b : Bool). signed b (nearest_even (matrix_unit * (m * up e)) (down e))) (low-positive m e)
sign-is true m e = cases (ltb 0 (m * up e * 1 + 0 * 1 * down e)) refl
  where
    n : ℕ
    n = nearest_even (matrix_unit * (m * up e)) (down e)

    cases : (b : Bool) → ltb 0 (m * up e * 1 + 0 * 1 * down e) ≡ b → signed b n ≡ signed true n
    cases true l = refl
    cases false l =
        let zero-is : m * up e ≡ 0 = omega (arith, ltb-false 0 (m * up e * 1 + 0 * 1 * down e) l) in
        let none : n ≡ 0 = omega (arith, nearest_even-le (matrix_unit * (m * up e)) (down e) 0 (down_pos e) (omega (arith, zero-is))) in
        ap pos none ∙ sym (ap (signed true) none)

pub checked : (x : Float) → T (fits binary64 x) → Checked x (to_bits binary64 x)
unfolding float_with_sign le lt eq
checked nan h = refused nan (to_bits binary64 nan) refl refl (infinite-bits nan (to_bits binary64 nan) (of_bits-to_bits binary64 nan h) refl)
checked (inf s) h = refused (inf s) (to_bits binary64 (inf s)) refl refl (infinite-bits (inf s) (to_bits binary64 (inf s)) (of_bits-to_bits binary64 (inf s) h) refl)
checked (fin s m e) h = record { test = le-two m e ∙ sym (ok-is s m e h); low = low-positive m e; entry = λ t. sign-is s m e ∙ sym (entry-is s m e h) }

-- ---- from 0 to 2: the halves that the code counts

abbrev pub halves_of : Float → ℕ
halves_of x = 2 * (matrix_unit * num x) / den x

-- the product, with the constant as the code has it
abbrev pub scaled_of : Float → Float
scaled_of x = mul binary64 x (of_bits binary64 0x4100_0000_0000_0000)

-- how many whole halves it counts
pub record Counted (x : Float) : Type 0 where
  pub cut : Cut (scaled_of x) (halves_of x)
  pub few : halves_of x ≤ 262144
  pub compared : lt (of_int binary64 (pos (halves_of x))) (scaled_of x) ≡ ltb (halves_of x * den x) (2 * (matrix_unit * num x))

counted-at : (s : Bool) (m : ℕ) (e : ℤ) → T (fits binary64 (fin s m e)) → (s ≡ true → m * up e ≡ 0) → m * up e ≤ 2 * down e → Counted (fin s m e)
counted-at s m e h z l =
    let x = fin s m e in
    let a = 2 * (matrix_unit * (m * up e)) in
    let d = down e in
    let scaled = scaled_of x in
    let same : m * up e * 131072 ≡ a = omega arith in
    let product : HasValue scaled s a d =
    subst (λ (y : Float). HasValue (mul binary64 x y) s a d) (sym factor)
    (subst (λ (k : ℕ). HasValue (mul binary64 x (fin false 1 (pos 17))) s k d) same
    (scaled_value s (is_negative (bits s m e h)) m e (bits s m e h) (value s m e h) (within x (bits s m e h) (same-magnitude s m e h) l))) in
    let none : s ≡ true → a ≡ 0 = λ t. omega (arith, z t) in
    let few : a / d < 262145 = (div-lt_iff_lt-mul (down_pos e)).1 (omega (arith, l, down_pos e)) in
    record {
      cut = value-cut scaled s a d (down_pos e) none (lt_of_lt_of_le few (lit≤ tt)) product;
      few = omega (arith, few);
      compared = whole_below (a / d) scaled s a d (omega (arith, few)) (down_pos e) none product;
    }

pub counted : (x : Float) → T (fits binary64 x) → InRange x → Counted x
unfolding lt le eq
counted nan h r = absurd r.high
counted (inf true) h r = absurd (true≢false r.low)
counted (inf false) h r = absurd r.high
counted (fin false m e) h r = counted-at false m e h (λ t. absurd (false≢true t)) (leb-true (m * up e) (2 * down e) (sym (le-two m e) ∙ is_true (le (fin false m e) (fin false 1 (pos 1))) r.high))
counted (fin true m e) h r = let z : m * up e ≡ 0 = omega (arith, ltb-false 0 (m * up e * 1 + 0 * 1 * down e) r.low) in counted-at true m e h (λ t. z) (omega (arith, z))

-- ---- from the bits and back

pub refused-bits : (bits : ℕ) → fitted_ok bits ≡ false → entry_of_bits bits ≡ Err EntryRefusal.Fitted
unfolding entry_of_bits
refused-bits bits e = ap (λ (b : Bool). cond b (Ok (fitted_entry bits)) (Err EntryRefusal.Fitted)) e

pub accepted-bits : (bits : ℕ) → fitted_ok bits ≡ true → entry_of_bits bits ≡ Ok (fitted_entry bits)
unfolding entry_of_bits
accepted-bits bits e = ap (λ (b : Bool). cond b (Ok (fitted_entry bits)) (Err EntryRefusal.Fitted)) e

-- Limits 3: an entry that is not refused is within the limit of a matrix entry.
pub nat_abs-signed : (b : Bool) (n : ℕ) → nat_abs (signed b n) ≡ n
nat_abs-signed true zero = refl
nat_abs-signed true (suc n) = refl
nat_abs-signed false n = refl

pub fitted_entry-within : (bits : ℕ) → fitted_ok bits ≡ true → nat_abs (fitted_entry bits) ≤ entry_limit
unfolding fitted_ok fitted_entry
fitted_entry-within bits ok =
    let within = leb-true (magnitude_of bits) (2 * binary64_unit) (and-true (is_finite bits) _ ok).1 in
    let small : matrix_unit * magnitude_of bits ≤ entry_limit * binary64_unit = omega (arith, within) in
    subst (λ (k : ℕ). k ≤ entry_limit) (sym (nat_abs-signed (is_negative bits) _)) (nearest_even-le (matrix_unit * magnitude_of bits) binary64_unit entry_limit unit-pos small)

-- Of a pattern that is no NaN's the bits are the pattern again. Every NaN is refused, by its own pattern and by that of `to_bits`.
pub entry_of-bits : (bits : ℕ) → bits < 2 ^ 64 → entry_of (Fitted (of_bits binary64 bits)) ≡ entry_of_bits bits
unfolding entry_of is_nan
entry_of-bits bits h = cases (is_nan (of_bits binary64 bits)) refl
  where
    x : Float
    x = of_bits binary64 bits

    no_number : (y : Float) → is_nan y ≡ true → finite y ≡ false
    no_number nan e = refl
    no_number (inf s) e = refl
    no_number (fin s m e) n = absurd (false≢true n)

    refused-by : (b : ℕ) → of_bits binary64 b ≡ x → is_nan x ≡ true → entry_of_bits b ≡ Err EntryRefusal.Fitted
    refused-by b e n = refused-bits b (infinite-bits x b e (no_number x n))

    cases : (b : Bool) → is_nan x ≡ b → entry_of_bits (to_bits binary64 x) ≡ entry_of_bits bits
    cases true n = refused-by (to_bits binary64 x) (of_bits-to_bits binary64 x (of_bits-fits binary64 bits)) n ∙ sym (refused-by bits refl n)
    cases false n = ap entry_of_bits (to_bits-of_bits binary64 bits h (subst (λ (b : Bool). T (not b)) (sym n) tt))
