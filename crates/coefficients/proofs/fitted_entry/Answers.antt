-- `coefficients::fitted_entry`: the magnitude within 2 is the test of the bits, and the rounded magnitude with the sign is the entry.
-- Assumes nothing.
use Rattle.integers.proofs.Basics.{◌≡◌, sym, ap, ap₂, subst, ◌∙◌, Bool, true, false, ℕ, ◌*◌, ◌≤◌, arith, ℤ, pos, nat_abs, w32, to_z, of_z, to_z-of_z, SFits, ◌-ℤ◌}
use Rattle.std.proofs.Common.{T, lit<, Ok}
use lib.Ieee.{Float, binary64, fin, fits, lt, le, of_bits, to_bits}
use Rattle.stepping.specs.Limits.{matrix_unit, entry_limit}
use lib.Ieee.Positive.{num, den}
use Rattle.coefficients.specs.Binary64.{signed}
use Rattle.integers.specs.Whole.{nearest_even}
use Rattle.coefficients.specs.Entries.{fitted_ok, entry_of_bits}
use Rattle.integers.proofs.SignedParts.{#, neg, ◌⊖◌, eq! }
use Rattle.integers.proofs.Machine.{sfits-of-nat_abs}
use Rattle.coefficients.specs.Inner.{InRange, magnitude_entry}
use Rattle.coefficients.proofs.Fitting.{absolute_of, Checked, checked, two_is, refused-bits, accepted-bits, nat_abs-signed, fitted_entry-within}
use Rattle.coefficients.proofs.fitted_entry.Goals as goal

-- the rounded magnitude, without its sign
abbrev size_of : Float → ℕ
size_of x = nearest_even (matrix_unit * num (absolute_of x)) (den (absolute_of x))

-- a number, and its magnitude as the code takes it
module _ (x : Float) (fit : fits binary64 x ≡ true) (magnitude : Float) (is : magnitude ≡ absolute_of x) where
  laws : Checked x (to_bits binary64 x)
  laws = checked x (subst T (sym fit) tt)

  tested : le magnitude (of_bits binary64 0x4000_0000_0000_0000) ≡ fitted_ok (to_bits binary64 x)
  tested = ap₂ le is two_is ∙ laws.test

  in-range : le magnitude (of_bits binary64 0x4000_0000_0000_0000) ≡ true → InRange magnitude
  in-range small =
      subst InRange (sym is) (record { low = laws.low; high = subst T (sym (laws.test ∙ sym tested ∙ small)) tt })

  -- within 2
  module _ (small : le magnitude (of_bits binary64 0x4000_0000_0000_0000) ≡ true) where
    ok : fitted_ok (to_bits binary64 x) ≡ true
    ok = sym tested ∙ small

    rounded-is : {entry : ℤ} → entry ≡ magnitude_entry magnitude → entry ≡ pos (size_of x)
    rounded-is e = e ∙ ap magnitude_entry is

    answer : {t : Bool} → lt x (fin false 0 (pos 0)) ≡ t → Ok (signed t (size_of x)) ≡ entry_of_bits (to_bits binary64 x)
    answer e = ap (λ (t : Bool). Ok (signed t (size_of x))) (sym e) ∙ ap Ok (laws.entry ok) ∙ sym (accepted-bits (to_bits binary64 x) ok)

    size-small : size_of x ≤ entry_limit
    size-small =
        subst (λ (k : ℕ). k ≤ entry_limit) (nat_abs-signed (lt x (fin false 0 (pos 0))) (size_of x))
        (subst (λ (z : ℤ). nat_abs z ≤ entry_limit) (sym (laws.entry ok)) (fitted_entry-within (to_bits binary64 x) ok))

-- the opposite of an entry, as it is stored
opposite : (entry : ℤ) (n : ℕ) → SFits w32 entry → entry ≡ pos n → n ≤ entry_limit → to_z w32 (of_z w32 (pos 0 -ℤ to_z w32 (of_z w32 entry))) ≡ signed true n
opposite entry n f is small =
    let turned : pos 0 -ℤ to_z w32 (of_z w32 entry) ≡ signed true n = ap (λ (z : ℤ). pos 0 -ℤ z) (to_z-of_z {w = w32} f ∙ is) ∙ eq! (# 0 ⊖ # n) (neg (# n)) (omega arith) in
    let within : SFits w32 (signed true n) = sfits-of-nat_abs w32 {b = entry_limit} (subst (λ (k : ℕ). k ≤ entry_limit) (sym (nat_abs-signed true n)) small) (lit< tt) in
    ap (λ (z : ℤ). to_z w32 (of_z w32 z)) turned ∙ to_z-of_z {w = w32} within

pub rounded-entry-requires : goal.rounded-entry-requires
rounded-entry-requires c = in-range c.args.x c.well_formed.0.1 _ c.abs-magnitude.ensures.value c.if-magnitude.true

pub returns-then-negative : goal.returns-then-negative
unfolding of_bits
returns-then-negative c =
    let fit = c.well_formed.0.1 in
    let is = c.abs-magnitude.ensures.value in
    let small = c.if-magnitude.true in
    ap Ok (opposite c.rounded-entry.result _ (record { sfits = c.rounded-entry.type_inv }) (rounded-is c.args.x fit _ is small c.rounded-entry.ensures) (size-small c.args.x fit _ is small))
    ∙ answer c.args.x fit _ is small c.if-negative.true

pub returns-else-negative : goal.returns-else-negative
unfolding of_bits
returns-else-negative c =
    let fit = c.well_formed.0.1 in
    let is = c.abs-magnitude.ensures.value in
    let small = c.if-magnitude.true in
    ap Ok (to_z-of_z {w = w32} (record { sfits = c.rounded-entry.type_inv }) ∙ rounded-is c.args.x fit _ is small c.rounded-entry.ensures)
    ∙ answer c.args.x fit _ is small c.if-negative.false

pub returns-else-magnitude : goal.returns-else-magnitude
returns-else-magnitude c =
    sym (refused-bits (to_bits binary64 c.args.x) (sym (tested c.args.x c.well_formed.0.1 _ c.abs-magnitude.ensures.value) ∙ c.if-magnitude.false))
