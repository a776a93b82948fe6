-- What the tests of a working direction say, coordinate by coordinate, and back. Assumes nothing.
use mathlib.Core.Path.{◌≡◌, ap, ap₂, ◌∙◌}
use mathlib.Core.Bool.{Bool, true, ◌&&◌, ◌||◌}
use mathlib.Core.List.{List}
use Prim.Native.Nat.{ℕ, ◌≤◌, ◌<◌}
use native.Mathlib.Decide.{dec_lt}
use native.Mathlib.Omega.{arith}
use borrow.Author.Tests.{lt-ltb, le-ltb, le-leb, leb-true, eq-eqb, eqb-true}
use lib.Dec.{leb, ltb, eqb}
use lib.IntN.{ℤ}
use lib.Signed.{non_neg}
use Rattle.integers.specs.Sums.{vector, magnitudes}
use Rattle.integers.proofs.Sums.{all_below-at, all_below-intro}
use Rattle.integers.proofs.Booleans.{and-true, or-true, or-false}
use Rattle.stepping.specs.Limits.{growth_limit}
use Rattle.stepping.specs.Recurrence.{growth_sum}
use Rattle.stepping.specs.Refusals.{dimension_ok, zero_beyond, non_negative, working_ok}

-- What `working_ok` tests.
pub record WorkingFacts (n : ℕ) (r e : List ℤ) : Type 0 where
  pub dimension : dimension_ok n ≡ true
  pub zero-r : (i : ℕ) → n ≤ i → i < 6 → magnitudes r i ≡ 0
  pub zero-e : (i : ℕ) → n ≤ i → i < 6 → magnitudes e i ≡ 0
  pub natural : (i : ℕ) → i < 6 → non_neg (vector e i) ≡ true
  pub in-limit : growth_sum n (vector r) (magnitudes e) ≤ growth_limit

pub dimension-most : {n : ℕ} → dimension_ok n ≡ true → n ≤ 6
dimension-most {n} t = leb-true n 6 (and-true (leb 1 n) (leb n 6) t).1

pub zero_beyond-at : (n : ℕ) (xs : List ℤ) → zero_beyond n xs ≡ true → (i : ℕ) → n ≤ i → i < 6 → magnitudes xs i ≡ 0
zero_beyond-at n xs t i l h =
    eqb-true _ 0 (or-false (ltb i n) (eqb (magnitudes xs i) 0) (all_below-at 6 (λ k. ltb k n || eqb (magnitudes xs k) 0) t i h) (le-ltb i n l))

zero_beyond-intro : (n : ℕ) (xs : List ℤ) → ((i : ℕ) → n ≤ i → i < 6 → magnitudes xs i ≡ 0) → zero_beyond n xs ≡ true
zero_beyond-intro n xs zeros = all_below-intro 6 (λ i. ltb i n || eqb (magnitudes xs i) 0) (λ i h. elim (dec_lt i n) [ yes l ↦ ap (λ (b : Bool). b || eqb (magnitudes xs i) 0) (lt-ltb i n l) | no f ↦ ap (λ (b : Bool). ltb i n || b) (eq-eqb _ 0 (zeros i (omega (arith, f)) h)) ∙ or-true (ltb i n) ])

pub working-facts : (n : ℕ) (r e : List ℤ) → working_ok n r e ≡ true → WorkingFacts n r e
working-facts n r e t =
    let small = leb (growth_sum n (vector r) (magnitudes e)) growth_limit in
    let one = and-true (dimension_ok n) (zero_beyond n r && (zero_beyond n e && (non_negative e && small))) t in
    let two = and-true (zero_beyond n r) (zero_beyond n e && (non_negative e && small)) one.1 in
    let three = and-true (zero_beyond n e) (non_negative e && small) two.1 in
    let four = and-true (non_negative e) small three.1 in
    record {
      dimension = one.0;
      zero-r = zero_beyond-at n r two.0;
      zero-e = zero_beyond-at n e three.0;
      natural = all_below-at 6 (λ i. non_neg (vector e i)) four.0;
      in-limit = leb-true _ growth_limit four.1;
    }

pub working-ok : {n : ℕ} {r e : List ℤ} → WorkingFacts n r e → working_ok n r e ≡ true
working-ok {n} {r} {e} f =
    ap₂ ◌&&◌ f.dimension (ap₂ ◌&&◌ (zero_beyond-intro n r f.zero-r) (ap₂ ◌&&◌ (zero_beyond-intro n e f.zero-e) (ap₂ ◌&&◌ (all_below-intro 6 (λ i. non_neg (vector e i)) f.natural) (le-leb _ growth_limit f.in-limit))))
