-- The tests over an array, and what is known of each element. In order: what a test that holds says of a place, also of one past
-- the end, where a stored vector is zero; a test that holds by what is known of each place. Assumes nothing.
use mathlib.Core.Path.{◌≡◌, refl, sym, ap, ap₂, subst, ◌∙◌}
use mathlib.Core.Bool.{Bool, true, false, ◌&&◌, ◌||◌}
use mathlib.Core.List.{List}
use Prim.Native.Nat.{ℕ, ◌+◌, ◌*◌, ◌/◌, ◌%◌, ◌≤◌, ◌<◌}
use native.Mathlib.Decide.{dec_lt}
use native.Mathlib.Omega.{arith}
use borrow.Author.Tests.{lt-ltb, le-ltb, ltb-true, eq-eqb, eqb-true}
use lib.Dec.{ltb, eqb}
use lib.ListN.{length, get_or-eq_default}
use lib.IntN.{ℤ, pos, neg_ℤ, nat_abs}
use lib.Signed.{le_z}
use Rattle.integers.specs.Sums.{vector, matrix}
use Rattle.integers.proofs.Booleans.{and-true, and-false, or-true, or-false}
use Rattle.integers.proofs.SignedParts.{v, #, neg, le!, le?, abs!, abs?}
use Rattle.integers.proofs.Order.{⩽-of-le_z, le_z-of-⩽}
use Rattle.integers.proofs.Sums.{all_below-at, all_below-intro}
use Rattle.integers.proofs.Machine.{zero-of-nat_abs}
use Rattle.arrays.specs.Tests.{between, all_between, zero_unless, zero_outside}

-- past the end of a list a vector is zero
beyond-end : (xs : List ℤ) (k : ℕ) → length xs ≤ k → vector xs k ≡ pos 0
beyond-end xs k h = get_or-eq_default xs (pos 0) h

-- ---- ranges

pub between-small : (limit : ℕ) (x : ℤ) → between (neg_ℤ (pos limit)) (pos limit) x ≡ true → nat_abs x ≤ limit
between-small limit x t =
    let both = and-true (le_z (neg_ℤ (pos limit)) x) (le_z x (pos limit)) t in
    let low = le? (neg (# limit)) (v x) (⩽-of-le_z (neg_ℤ (pos limit)) x both.0) in
    let high = le? (v x) (# limit) (⩽-of-le_z x (pos limit) both.1) in
    abs! (v x) limit (omega arith) (omega arith)

pub all_between-at : (limit : ℕ) (xs : List ℤ) → all_between (neg_ℤ (pos limit)) (pos limit) xs ≡ true → (k : ℕ) → nat_abs (vector xs k) ≤ limit
all_between-at limit xs t k =
    elim (dec_lt k (length xs)) [ yes h ↦ between-small limit (vector xs k) (all_below-at (length xs) (λ j. between (neg_ℤ (pos limit)) (pos limit) (vector xs j)) t k h) | no f ↦ subst (λ (z : ℤ). nat_abs z ≤ limit) (sym (beyond-end xs k (omega (arith, f)))) (omega arith) ]

-- ---- zeros

module _ (rows columns : ℕ) (xs : List ℤ) (t : zero_outside rows columns xs ≡ true) where
  pub zero_outside-at : (k : ℕ) → ltb (k / 6) rows && ltb (k % 6) columns ≡ false → vector xs k ≡ pos 0
  zero_outside-at k f =
      elim (dec_lt k (length xs)) [ yes h ↦ zero-of-nat_abs (vector xs k) (eqb-true _ 0 (or-false _ (eqb (nat_abs (vector xs k)) 0) (all_below-at (length xs) (λ j. zero_unless rows columns j (vector xs j)) t k h) f)) | no g ↦ beyond-end xs k (omega (arith, g)) ]

  -- a row from `rows` on, at any of its six places
  pub zero_outside-row : (p i : ℕ) → i < 6 → rows ≤ p → matrix xs p i ≡ pos 0
  zero_outside-row p i hi h =
      let outside : ltb ((6 * p + i) / 6) rows ≡ false = le-ltb _ rows (omega arith) in
      zero_outside-at (6 * p + i) (ap (λ (b : Bool). b && ltb ((6 * p + i) % 6) columns) outside)

  -- a column from `columns` on
  pub zero_outside-column : (p i : ℕ) → i < 6 → columns ≤ i → matrix xs p i ≡ pos 0
  zero_outside-column p i hi h =
      let outside : ltb ((6 * p + i) % 6) columns ≡ false = le-ltb _ columns (omega arith) in
      zero_outside-at (6 * p + i) (ap (λ (b : Bool). ltb ((6 * p + i) / 6) rows && b) outside ∙ and-false (ltb ((6 * p + i) / 6) rows))

-- what holds of fewer rows and columns holds of more
pub zero_outside-wider : {n n' : ℕ} (xs : List ℤ) → n ≤ n' → zero_outside n n xs ≡ true → zero_outside n' n' xs ≡ true
zero_outside-wider {n} {n'} xs l t = all_below-intro (length xs) (λ k. zero_unless n' n' k (vector xs k)) (λ k h. cases k (ltb (k / 6) n && ltb (k % 6) n) refl)
  where
    cases : (k : ℕ) (b : Bool) → ltb (k / 6) n && ltb (k % 6) n ≡ b → zero_unless n' n' k (vector xs k) ≡ true
    cases k true e =
        let both = and-true (ltb (k / 6) n) (ltb (k % 6) n) e in
        ap (λ (b : Bool). b || eqb (nat_abs (vector xs k)) 0) (ap₂ ◌&&◌ (lt-ltb (k / 6) n' (omega (arith, ltb-true (k / 6) n both.0))) (lt-ltb (k % 6) n' (omega (arith, ltb-true (k % 6) n both.1))))
    cases k false e = ap (λ (b : Bool). (ltb (k / 6) n' && ltb (k % 6) n') || b) (eq-eqb _ 0 (ap nat_abs (zero_outside-at n n xs t k e))) ∙ or-true (ltb (k / 6) n' && ltb (k % 6) n')

-- ---- from each place

-- place k of rows of six is in row k / 6 and column k % 6
place : (k : ℕ) → 6 * (k / 6) + k % 6 ≡ k
place k = omega arith

-- Zero in the rows from `rows` on, and in the columns from `columns` on.
pub record Zeros (rows columns : ℕ) (xs : List ℤ) : Type 0 where
  pub row : (p i : ℕ) → i < 6 → rows ≤ p → matrix xs p i ≡ pos 0
  pub column : (p i : ℕ) → i < 6 → columns ≤ i → matrix xs p i ≡ pos 0

pub zero_outside-of : (rows columns : ℕ) (xs : List ℤ) → Zeros rows columns xs → zero_outside rows columns xs ≡ true
zero_outside-of rows columns xs z = all_below-intro (length xs) (λ k. zero_unless rows columns k (vector xs k)) (λ k h. here k)
  where
    outside : (k : ℕ) → vector xs k ≡ pos 0 → zero_unless rows columns k (vector xs k) ≡ true
    outside k e = ap (λ (x : ℤ). (ltb (k / 6) rows && ltb (k % 6) columns) || eqb (nat_abs x) 0) e ∙ or-true (ltb (k / 6) rows && ltb (k % 6) columns)

    here : (k : ℕ) → zero_unless rows columns k (vector xs k) ≡ true
    here k =
        elim (dec_lt (k / 6) rows) [ yes r ↦ elim (dec_lt (k % 6) columns) [ yes c ↦ simp (lt-ltb (k / 6) rows r, lt-ltb (k % 6) columns c) | no g ↦ outside k (sym (ap (vector xs) (place k)) ∙ z.column (k / 6) (k % 6) (omega arith) (omega (arith, g))) ] | no g ↦ outside k (sym (ap (vector xs) (place k)) ∙ z.row (k / 6) (k % 6) (omega arith) (omega (arith, g))) ]

pub record Small (limit : ℕ) (xs : List ℤ) : Type 0 where
  pub at : (p i : ℕ) → i < 6 → nat_abs (matrix xs p i) ≤ limit

pub between-of : (limit : ℕ) (x : ℤ) → nat_abs x ≤ limit → between (neg_ℤ (pos limit)) (pos limit) x ≡ true
between-of limit x h =
    let both = abs? (v x) limit h in
    ap₂ ◌&&◌ (le_z-of-⩽ (le! (neg (# limit)) (v x) (omega (arith, both.0, both.1)))) (le_z-of-⩽ (le! (v x) (# limit) (omega (arith, both.0, both.1))))

pub all_between-of : (limit : ℕ) (xs : List ℤ) → Small limit xs → all_between (neg_ℤ (pos limit)) (pos limit) xs ≡ true
all_between-of limit xs s = all_below-intro (length xs) (λ k. between (neg_ℤ (pos limit)) (pos limit) (vector xs k)) (λ k h. between-of limit (vector xs k) (subst (λ (j : ℕ). nat_abs (vector xs j) ≤ limit) (place k) (s.at (k / 6) (k % 6) (omega arith))))
