-- `stepping::matrix_ok` meets its contract. At n = 6 and above each place of the six rows is inside; below, place k of the list is
-- place k % 6 of row k / 6, so that the test row by row is the test of all. Assumes nothing.
use Rattle.integers.proofs.Basics.{◌≡◌, refl, sym, ap, ap₂, subst, ◌∙◌, Bool, true, false, ℕ, ◌+◌, ◌*◌, ◌<◌, arith, length, ℤ, nat_abs}
use mathlib.Core.Bool.{cond, ◌&&◌, ◌||◌}
use mathlib.Core.List.{List}
use Prim.Native.Nat.{◌/◌, ◌%◌}
use borrow.Author.Tests.{lt-ltb, le-ltb, le-leb}
use lib.Dec.{ltb, eqb}
use Rattle.integers.specs.Sums.{vector, matrix as matrix_of}
use Rattle.integers.proofs.Sums.{all_below-intro, all_below-at, all_below-some, all_below-fails}
use Rattle.arrays.specs.Tests.{zero_outside, zero_unless}
use Rattle.stepping.specs.Inner.{zeros_from, row_zero, zero_around}
use Rattle.stepping.proofs.matrix_ok.Goals as goal

-- ---- row by row, and all at once

module _ (n : ℕ) (m : List ℤ) (size : length m ≡ 36) where
  -- the test at a place of the list, and of a row
  abbrev at : ℕ → Bool
  at k = zero_unless n n k (vector m k)

  abbrev in_row : ℕ → ℕ → Bool
  in_row p i = ltb i (zeros_from n p) || eqb (nat_abs (matrix_of m p i)) 0

  place : (p i : ℕ) → i < 6 → at (6 * p + i) ≡ in_row p i
  place p i h =
      let row : (6 * p + i) / 6 ≡ p = omega arith in
      let column : (6 * p + i) % 6 ≡ i = omega arith in
      ap₂ (λ (a b : ℕ). (ltb a n && ltb b n) || eqb (nat_abs (matrix_of m p i)) 0) row column ∙ ap (λ (t : Bool). t || eqb (nat_abs (matrix_of m p i)) 0) (split (ltb p n))
    where
      split : (b : Bool) → b && ltb i n ≡ ltb i (cond b n 0)
      split true = refl
      split false = sym (le-ltb i 0 (omega arith))

  around-is : zero_around n m ≡ zero_outside n n m
  around-is = cases (zero_around n m) refl
    where
      holds : zero_around n m ≡ true → (k : ℕ) → k < length m → at k ≡ true
      holds e k h =
          let whole : 6 * (k / 6) + k % 6 ≡ k = omega arith in
          let row = all_below-at 6 (λ p. row_zero p (zeros_from n p) m) e (k / 6) (omega (arith, size)) in
          subst (λ (j : ℕ). at j ≡ true) whole (place (k / 6) (k % 6) (omega arith) ∙ all_below-at 6 (in_row (k / 6)) row (k % 6) (omega arith))

      fails : zero_around n m ≡ false → zero_outside n n m ≡ false
      fails e =
          let row = all_below-some 6 (λ p. row_zero p (zeros_from n p) m) e in
          let column = all_below-some 6 (in_row row.0) row.2 in
          all_below-fails (length m) at (6 * row.0 + column.0) (omega (arith, size, row.1, column.1)) (place row.0 column.0 column.1 ∙ column.2)

      cases : (b : Bool) → zero_around n m ≡ b → zero_around n m ≡ zero_outside n n m
      cases true e = e ∙ sym (all_below-intro (length m) at (holds e))
      cases false e = e ∙ sym (fails e)

pub returns-then-n-ge-MOST_COORDINATES : goal.returns-then-n-ge-MOST_COORDINATES
returns-then-n-ge-MOST_COORDINATES c =
    let a = c.args in
    let inside = all_below-intro (length a.matrix.now) (λ k. zero_unless a.n a.n k (vector a.matrix.now k)) (λ k h. ap (λ (t : Bool). t || eqb (nat_abs (vector a.matrix.now k)) 0) (ap₂ ◌&&◌ (lt-ltb (k / 6) a.n (omega arith)) (lt-ltb (k % 6) a.n (omega arith)))) in
    le-leb 6 a.n c.if-n-ge-MOST_COORDINATES.true ∙ sym (ap₂ ◌&&◌ (sym c.all_between.ensures ∙ c.if-all_between.true) inside)

pub returns-else-n-ge-MOST_COORDINATES : goal.returns-else-n-ge-MOST_COORDINATES
returns-else-n-ge-MOST_COORDINATES c =
    let a = c.args in
    simp (sym c.all_between.ensures ∙ c.if-all_between.true) (c.zero_around.ensures ∙ around-is a.n a.matrix.now c.told-matrix)
