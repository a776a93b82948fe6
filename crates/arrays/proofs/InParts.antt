-- The test of rows of six in two parts: of the first rows, the columns outside are zero; of the rest, all. Assumes nothing.
use mathlib.Core.Path.{◌≡◌, sym, ap, ap₂, ◌∙◌}
use mathlib.Core.Bool.{Bool, ◌&&◌, ◌||◌}
use mathlib.Core.List.{List, ◌++◌}
use Prim.Native.Nat.{ℕ, ◌+◌, ◌*◌, ◌/◌, ◌%◌, ◌≤◌, ◌<◌}
use native.Mathlib.Omega.{arith}
use borrow.Author.Tests.{lt-ltb, le-ltb, eq-eqb, eqb-true}
use lib.Dec.{ltb, eqb}
use lib.ListN.{length, get_or-append}
use lib.IntN.{ℤ, pos, nat_abs}
use Rattle.std.proofs.lemmas.List.{length-append, get_or-append-add}
use Rattle.integers.specs.Sums.{vector, all_below}
use Rattle.integers.proofs.Booleans.{same-test}
use Rattle.integers.proofs.Sums.{all_below-cong, all_below-parts}
use Rattle.arrays.specs.Tests.{between, all_between, zero_unless, zero_outside}
use Rattle.arrays.proofs.Tests.{between-small, between-of}

-- Place k of rows of six lies in the first `columns` columns, or x is zero.
abbrev pub zero_past : ℕ → ℕ × ℤ → Bool
zero_past columns p = ltb (p.0 % 6) columns || eqb (nat_abs p.1) 0

-- Each element past the first `columns` columns is zero.
abbrev pub columns_zero : ℕ → List ℤ → Bool
columns_zero columns xs = all_below (length xs) (λ k. zero_past columns (k, vector xs k))

between-zeros : (x : ℤ) → between (pos 0) (pos 0) x ≡ eqb (nat_abs x) 0
between-zeros x =
    same-test (between (pos 0) (pos 0) x) (eqb (nat_abs x) 0) (λ t. eq-eqb (nat_abs x) 0 (omega (arith, between-small 0 x t))) (λ t. between-of 0 x (omega (arith, eqb-true (nat_abs x) 0 t)))

module _ (rows columns : ℕ) (first rest : List ℤ) (few : length first ≤ 6 * rows) (all : 0 < length rest → 6 * rows ≤ length first) where
  abbrev test : ℕ → Bool
  test k = zero_unless rows columns k (vector (first ++ rest) k)

  pub zero_outside-parts : zero_outside rows columns (first ++ rest) ≡ columns_zero columns first && all_between (pos 0) (pos 0) rest
  zero_outside-parts =
      ap (λ (n : ℕ). all_below n test) (length-append first rest)
      ∙ all_below-parts (length first) (length rest) test
      ∙ ap₂ ◌&&◌ (all_below-cong (length first) test (λ k. zero_past columns (k, vector first k)) of_first) (all_below-cong (length rest) (λ j. test (length first + j)) (λ j. between (pos 0) (pos 0) (vector rest j)) of_rest)
    where
      of_first : (k : ℕ) → k < length first → test k ≡ zero_past columns (k, vector first k)
      of_first k h = ap₂ (λ (t : Bool) (x : ℤ). (t && ltb (k % 6) columns) || eqb (nat_abs x) 0) (lt-ltb (k / 6) rows (omega (arith, few))) (get_or-append first rest (pos 0) k h)

      of_rest : (j : ℕ) → j < length rest → test (length first + j) ≡ between (pos 0) (pos 0) (vector rest j)
      of_rest j h =
          ap₂ (λ (t : Bool) (x : ℤ). (t && ltb ((length first + j) % 6) columns) || eqb (nat_abs x) 0) (le-ltb ((length first + j) / 6) rows (omega (arith, all (omega arith)))) (get_or-append-add first rest j (pos 0))
          ∙ sym (between-zeros (vector rest j))
