-- A list that is filled from the front, element by element or row by row, with one value in the places to come: what it starts as, one
-- element or one row more, and that in the end it is the list it was filled from. Assumes nothing.
use mathlib.Core.Path.{◌≡◌, refl, sym, ap, ap₂, ◌∙◌}
use mathlib.Core.Bool.{Bool, true, ◌&&◌}
use mathlib.Core.List.{List, [], ◌∷◌}
use Prim.Native.Nat.{ℕ, zero, suc, ◌+◌, ◌*◌, ◌/◌, ◌%◌, ◌≤◌, ◌<◌}
use native.Mathlib.Omega.{arith}
use borrow.Author.Tests.{le-ltb}
use lib.Dec.{ltb}
use lib.ListN.{length, get_or, set, replicate}
use lib.IntN.{ℤ, pos}
use Rattle.integers.specs.Sums.{vector, matrix}
use Rattle.arrays.specs.Tests.{zero_outside}
use Rattle.arrays.proofs.Tests.{zero_outside-at}
use Rattle.filling.specs.Models.{put_first, put_row}

-- The first k elements of a list, and z in the place of each other one.
pub kept : {A : Type 0} → A → ℕ → List A → List A
kept z k [] = []
kept z zero (x ∷ xs) = z ∷ kept z zero xs
kept z (suc k) (x ∷ xs) = x ∷ kept z k xs

module _ {A : Type 0} (z : A) where
  -- at the start
  pub kept-none : (xs : List A) → kept z 0 xs ≡ replicate (length xs) z
  unfolding kept
  kept-none [] = refl
  kept-none (x ∷ xs) = ap (λ (l : List A). z ∷ l) (kept-none xs)

  -- one element more; beyond the end nothing changes
  pub kept_more : (k : ℕ) (xs : List A) → set (kept z k xs) k (get_or xs k z) ≡ kept z (suc k) xs
  unfolding kept
  kept_more k [] = refl
  kept_more zero (x ∷ xs) = refl
  kept_more (suc k) (x ∷ xs) = ap (λ (l : List A). x ∷ l) (kept_more k xs)

  -- all that are not z
  pub kept-all : (k : ℕ) (xs : List A) → ((j : ℕ) → k ≤ j → get_or xs j z ≡ z) → kept z k xs ≡ xs
  unfolding kept
  kept-all k [] h = refl
  kept-all zero (x ∷ xs) h = ap₂ (λ (y : A) (l : List A). y ∷ l) (sym (h 0 (omega arith))) (kept-all zero xs (λ j l. h (suc j) (omega arith)))
  kept-all (suc k) (x ∷ xs) h = ap (λ (l : List A). x ∷ l) (kept-all k xs (λ j l. h (suc j) (omega arith)))

  -- what stands at each place
  pub kept-below : (k : ℕ) (xs : List A) (j : ℕ) → j < k → get_or (kept z k xs) j z ≡ get_or xs j z
  unfolding kept
  kept-below k [] j h = refl
  kept-below zero (x ∷ xs) j h = absurd (omega arith)
  kept-below (suc k) (x ∷ xs) zero h = refl
  kept-below (suc k) (x ∷ xs) (suc j) h = kept-below k xs j (omega arith)

  pub kept-beyond : (k : ℕ) (xs : List A) (j : ℕ) → k ≤ j → get_or (kept z k xs) j z ≡ z
  unfolding kept
  kept-beyond k [] j h = refl
  kept-beyond zero (x ∷ xs) zero h = refl
  kept-beyond zero (x ∷ xs) (suc j) h = kept-beyond zero xs j (omega arith)
  kept-beyond (suc k) (x ∷ xs) zero h = absurd (omega arith)
  kept-beyond (suc k) (x ∷ xs) (suc j) h = kept-beyond k xs j (omega arith)

-- ---- row by row

-- The first so many rows of six.
abbrev pub kept_rows : ℕ → List ℤ → List ℤ
kept_rows rows xs = kept (pos 0) (6 * rows) xs

-- All rows that are not zero.
pub rows_all : (rows columns : ℕ) (xs : List ℤ) → zero_outside rows columns xs ≡ true → kept_rows rows xs ≡ xs
rows_all rows columns xs z =
    kept-all (pos 0) (6 * rows) xs (λ j h. zero_outside-at rows columns xs z j (ap (λ (b : Bool). b && ltb (j % 6) columns) (le-ltb (j / 6) rows (omega arith))))

module _ (row : ℕ) (xs six : List ℤ) (is : (i : ℕ) → i < 6 → vector six i ≡ matrix xs row i) where
  put-kept : (k : ℕ) → k ≤ 6 → put_first k (kept_rows row xs) row six ≡ kept (pos 0) (6 * row + k) xs
  put-kept zero h = ap (λ (j : ℕ). kept (pos 0) j xs) none
    where
      none : 6 * row ≡ 6 * row + 0
      none = omega arith
  put-kept (suc k) h =
      ap₂ (λ (l : List ℤ) (x : ℤ). set l (6 * row + k) x) (put-kept k (omega arith)) (is k (omega arith))
      ∙ kept_more (pos 0) (6 * row + k) xs
      ∙ ap (λ (j : ℕ). kept (pos 0) j xs) next
    where
      next : suc (6 * row + k) ≡ 6 * row + suc k
      next = omega arith

  -- one row more
  pub put_row-kept : put_row (kept_rows row xs) row six ≡ kept_rows (suc row) xs
  unfolding put_row
  put_row-kept = put-kept 6 (omega arith) ∙ ap (λ (j : ℕ). kept (pos 0) j xs) next
    where
      next : 6 * row + 6 ≡ 6 * suc row
      next = omega arith
