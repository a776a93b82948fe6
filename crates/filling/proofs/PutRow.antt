-- Laws of `put_row`, six numbers stored as one row of rows of six. In order: the length and what stands
-- at each place, of the first k and of all; a row beyond the end; as a loop stores them. Assumes nothing.
use mathlib.Core.Path.{◌≡◌, refl, sym, ap, subst, ◌∙◌}
use mathlib.Core.List.{List}
use Prim.Native.Nat.{ℕ, zero, suc, ◌+◌, ◌*◌, ◌≤◌, ◌<◌}
use native.Mathlib.Decide.{dec_lt}
use native.Mathlib.Numerals.{add-one}
use native.Mathlib.Omega.{arith}
use lib.ListN.{length, set, length-set}
use lib.Seq.{set_out, get_or-set_same, get_or-set_other}
use lib.IntN.{ℤ, pos}
use Rattle.integers.specs.Sums.{vector}
use Rattle.filling.specs.Models.{put_first, put_row}

module _ (row : ℕ) (six : List ℤ) where
  length-put : (k : ℕ) (xs : List ℤ) → length (put_first k xs row six) ≡ length xs
  length-put zero xs = refl
  length-put (suc k) xs = length-set (put_first k xs row six) (6 * row + k) (vector six k) ∙ length-put k xs

  put_other : (k : ℕ) (xs : List ℤ) (j : ℕ) → ((i : ℕ) → i < k → j ≡ 6 * row + i → ⊥) → vector (put_first k xs row six) j ≡ vector xs j
  put_other zero xs j h = refl
  put_other (suc k) xs j h =
      get_or-set_other (put_first k xs row six) (6 * row + k) j (vector six k) (pos 0) (h k (omega arith)) ∙ put_other k xs j (λ i l. h i (omega arith))

  put_same : (k : ℕ) (xs : List ℤ) → 6 * row + k ≤ length xs → (i : ℕ) → i < k → vector (put_first k xs row six) (6 * row + i) ≡ vector six i
  put_same zero xs h i l = absurd (omega arith)
  put_same (suc k) xs h i l =
      elim (dec_lt i k) [ yes b ↦ get_or-set_other (put_first k xs row six) (6 * row + k) (6 * row + i) (vector six k) (pos 0) (λ e. omega arith) ∙ put_same k xs (omega arith) i b | no g ↦ here (omega (arith, g)) ]
    where
      here : k ≡ i → vector (put_first (suc k) xs row six) (6 * row + i) ≡ vector six i
      here e = subst (λ (j : ℕ). vector (put_first (suc k) xs row six) (6 * row + j) ≡ vector six j) e (get_or-set_same (put_first k xs row six) (6 * row + k) (vector six k) (pos 0) (omega (arith, length-put k xs)))

  put-beyond : (k : ℕ) (xs : List ℤ) → length xs ≤ 6 * row → put_first k xs row six ≡ xs
  put-beyond zero xs h = refl
  put-beyond (suc k) xs h =
      ap (λ (ys : List ℤ). set ys (6 * row + k) (vector six k)) (put-beyond k xs h) ∙ set_out xs (6 * row + k) (vector six k) (omega arith)

  -- a row beyond the end
  pub put_row-beyond : (xs : List ℤ) → length xs ≤ 6 * row → put_row xs row six ≡ xs
  unfolding put_row
  put_row-beyond xs h = put-beyond 6 xs h

  pub length-put_row : (xs : List ℤ) → length (put_row xs row six) ≡ length xs
  unfolding put_row
  length-put_row xs = length-put 6 xs

  -- a place that the row does not have
  pub put_row-other : (xs : List ℤ) (j : ℕ) → ((i : ℕ) → i < 6 → j ≡ 6 * row + i → ⊥) → vector (put_row xs row six) j ≡ vector xs j
  unfolding put_row
  put_row-other xs j h = put_other 6 xs j h

  -- a place of the row
  pub put_row-same : (xs : List ℤ) → 6 * row + 6 ≤ length xs → (i : ℕ) → i < 6 → vector (put_row xs row six) (6 * row + i) ≡ vector six i
  unfolding put_row
  put_row-same xs h i l = put_same 6 xs h i l

-- ---- as a loop stores them

-- The first i are stored.
pub record RowSoFar (xs₀ : List ℤ) (row : ℕ) (six : List ℤ) (i : ℕ) (xs : List ℤ) : Type 0 where
  pub within : i ≤ 6
  pub stored : xs ≡ put_first i xs₀ row six

module _ {xs₀ : List ℤ} {row : ℕ} {six : List ℤ} {i : ℕ} {xs : List ℤ} (s : RowSoFar xs₀ row six i xs) where
  pub row_more : {x : ℤ} {ys : List ℤ} → i < 6 → x ≡ vector six i → ys ≡ set xs (6 * row + i) x → RowSoFar xs₀ row six (i + 1) ys
  row_more h e f = record { within = omega arith; stored = f ∙ ap (set xs (6 * row + i)) e ∙ rw (s.stored, add-one) }

  -- a place beyond the end
  pub row-beyond : {ys : List ℤ} → i < 6 → length xs ≤ 6 * row + i → ys ≡ xs → RowSoFar xs₀ row six (i + 1) ys
  row-beyond h k f = row_more h refl (f ∙ sym (set_out xs (6 * row + i) (vector six i) k))

  pub row-length : length xs ≡ length xs₀
  row-length = ap length s.stored ∙ length-put row six i xs₀

  pub row_done : 6 ≤ i → xs ≡ put_row xs₀ row six
  unfolding put_row
  row_done h = let e : i ≡ 6 = omega arith in s.stored ∙ ap (λ (k : ℕ). put_first k xs₀ row six) e
