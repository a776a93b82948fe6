-- What a block of rows of six is known to satisfy, place by place, as rows are stored in it. In order: blank blocks; a row stored;
-- zeros; limits; directions that are not zero; guards. Not here: the tests of number 11 from what is known of each place
-- (`arrays`, `Introduction`). Assumes nothing.
use mathlib.Core.Path.{◌≡◌, sym, ap, ap₂, subst, ◌∙◌}
use mathlib.Core.Bool.{true, false, not, ◌&&◌}
use mathlib.Core.List.{List}
use Prim.Native.Nat.{ℕ, ◌+◌, ◌*◌, ◌≤◌, ◌<◌}
use native.Mathlib.Decide.{dec_lt}
use native.Mathlib.Omega.{arith}
use borrow.Author.Tests.{lt-ltb, le-ltb, eq-eqb, le-leb}
use lib.Dec.{eqb}
use lib.ListN.{length, get_or, set}
use lib.Seq.{get_or-set_same, get_or-set_other}
use lib.IntN.{ℤ, pos, nat_abs}
use Rattle.integers.specs.Sums.{vector, matrix}
use Rattle.integers.proofs.Sums.{all_below-intro, all_below-cong}
use Rattle.integers.proofs.Machine.{get_or-replicate-default}
use Rattle.arrays.proofs.Tests.{Zeros, Small}
use Rattle.limits.specs.Limits.{all_zero, some_nonzero, guard_ok, guards_ok}
use Rattle.filling.specs.Models.{zeros, put_row}
use Rattle.filling.proofs.PutRow.{put_row-other, put_row-same}

-- ---- blank blocks

pub vector-zeros : (n k : ℕ) → vector (zeros n) k ≡ pos 0
unfolding zeros
vector-zeros n k = get_or-replicate-default n k (pos 0)

-- ---- a row stored

module _ (xs : List ℤ) (row : ℕ) (six : List ℤ) where
  pub matrix-put_row-same : 6 * row + 6 ≤ length xs → (i : ℕ) → i < 6 → matrix (put_row xs row six) row i ≡ vector six i
  matrix-put_row-same h i l = put_row-same row six xs h i l

  pub matrix-put_row-other : (p i : ℕ) → i < 6 → (p ≡ row → ⊥) → matrix (put_row xs row six) p i ≡ matrix xs p i
  matrix-put_row-other p i l ne = put_row-other row six xs (6 * p + i) (λ j b e. ne (omega arith))

  -- by the row: what holds of the six numbers, and of the block, holds of the block with the row
  pub matrix-put_row-ind : (P : ℕ → ℕ → ℤ → Type 0) → 6 * row + 6 ≤ length xs → ((i : ℕ) → i < 6 → P row i (vector six i)) → ((p i : ℕ) → i < 6 → (p ≡ row → ⊥) → P p i (matrix xs p i)) → (p i : ℕ) → i < 6 → P p i (matrix (put_row xs row six) p i)
  matrix-put_row-ind P h new old p i l = elim (dec_lt p row) [ yes b ↦ kept (λ e. omega arith) | no g ↦ elim (dec_lt row p) [ yes b ↦ kept (λ e. omega arith) | no k ↦ stored (omega (arith, g, k)) ] ]
    where
      kept : (p ≡ row → ⊥) → P p i (matrix (put_row xs row six) p i)
      kept ne = subst (P p i) (sym (matrix-put_row-other p i l ne)) (old p i l ne)

      stored : row ≡ p → P p i (matrix (put_row xs row six) p i)
      stored e = subst (λ (q : ℕ). P q i (matrix (put_row xs row six) q i)) e (subst (P row i) (sym (matrix-put_row-same h i l)) (new i l))

-- ---- zeros

pub zeros-blank : (n rows columns : ℕ) → Zeros rows columns (zeros n)
zeros-blank n rows columns = record { row = λ p i l h. vector-zeros n (6 * p + i); column = λ p i l h. vector-zeros n (6 * p + i) }

pub zeros-put_row : (n : ℕ) (xs : List ℤ) (row : ℕ) (six : List ℤ) → 6 * row + 6 ≤ length xs → ((i : ℕ) → n ≤ i → vector six i ≡ pos 0) → Zeros row n xs → Zeros (row + 1) n (put_row xs row six)
zeros-put_row n xs row six h beyond z =
    record {
      row = matrix-put_row-ind xs row six (λ p i x. row + 1 ≤ p → x ≡ pos 0) h (λ i l k. absurd (omega arith)) (λ p i l ne k. z.row p i l (omega arith));
      column = matrix-put_row-ind xs row six (λ p i x. n ≤ i → x ≡ pos 0) h (λ i l k. beyond i k) (λ p i l ne k. z.column p i l k);
    }

-- ---- limits

pub small-blank : (limit n : ℕ) → Small limit (zeros n)
small-blank limit n = record { at = λ p i l. subst (λ (x : ℤ). nat_abs x ≤ limit) (sym (vector-zeros n (6 * p + i))) (omega arith) }

pub small-put_row : (limit : ℕ) (xs : List ℤ) (row : ℕ) (six : List ℤ) → 6 * row + 6 ≤ length xs → ((i : ℕ) → i < 6 → nat_abs (vector six i) ≤ limit) → Small limit xs → Small limit (put_row xs row six)
small-put_row limit xs row six h new s =
    record { at = matrix-put_row-ind xs row six (λ p i x. nat_abs x ≤ limit) h new (λ p i l ne. s.at p i l) }

-- ---- directions that are not zero

pub record Nonzero (count : ℕ) (xs : List ℤ) : Type 0 where
  pub at : (k : ℕ) → k < count → all_zero xs k ≡ false

pub nonzero-none : (xs : List ℤ) → Nonzero 0 xs
nonzero-none xs = record { at = λ k h. absurd (omega arith) }

pub nonzero-put_row : (xs : List ℤ) (row : ℕ) (six : List ℤ) → 6 * row + 6 ≤ length xs → all_zero six 0 ≡ false → Nonzero row xs → Nonzero (row + 1) (put_row xs row six)
nonzero-put_row xs row six h new s = record { at = λ k l. elim (dec_lt k row) [ yes b ↦ kept k b | no g ↦ stored k (omega (arith, g)) ] }
  where
    kept : (k : ℕ) → k < row → all_zero (put_row xs row six) k ≡ false
    kept k b =
        all_below-cong 6 (λ i. eqb (nat_abs (matrix (put_row xs row six) k i)) 0) (λ i. eqb (nat_abs (matrix xs k i)) 0) (λ i l. ap (λ (x : ℤ). eqb (nat_abs x) 0) (matrix-put_row-other xs row six k i l (λ e. omega arith)))
        ∙ s.at k b

    first : (i : ℕ) → i ≡ 6 * 0 + i
    first i = omega arith

    stored : (k : ℕ) → row ≡ k → all_zero (put_row xs row six) k ≡ false
    stored k e =
        subst (λ (j : ℕ). all_zero (put_row xs row six) j ≡ false) e
        (all_below-cong 6 (λ i. eqb (nat_abs (matrix (put_row xs row six) row i)) 0) (λ i. eqb (nat_abs (matrix six 0 i)) 0)
        (λ i l. ap (λ (x : ℤ). eqb (nat_abs x) 0) (matrix-put_row-same xs row six h i l ∙ ap (vector six) (first i)))
        ∙ new)

pub some_nonzero-of : (count : ℕ) (xs : List ℤ) → Nonzero count xs → some_nonzero count xs ≡ true
some_nonzero-of count xs s = all_below-intro count (λ k. not (all_zero xs k)) (λ k l. ap not (s.at k l))

-- ---- guards

pub record Guarded (directions guards : ℕ) (watched : List ℕ) (levels : List ℤ) : Type 0 where
  pub on : (g : ℕ) → g < guards → get_or watched g 0 < directions
  pub none : (g : ℕ) → guards ≤ g → get_or watched g 0 ≡ 0
  pub level : (g : ℕ) → guards ≤ g → vector levels g ≡ pos 0

pub guarded-more : (directions guards : ℕ) (watched : List ℕ) (levels : List ℤ) → Guarded directions guards watched levels → Guarded (directions + 1) guards watched levels
guarded-more directions guards watched levels s = record { on = λ g h. omega (arith, s.on g h); none = s.none; level = s.level }

pub guarded-set : (directions guards : ℕ) (watched : List ℕ) (levels : List ℤ) (d : ℕ) (l : ℤ) → guards < length watched → d < directions → Guarded directions guards watched levels → Guarded directions (guards + 1) (set watched guards d) (set levels guards l)
guarded-set directions guards watched levels d l h small s =
    record {
      on = λ g b. elim (dec_lt g guards) [ yes k ↦ subst (λ (x : ℕ). x < directions) (sym (get_or-set_other watched guards g d 0 (λ e. omega arith))) (s.on g k) | no k ↦ here g (omega (arith, k)) ];
      none = λ g b. get_or-set_other watched guards g d 0 (λ e. omega arith) ∙ s.none g (omega arith);
      level = λ g b. get_or-set_other levels guards g l (pos 0) (λ e. omega arith) ∙ s.level g (omega arith);
    }
  where
    here : (g : ℕ) → guards ≡ g → get_or (set watched guards d) g 0 < directions
    here g e = subst (λ (j : ℕ). get_or (set watched guards d) j 0 < directions) e (subst (λ (x : ℕ). x < directions) (sym (get_or-set_same watched guards d 0 h)) small)

pub guards_ok-of : (directions guards : ℕ) (watched : List ℕ) (levels : List ℤ) → guards ≤ 16 → Guarded directions guards watched levels → guards_ok directions guards watched levels ≡ true
guards_ok-of directions guards watched levels h s =
    ap₂ ◌&&◌ (le-leb guards 16 h)
    (all_below-intro 16 (λ g. guard_ok directions guards g (get_or watched g 0) (vector levels g))
    (λ g l. elim (dec_lt g guards) [ yes b ↦ below g b (get_or watched g 0) (vector levels g) (s.on g b) | no k ↦ beyond g (omega (arith, k)) (get_or watched g 0) (vector levels g) (s.none g (omega (arith, k))) (s.level g (omega (arith, k))) ]))
  where
    below : (g : ℕ) → g < guards → (w : ℕ) (x : ℤ) → w < directions → guard_ok directions guards g w x ≡ true
    below g b w x k = simp (lt-ltb g guards b, lt-ltb w directions k)

    beyond : (g : ℕ) → guards ≤ g → (w : ℕ) (x : ℤ) → w ≡ 0 → x ≡ pos 0 → guard_ok directions guards g w x ≡ true
    beyond g b w x e f = simp (le-ltb g guards b, eq-eqb w 0 e, f)
