-- The first points of a set, as a reader has them before the next one. In order: what stands in the block; its reach, which is no larger
-- than that of the whole set (Sets 19); what a reader tests of it. Assumes nothing.
use mathlib.Core.Path.{◌≡◌, refl, sym, ap, ap₂, subst, ◌∙◌}
use mathlib.Core.Bool.{Bool, true, false, not, ◌&&◌, ◌||◌}
use mathlib.Core.List.{List}
use Prim.Native.Nat.{ℕ, zero, suc, ◌+◌, ◌*◌, ◌-◌, ◌≤◌, ◌<◌}
use native.Mathlib.Nat.{le_trans}
use native.Mathlib.Decide.{dec_lt}
use native.Mathlib.Omega.{arith}
use borrow.Author.Tests.{le-leb, leb-true}
use lib.Dec.{leb}
use lib.IntN.{ℤ, pos, nat_abs}
use Rattle.std.specs.Prelude.{Option}
use Rattle.integers.specs.Sums.{max_ℕ}
use Rattle.integers.proofs.Booleans.{and-true}
use Rattle.integers.proofs.Sums.{sum_ℕ-le, all_below-intro, all_below-at, le-max_ℕ, max_ℕ-le}
use Rattle.arrays.specs.Tests.{zero_outside}
use Rattle.limits.specs.Limits.{corners_ordered}
use Rattle.reachability.specs.declared.sets.Shape.{Shape}
use Rattle.reachability.specs.declared.sets.Shape.TheVariants.{Box, Zonotope, Vertices}
use Rattle.reachability.specs.declared.sets.Set.{Set}
use Rattle.reachability.specs.Sets.{points, reach_of, reach_limit, reach_ok, reach_within, count_ok, ordered_ok, set_ok}
use Rattle.reachability.specs.Entering.{entering_reach, entering_ok}
use Rattle.reachability.proofs.sets.Facts.{counted_of}
use Rattle.records.specs.declared.kinds.Point.{Point}
use Rattle.filling.proofs.FromTheFront.{kept-below, kept-beyond, kept_rows, rows_all}
use Rattle.reader.specs.Values.{is_upper, point_ok, entering_point_ok}

-- Before the first point the shape is that of the blank set.
unfoldable pub so_far : Shape → ℕ → List ℤ → Set
so_far shape zero xs = record { shape = Box; count = 0; points = kept_rows 0 xs }
so_far shape (suc k) xs = record { shape = shape; count = suc k; points = kept_rows (suc k) xs }

-- ---- the block

size-kept : (rows : ℕ) (xs : List ℤ) (p i : ℕ) → i < 6 → nat_abs (points (kept_rows rows xs) p i) ≤ nat_abs (points xs p i)
size-kept rows xs p i h =
    elim (dec_lt p rows) [
      | yes l ↦ subst (λ (z : ℤ). nat_abs z ≤ nat_abs (points xs p i)) (sym (kept-below (pos 0) (6 * rows) xs (6 * p + i) (omega arith))) (omega arith)
      | no g ↦ subst (λ (z : ℤ). nat_abs z ≤ nat_abs (points xs p i)) (sym (kept-beyond (pos 0) (6 * rows) xs (6 * p + i) (omega (arith, g)))) (omega arith)
    ]

-- ---- its reach

module _ (count : ℕ) (xs : List ℤ) (k i : ℕ) (h : i < 6) (within : suc k ≤ count) where
  pub reach-kept : (shape : Shape) → reach_of shape (suc k) (points (kept_rows (suc k) xs)) i ≤ reach_of shape count (points xs) i
  reach-kept Box = omega (arith, size-kept (suc k) xs 0 i h, size-kept (suc k) xs 1 i h)
  reach-kept Zonotope =
      let rest = sum_ℕ-le (suc k - 1) (count - 1) (λ j. nat_abs (points (kept_rows (suc k) xs) (suc j) i)) (λ j. nat_abs (points xs (suc j) i)) (omega arith) (λ j. size-kept (suc k) xs (suc j) i h) in
      omega (arith, size-kept (suc k) xs 0 i h, rest)
  reach-kept Vertices =
      max_ℕ-le (suc k) (max_ℕ count (λ j. nat_abs (points xs j i))) {f = λ j. nat_abs (points (kept_rows (suc k) xs) j i)}
      (λ j l. le_trans (size-kept (suc k) xs j i h) (le-max_ℕ count (λ q. nat_abs (points xs q i)) j (omega arith)))

-- ---- what a reader tests of it

module _ (n count : ℕ) (shape : Shape) (xs : List ℤ) (k : ℕ) (ok : set_ok n shape count xs ≡ true) (within : suc k ≤ count) where
  parts : (count_ok shape count ≡ true) × (zero_outside count n xs ≡ true) × (reach_ok shape count (points xs) ≡ true) × (ordered_ok n shape (points xs) ≡ true)
  parts =
      let a = and-true (count_ok shape count) (zero_outside count n xs && (reach_ok shape count (points xs) && ordered_ok n shape (points xs))) ok in
      let b = and-true (zero_outside count n xs) (reach_ok shape count (points xs) && ordered_ok n shape (points xs)) a.1 in
      let c = and-true (reach_ok shape count (points xs)) (ordered_ok n shape (points xs)) b.1 in
      (a.0, b.0, c.0, c.1)

  counted : leb 1 (suc k) && leb (suc k) 16 ≡ true
  counted =
      let c = counted_of shape count parts.0 in
      ap₂ ◌&&◌ (le-leb 1 (suc k) (omega arith)) (le-leb (suc k) 16 (omega (arith, c.most)))

  reach-passes : reach_within shape (suc k) (kept_rows (suc k) xs) ≡ true
  reach-passes =
      ap₂ ◌&&◌ counted
      (all_below-intro 6 (λ i. leb (reach_of shape (suc k) (points (kept_rows (suc k) xs)) i) reach_limit)
      (λ i h. le-leb _ reach_limit (le_trans (reach-kept count xs k i h within shape) (leb-true (reach_of shape count (points xs) i) reach_limit (all_below-at 6 (λ j. leb (reach_of shape count (points xs) j) reach_limit) parts.2 i h)))))

  -- at the upper corner the box is whole
  corners-pass : n ≤ 6 → (s : Shape) → s ≡ shape → s ≡ Box → suc k ≡ count → corners_ordered n (kept_rows (suc k) xs) ≡ true
  corners-pass few s e box all =
      ap (corners_ordered n) (ap (λ (j : ℕ). kept_rows j xs) all ∙ rows_all count n xs parts.1)
      ∙ ap₂ ◌&&◌ (le-leb n 6 few) (subst (λ (t : Shape). ordered_ok n t (points xs) ≡ true) (sym e ∙ box) parts.3)

  pub point-passes : n ≤ 6 → (point : Option Point) → (is_upper point ≡ true → (shape ≡ Box) × (suc k ≡ count)) → point_ok n point (so_far shape (suc k) xs) ≡ true
  unfolding so_far point_ok
  point-passes few point upper = ap₂ ◌&&◌ reach-passes (corners (is_upper point) refl)
    where
      corners : (b : Bool) → is_upper point ≡ b → not b || corners_ordered n (kept_rows (suc k) xs) ≡ true
      corners true e = corners-pass few shape refl (upper e).0 (upper e).1
      corners false e = refl

  pub entering-passes : (input : Bool) (drift : List ℤ) → (input ≡ true → entering_ok shape count xs drift ≡ true) → entering_point_ok input (so_far shape (suc k) xs) drift ≡ true
  unfolding so_far
  entering-passes false drift enters = refl
  entering-passes true drift enters =
      ap₂ ◌&&◌ counted
      (all_below-intro 6 (λ i. leb (entering_reach shape (suc k) (kept_rows (suc k) xs) drift i) reach_limit)
      (λ i h. le-leb _ reach_limit (more i h (leb-true (entering_reach shape count xs drift i) reach_limit (all_below-at 6 (λ j. leb (entering_reach shape count xs drift j) reach_limit) (enters refl) i h)))))
    where
      more : (i : ℕ) → i < 6 → entering_reach shape count xs drift i ≤ reach_limit → entering_reach shape (suc k) (kept_rows (suc k) xs) drift i ≤ reach_limit
      more i h l = omega (arith, reach-kept count xs k i h within shape, l)
