-- Sets 20: a stored set that is moved by a vector. In order: its points; its support; its reach; which points lie in it; that it breaks
-- no rule where the reach of what enters is within its limit. Assumes nothing.
use mathlib.Core.Path.{◌≡◌, refl, sym, ap, ap₂, subst, ◌∙◌}
use mathlib.Core.Bool.{Bool, true, false, cond, ◌&&◌}
use mathlib.Core.List.{List}
use Prim.Native.Nat.{ℕ, zero, suc, ◌+◌, ◌*◌, ◌-◌, ◌%◌, ◌≤◌, ◌<◌, max}
use native.Mathlib.Nat.{le_refl, le_trans, lt_of_lt_of_le}
use native.Mathlib.Decide.{dec_lt}
use native.Mathlib.Omega.{arith}
use borrow.Author.Tests.{lt-ltb, le-ltb, le-leb, eqb-true}
use lib.Dec.{leb, ltb}
use lib.ListN.{get_or-eq_default}
use lib.IntN.{ℤ, pos, nat_abs, ◌+ℤ◌, ◌*ℤ◌, *ℤ_comm}
use lib.Signed.{lt_z, le_z}
use Rattle.integers.specs.Whole.{◌⩽◌}
use Rattle.integers.specs.Sums.{vector, sum, sum_ℕ, max_ℕ, dot}
use Rattle.integers.proofs.SignedParts.{v, #, ◌⊕◌, eq!, eq?, le!, le?}
use Rattle.integers.proofs.Order.{mul_ℤ-add, ⩽-refl, ⩽-add, ⩽-of-le_z, le_z-of-⩽, lt-of-lt_z, le-of-lt_z-false, nat_abs-add}
use Rattle.integers.proofs.Sums.{sum-cong, sum-add, sum_ℕ-cong, dot-add, le-max_ℕ, max_ℕ-le, all_below-at, all_below-intro, pos-sum_ℕ, sum-scale}
use Rattle.integers.proofs.Machine.{length-tabulate, get_or-tabulate}
use Rattle.arrays.specs.Tests.{zero_outside}
use Rattle.arrays.proofs.Tests.{Zeros, zero_outside-of, zero_outside-row, zero_outside-column}
use Rattle.reachability.specs.Sets.{points, larger, largest, support_of, reach_of, reach_limit, Member, count_ok, ordered_ok, set_ok}
use Rattle.reachability.specs.Entering.{entering_reach}
use Rattle.reachability.specs.Moved.{moved_count, moved_points}
use Rattle.reachability.specs.declared.sets.Shape.{Shape}
use Rattle.reachability.specs.declared.sets.Shape.TheVariants.{Box, Zonotope, Vertices}
use Rattle.reachability.proofs.sets.PointByPoint.{largest-cong}
use Rattle.reachability.proofs.sets.Facts.{counted_of}

-- ---- points

-- p' has the vector added in its first points, those that a shape moves, and is p in the others.
pub record MovedBy (n : ℕ) (shape : Shape) (count : ℕ) (p p' : ℕ → ℕ → ℤ) (by : ℕ → ℤ) : Type 0 where
  pub moved : (k i : ℕ) → k < moved_count shape count → i < n → p' k i ≡ p k i +ℤ by i
  pub kept : (k i : ℕ) → moved_count shape count ≤ k → k < count → i < n → p' k i ≡ p k i

module _ (shape : Shape) (count : ℕ) (xs by : List ℤ) where
  abbrev to : ℕ
  to = 6 * moved_count shape count

  abbrev moved_at : ℕ → ℤ
  moved_at k = cond (ltb k to) (vector xs k +ℤ vector by (k % 6)) (vector xs k)

  stored_at : (k : ℕ) → k < 96 → vector (moved_points shape count xs by) k ≡ moved_at k
  stored_at k h = get_or-tabulate 96 moved_at k (pos 0) h

  -- point k, for a k that is moved and for one that is not
  point-moved : (k i : ℕ) → k < moved_count shape count → k < 16 → i < 6 → points (moved_points shape count xs by) k i ≡ points xs k i +ℤ vector by i
  point-moved k i m h l =
      stored_at (6 * k + i) (omega arith)
      ∙ ap (λ (b : Bool). cond b (vector xs (6 * k + i) +ℤ vector by ((6 * k + i) % 6)) (vector xs (6 * k + i))) (lt-ltb (6 * k + i) to (omega arith))
      ∙ ap (λ (j : ℕ). vector xs (6 * k + i) +ℤ vector by j) (column k i l)
    where
      column : (k i : ℕ) → i < 6 → (6 * k + i) % 6 ≡ i
      column k i l = omega arith

  point-kept : (k i : ℕ) → moved_count shape count ≤ k → k < 16 → i < 6 → points (moved_points shape count xs by) k i ≡ points xs k i
  point-kept k i m h l =
      stored_at (6 * k + i) (omega arith)
      ∙ ap (λ (b : Bool). cond b (vector xs (6 * k + i) +ℤ vector by ((6 * k + i) % 6)) (vector xs (6 * k + i))) (le-ltb (6 * k + i) to (omega arith))

  pub points-moved : (n : ℕ) → n ≤ 6 → count_ok shape count ≡ true → MovedBy n shape count (points xs) (points (moved_points shape count xs by)) (vector by)
  points-moved n n≤6 c =
      record {
        moved = λ k i m l. point-moved k i m (lt_of_lt_of_le m (moved-most shape count c)) (lt_of_lt_of_le l n≤6);
        kept = λ k i m h l. point-kept k i m (lt_of_lt_of_le h (counted_of shape count c).most) (lt_of_lt_of_le l n≤6);
      }
    where
      moved-most : (shape : Shape) (count : ℕ) → count_ok shape count ≡ true → moved_count shape count ≤ 16
      moved-most Box count c = omega arith
      moved-most Zonotope count c = omega arith
      moved-most Vertices count c = (counted_of Vertices count c).most

-- ---- support

-- the larger of two numbers, with the same added to both
larger-shift : (a b c : ℤ) → larger (a +ℤ c) (b +ℤ c) ≡ larger a b +ℤ c
larger-shift a b c = at (lt_z a b) (lt_z (a +ℤ c) (b +ℤ c)) refl refl
  where
    at : (s t : Bool) → lt_z a b ≡ s → lt_z (a +ℤ c) (b +ℤ c) ≡ t → cond t (b +ℤ c) (a +ℤ c) ≡ cond s b a +ℤ c
    at true true p q = refl
    at false false p q = refl
    at true false p q = absurd (omega (arith, le? (v a ⊕ # 1) (v b) (lt-of-lt_z a b p), le? (v b ⊕ v c) (v a ⊕ v c) (le-of-lt_z-false (a +ℤ c) (b +ℤ c) q)))
    at false true p q = absurd (omega (arith, le? (v b) (v a) (le-of-lt_z-false a b p), le? ((v a ⊕ v c) ⊕ # 1) (v b ⊕ v c) (lt-of-lt_z (a +ℤ c) (b +ℤ c) q)))

largest-shift : (k : ℕ) (f : ℕ → ℤ) (c : ℤ) → largest k (λ j. f j +ℤ c) ≡ largest k f +ℤ c
unfolding largest
largest-shift zero f c = refl
largest-shift (suc k) f c = ap (λ (z : ℤ). larger z (f (suc k) +ℤ c)) (largest-shift k f c) ∙ larger-shift (largest k f) (f (suc k)) c

-- a product of a moved point
dot-moved : (n : ℕ) (r p by : ℕ → ℤ) {p' : ℕ → ℤ} → ((i : ℕ) → i < n → p' i ≡ p i +ℤ by i) → dot n r p' ≡ dot n r p +ℤ dot n r by
dot-moved n r p by e = sum-cong n (λ i h. ap (λ (z : ℤ). r i *ℤ z) (e i h)) ∙ dot-add n r p by

dot-kept : (n : ℕ) (r p : ℕ → ℤ) {p' : ℕ → ℤ} → ((i : ℕ) → i < n → p' i ≡ p i) → dot n r p' ≡ dot n r p
dot-kept n r p e = sum-cong n (λ i h. ap (λ (z : ℤ). r i *ℤ z) (e i h))

pub support-moved : (n : ℕ) (shape : Shape) (count : ℕ) {p p' : ℕ → ℕ → ℤ} {by : ℕ → ℤ} → 1 ≤ count → MovedBy n shape count p p' by → (r : ℕ → ℤ) → support_of n shape count p' r ≡ support_of n shape count p r +ℤ dot n r by
support-moved n Box count {p} {p'} {by} some m r =
    sum-cong n (λ i h. at i h (lt_z (pos 0) (r i))) ∙ sum-add n (λ i. r i *ℤ cond (lt_z (pos 0) (r i)) (p 1 i) (p 0 i)) (λ i. r i *ℤ by i)
  where
    at : (i : ℕ) → i < n → (b : Bool) → r i *ℤ cond b (p' 1 i) (p' 0 i) ≡ r i *ℤ cond b (p 1 i) (p 0 i) +ℤ r i *ℤ by i
    at i h true = ap (λ (z : ℤ). r i *ℤ z) (m.moved 1 i (omega arith) h) ∙ mul_ℤ-add (r i) (p 1 i) (by i)
    at i h false = ap (λ (z : ℤ). r i *ℤ z) (m.moved 0 i (omega arith) h) ∙ mul_ℤ-add (r i) (p 0 i) (by i)
support-moved n Zonotope count {p} {p'} {by} some m r =
    ap₂ (λ (x : ℤ) (y : ℕ). x +ℤ pos y) (dot-moved n r (p 0) by (λ i h. m.moved 0 i (omega arith) h)) (sum_ℕ-cong (count - 1) (λ k h. ap nat_abs (dot-kept n r (p (suc k)) (λ i l. m.kept (suc k) i (omega arith) (omega arith) l))))
    ∙ eq! ((v (dot n r (p 0)) ⊕ v (dot n r by)) ⊕ # spread) ((v (dot n r (p 0)) ⊕ # spread) ⊕ v (dot n r by)) (omega arith)
  where
    spread : ℕ
    spread = sum_ℕ (count - 1) (λ k. nat_abs (dot n r (p (suc k))))
support-moved n Vertices count {p} {p'} {by} some m r =
    largest-cong (count - 1) (λ k h. dot-moved n r (p k) by (λ i l. m.moved k i (omega arith) l)) ∙ largest-shift (count - 1) (λ k. dot n r (p k)) (dot n r by)

-- ---- reach

pub reach-moved : (n : ℕ) (shape : Shape) (count : ℕ) {p p' : ℕ → ℕ → ℤ} {by : ℕ → ℤ} → MovedBy n shape count p p' by → (i : ℕ) → i < n → reach_of shape count p' i ≤ reach_of shape count p i + nat_abs (by i)
reach-moved n Box count {p} {p'} {by} m i h =
    both (nat_abs (p 0 i)) (nat_abs (p 1 i)) (nat_abs (by i)) (size-moved 0 (omega arith)) (size-moved 1 (omega arith))
  where
    size-moved : (k : ℕ) → k < 2 → nat_abs (p' k i) ≤ nat_abs (p k i) + nat_abs (by i)
    size-moved k l = subst (λ (z : ℤ). nat_abs z ≤ nat_abs (p k i) + nat_abs (by i)) (sym (m.moved k i l h)) (nat_abs-add (p k i) (by i))

    both : {a b : ℕ} (c d w : ℕ) → a ≤ c + w → b ≤ d + w → max a b ≤ max c d + w
    both c d w x y = omega arith
reach-moved n Zonotope count {p} {p'} {by} m i h =
    together (nat_abs (p 0 i)) (nat_abs (by i)) (subst (λ (z : ℤ). nat_abs z ≤ nat_abs (p 0 i) + nat_abs (by i)) (sym (m.moved 0 i (omega arith) h)) (nat_abs-add (p 0 i) (by i))) (sum_ℕ-cong (count - 1) (λ k l. ap nat_abs (m.kept (suc k) i (omega arith) (omega arith) h)))
  where
    together : {a b d : ℕ} (c w : ℕ) → a ≤ c + w → b ≡ d → a + b ≤ c + d + w
    together c w x y = omega arith
reach-moved n Vertices count {p} {p'} {by} m i h =
    max_ℕ-le count (max_ℕ count (λ k. nat_abs (p k i)) + nat_abs (by i)) (λ k l. subst (λ (z : ℤ). nat_abs z ≤ max_ℕ count (λ j. nat_abs (p j i)) + nat_abs (by i)) (sym (m.moved k i l h)) (at k l))
  where
    at : (k : ℕ) → k < count → nat_abs (p k i +ℤ by i) ≤ max_ℕ count (λ j. nat_abs (p j i)) + nat_abs (by i)
    at k l = omega (arith, nat_abs-add (p k i) (by i), le-max_ℕ count (λ j. nat_abs (p j i)) k l)

-- ---- points that lie in it: x lies in the set where x and the vector lie in the moved one, and the other way round

cancel : (a b c : ℤ) → a +ℤ c ≡ b +ℤ c → a ≡ b
cancel a b c e = eq! (v a) (v b) (omega (arith, eq? (v a ⊕ v c) (v b ⊕ v c) e))

cancel-le : (a b c : ℤ) → a +ℤ c ⩽ b +ℤ c → a ⩽ b
cancel-le a b c e = le! (v a) (v b) (omega (arith, le? (v a ⊕ v c) (v b ⊕ v c) e))

module _ (n count : ℕ) (p p' : ℕ → ℕ → ℤ) (by : ℕ → ℤ) (q : ℕ) where
  abbrev shifted : (ℕ → ℤ) → ℕ → ℤ
  shifted x i = x i +ℤ pos q *ℤ by i

  -- what a zonotope and a hull say of a coordinate, moved
  zonotope-at : MovedBy n Zonotope count p p' by → (factor : ℕ → ℤ) (i : ℕ) → i < n → pos q *ℤ p' 0 i +ℤ sum (count - 1) (λ k. factor k *ℤ p' (suc k) i) ≡ (pos q *ℤ p 0 i +ℤ sum (count - 1) (λ k. factor k *ℤ p (suc k) i)) +ℤ pos q *ℤ by i
  zonotope-at m factor i h =
      ap₂ ◌+ℤ◌ (ap (λ (z : ℤ). pos q *ℤ z) (m.moved 0 i (omega arith) h) ∙ mul_ℤ-add (pos q) (p 0 i) (by i)) (sum-cong (count - 1) (λ k l. ap (λ (z : ℤ). factor k *ℤ z) (m.kept (suc k) i (omega arith) (omega arith) h)))
      ∙ eq! ((v (pos q *ℤ p 0 i) ⊕ v (pos q *ℤ by i)) ⊕ v spreads) ((v (pos q *ℤ p 0 i) ⊕ v spreads) ⊕ v (pos q *ℤ by i)) (omega arith)
    where
      spreads : ℤ
      spreads = sum (count - 1) (λ k. factor k *ℤ p (suc k) i)

  hull-at : MovedBy n Vertices count p p' by → (weight : ℕ → ℕ) → sum_ℕ count weight ≡ q → (i : ℕ) → i < n → sum count (λ k. pos (weight k) *ℤ p' k i) ≡ sum count (λ k. pos (weight k) *ℤ p k i) +ℤ pos q *ℤ by i
  hull-at m weight whole i h =
      sum-cong count (λ k l. ap (λ (z : ℤ). pos (weight k) *ℤ z) (m.moved k i l h) ∙ mul_ℤ-add (pos (weight k)) (p k i) (by i))
      ∙ sum-add count (λ k. pos (weight k) *ℤ p k i) (λ k. pos (weight k) *ℤ by i)
      ∙ ap (λ (z : ℤ). sum count (λ k. pos (weight k) *ℤ p k i) +ℤ z) weighted
    where
      weighted : sum count (λ k. pos (weight k) *ℤ by i) ≡ pos q *ℤ by i
      weighted =
          sum-cong count (λ k l. *ℤ_comm (pos (weight k)) (by i))
          ∙ sum-scale count (by i) (λ k. pos (weight k))
          ∙ ap (λ (z : ℤ). by i *ℤ z) (sym (pos-sum_ℕ count weight) ∙ ap pos whole)
          ∙ *ℤ_comm (by i) (pos q)

  pub member-moved : (shape : Shape) → MovedBy n shape count p p' by → (x : ℕ → ℤ) → Member n shape count p q x → Member n shape count p' q (shifted x)
  member-moved Box m x s =
      record {
        low = λ i h. subst (λ (z : ℤ). z ⩽ shifted x i) (sym (ap (λ (z : ℤ). pos q *ℤ z) (m.moved 0 i (omega arith) h) ∙ mul_ℤ-add (pos q) (p 0 i) (by i))) (⩽-add (s.low i h) (⩽-refl (pos q *ℤ by i)));
        high = λ i h. subst (λ (z : ℤ). shifted x i ⩽ z) (sym (ap (λ (z : ℤ). pos q *ℤ z) (m.moved 1 i (omega arith) h) ∙ mul_ℤ-add (pos q) (p 1 i) (by i))) (⩽-add (s.high i h) (⩽-refl (pos q *ℤ by i)));
      }
  member-moved Zonotope m x s =
      record { factor = s.factor; at_least = s.at_least; at_most = s.at_most; is = λ i h. ap (λ (z : ℤ). z +ℤ pos q *ℤ by i) (s.is i h) ∙ sym (zonotope-at m s.factor i h) }
  member-moved Vertices m x s =
      record { weight = s.weight; whole = s.whole; is = λ i h. ap (λ (z : ℤ). z +ℤ pos q *ℤ by i) (s.is i h) ∙ sym (hull-at m s.weight s.whole i h) }

  pub member_back : (shape : Shape) → MovedBy n shape count p p' by → (x : ℕ → ℤ) → Member n shape count p' q (shifted x) → Member n shape count p q x
  member_back Box m x s =
      record {
        low = λ i h. cancel-le (pos q *ℤ p 0 i) (x i) (pos q *ℤ by i) (subst (λ (z : ℤ). z ⩽ shifted x i) (ap (λ (z : ℤ). pos q *ℤ z) (m.moved 0 i (omega arith) h) ∙ mul_ℤ-add (pos q) (p 0 i) (by i)) (s.low i h));
        high = λ i h. cancel-le (x i) (pos q *ℤ p 1 i) (pos q *ℤ by i) (subst (λ (z : ℤ). shifted x i ⩽ z) (ap (λ (z : ℤ). pos q *ℤ z) (m.moved 1 i (omega arith) h) ∙ mul_ℤ-add (pos q) (p 1 i) (by i)) (s.high i h));
      }
  member_back Zonotope m x s =
      record { factor = s.factor; at_least = s.at_least; at_most = s.at_most; is = λ i h. cancel (x i) _ (pos q *ℤ by i) (s.is i h ∙ zonotope-at m s.factor i h) }
  member_back Vertices m x s =
      record { weight = s.weight; whole = s.whole; is = λ i h. cancel (x i) _ (pos q *ℤ by i) (s.is i h ∙ hull-at m s.weight s.whole i h) }

-- ---- it breaks no rule

ordered-moved : (n : ℕ) (shape : Shape) (count : ℕ) {p p' : ℕ → ℕ → ℤ} {by : ℕ → ℤ} → MovedBy n shape count p p' by → ordered_ok n shape p ≡ true → ordered_ok n shape p' ≡ true
ordered-moved n Box count {p} {p'} {by} m o =
    all_below-intro n (λ i. le_z (p' 0 i) (p' 1 i)) (λ i h. ap₂ le_z (m.moved 0 i (omega arith) h) (m.moved 1 i (omega arith) h) ∙ le_z-of-⩽ (⩽-add (⩽-of-le_z (p 0 i) (p 1 i) (all_below-at n (λ j. le_z (p 0 j) (p 1 j)) o i h)) (⩽-refl (by i))))
ordered-moved n Zonotope count m o = refl
ordered-moved n Vertices count m o = refl

-- as few points are moved as there are
moved-few : (shape : Shape) (count : ℕ) → count_ok shape count ≡ true → moved_count shape count ≤ count
moved-few Box count c = let e = eqb-true count 2 c in omega arith
moved-few Zonotope count c = omega (arith, (counted_of Zonotope count c).some)
moved-few Vertices count c = le_refl count

module _ (n : ℕ) (n≤6 : n ≤ 6) (shape : Shape) (count : ℕ) (xs by : List ℤ) (c : count_ok shape count ≡ true) (outside : zero_outside count n xs ≡ true) (beyond : zero_outside 1 n by ≡ true) where
  abbrev ys : List ℤ
  ys = moved_points shape count xs by

  by-beyond : (i : ℕ) → i < 6 → n ≤ i → vector by i ≡ pos 0
  by-beyond i h l = ap (vector by) (first-row i) ∙ zero_outside-column 1 n by beyond 0 i h l
    where
      first-row : (i : ℕ) → i ≡ 6 * 0 + i
      first-row i = omega arith

  zeros-moved : Zeros count n ys
  zeros-moved = record { row = row; column = column }
    where
      -- a point that is not stored
      past : (k i : ℕ) → 16 ≤ k → points ys k i ≡ pos 0
      past k i h = get_or-eq_default ys (pos 0) (subst (λ (l : ℕ). l ≤ 6 * k + i) (sym (length-tabulate 96 (moved_at shape count xs by))) (omega arith))

      row : (k i : ℕ) → i < 6 → count ≤ k → points ys k i ≡ pos 0
      row k i h l = elim (dec_lt k 16) [ yes m ↦ point-kept shape count xs by k i (le_trans (moved-few shape count c) l) m h ∙ zero_outside-row count n xs outside k i h l | no f ↦ past k i (omega (arith, f)) ]

      added : {a b : ℤ} → a ≡ pos 0 → b ≡ pos 0 → a +ℤ b ≡ pos 0
      added e g = ap₂ ◌+ℤ◌ e g

      column : (k i : ℕ) → i < 6 → n ≤ i → points ys k i ≡ pos 0
      column k i h l = elim (dec_lt k 16) [ yes m ↦ at m (dec_lt k (moved_count shape count)) | no f ↦ past k i (omega (arith, f)) ]
        where
          at : k < 16 → Dec (k < moved_count shape count) → points ys k i ≡ pos 0
          at m (yes t) = point-moved shape count xs by k i t m h ∙ added (zero_outside-column count n xs outside k i h l) (by-beyond i h l)
          at m (no f) = point-kept shape count xs by k i (omega (arith, f)) m h ∙ zero_outside-column count n xs outside k i h l

  pub set-ok-moved : ordered_ok n shape (points xs) ≡ true → ((i : ℕ) → i < 6 → entering_reach shape count xs by i ≤ reach_limit) → set_ok n shape count ys ≡ true
  set-ok-moved ordered small =
      ap₂ ◌&&◌ c (ap₂ ◌&&◌ (zero_outside-of count n ys zeros-moved) (ap₂ ◌&&◌ (all_below-intro 6 (λ i. leb (reach_of shape count (points ys) i) reach_limit) (λ i h. le-leb _ reach_limit (le_trans (reach-moved 6 shape count (points-moved shape count xs by 6 (le_refl 6) c) i h) (small i h)))) (ordered-moved n shape count (points-moved shape count xs by n n≤6 c) ordered)))
