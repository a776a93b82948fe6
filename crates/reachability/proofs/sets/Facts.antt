-- What a set that passes the tests of number 11 is known to satisfy. Assumes nothing.
use mathlib.Core.Path.{◌≡◌, sym, ap, subst}
use mathlib.Core.Bool.{true, ◌&&◌, ◌||◌}
use mathlib.Core.List.{List}
use Prim.Native.Nat.{ℕ, zero, suc, ◌+◌, ◌*◌, ◌-◌, ◌/◌, ◌%◌, ◌≤◌, ◌<◌}
use native.Mathlib.Nat.{le_trans}
use native.Mathlib.Decide.{dec_lt}
use native.Mathlib.Omega.{arith}
use borrow.Author.Tests.{leb-true, eqb-true}
use lib.Dec.{leb, ltb, eqb}
use lib.IntN.{ℤ, nat_abs}
use Rattle.integers.specs.Sums.{vector}
use Rattle.integers.proofs.Sums.{all_below-at, le-max_ℕ, le-sum_ℕ}
use Rattle.arrays.specs.Tests.{zero_outside}
use Rattle.integers.proofs.Booleans.{and-true}
use Rattle.arrays.proofs.Tests.{zero_outside-row}
use Rattle.stepping.specs.Limits.{growth_limit}
use Rattle.stepping.specs.Refusals.{dimension_ok}
use Rattle.limits.specs.Limits.{direction_ok, value_ok}
use Rattle.reachability.specs.Sets.{points, reach_of, reach_limit, count_ok, ordered_ok, reach_ok, set_ok, Member, support_of}
use Rattle.reachability.specs.SetsInner.{Counted, ReachSmall}
use Rattle.reachability.specs.declared.sets.Shape.{Shape}
use Rattle.reachability.specs.declared.sets.Shape.TheVariants.{Box, Zonotope, Vertices}
use Rattle.reachability.proofs.sets.Laws.{SetLaws, set-laws}

pub record SetFacts (n : ℕ) (shape : Shape) (count : ℕ) (xs : List ℤ) : Type 0 where
  pub counted : Counted count
  pub outside : zero_outside count n xs ≡ true
  pub reach-small : ReachSmall shape count xs
  pub coordinates : (k : ℕ) → nat_abs (vector xs k) ≤ reach_limit
  pub laws : SetLaws n (Member n shape count (points xs)) (support_of n shape count (points xs)) (reach_of shape count (points xs))

pub n-range : (n : ℕ) → dimension_ok n ≡ true → (1 ≤ n) × (n ≤ 6)
n-range n t =
    let both = and-true (leb 1 n) (leb n 6) t in
    (leb-true 1 n both.0, leb-true n 6 both.1)

pub counted_of : (shape : Shape) (count : ℕ) → count_ok shape count ≡ true → Counted count
counted_of Box count t = let e = eqb-true count 2 t in record { some = omega arith; most = omega arith }
counted_of Zonotope count t =
    let both = and-true (leb 2 count) (leb count 9) t in
    let l = leb-true 2 count both.0 in
    let h = leb-true count 9 both.1 in
    record { some = omega arith; most = omega arith }
counted_of Vertices count t =
    let both = and-true (leb 1 count) (leb count 16) t in
    record { some = leb-true 1 count both.0; most = leb-true count 16 both.1 }

-- a coordinate of a point is at most the reach
size-le-reach : (shape : Shape) (count : ℕ) (p : ℕ → ℕ → ℤ) (k i : ℕ) → count_ok shape count ≡ true → k < count → nat_abs (p k i) ≤ reach_of shape count p i
size-le-reach Box count p zero i t h = omega arith
size-le-reach Box count p (suc zero) i t h = omega arith
size-le-reach Box count p (suc (suc k)) i t h = absurd (omega (arith, eqb-true count 2 t))
size-le-reach Zonotope count p zero i t h = omega arith
size-le-reach Zonotope count p (suc k) i t h = omega (arith, le-sum_ℕ (count - 1) (λ j. nat_abs (p (suc j) i)) k (omega arith))
size-le-reach Vertices count p k i t h = le-max_ℕ count (λ j. nat_abs (p j i)) k h

-- element j of rows of six is coordinate j % 6 of point j / 6
place : (xs : List ℤ) (j : ℕ) → points xs (j / 6) (j % 6) ≡ vector xs j
place xs j = ap (vector xs) (whole j)
  where
    whole : (j : ℕ) → 6 * (j / 6) + j % 6 ≡ j
    whole j = omega arith

coordinates-of : (n : ℕ) (shape : Shape) (count : ℕ) (xs : List ℤ) → count_ok shape count ≡ true → zero_outside count n xs ≡ true → ReachSmall shape count xs → (j : ℕ) → nat_abs (vector xs j) ≤ reach_limit
coordinates-of n shape count xs c o r j = subst (λ (z : ℤ). nat_abs z ≤ reach_limit) (place xs j) (at (j / 6) (j % 6) (omega arith))
  where
    at : (k i : ℕ) → i < 6 → nat_abs (points xs k i) ≤ reach_limit
    at k i h = elim (dec_lt k count) [ yes l ↦ le_trans (size-le-reach shape count (points xs) k i c l) (r.small i h) | no f ↦ subst (λ (z : ℤ). nat_abs z ≤ reach_limit) (sym (zero_outside-row count n xs o k i h (omega (arith, f)))) (omega arith) ]

pub set-facts : (n : ℕ) (shape : Shape) (count : ℕ) (xs : List ℤ) → set_ok n shape count xs ≡ true → SetFacts n shape count xs
set-facts n shape count xs t =
    let p = and-true (count_ok shape count) (zero_outside count n xs && (reach_ok shape count (points xs) && ordered_ok n shape (points xs))) t in
    let q = and-true (zero_outside count n xs) (reach_ok shape count (points xs) && ordered_ok n shape (points xs)) p.1 in
    let r = and-true (reach_ok shape count (points xs)) (ordered_ok n shape (points xs)) q.1 in
    let small : ReachSmall shape count xs = record { small = λ i h. leb-true _ reach_limit (all_below-at 6 (λ j. leb (reach_of shape count (points xs) j) reach_limit) r.0 i h) } in
    record {
      counted = counted_of shape count p.0;
      outside = q.0;
      reach-small = small;
      coordinates = coordinates-of n shape count xs p.0 q.0 small;
      laws = set-laws n shape count (points xs) p.0 r.1;
    }

-- a direction that passes is within its limit
pub direction-small : (n : ℕ) (r : List ℤ) → direction_ok n r ≡ true → (i : ℕ) → i < 6 → nat_abs (vector r i) ≤ growth_limit
direction-small n r t i h =
    leb-true _ growth_limit (and-true (leb (nat_abs (vector r i)) growth_limit) (ltb i n || eqb (nat_abs (vector r i)) 0) (all_below-at 6 (λ j. value_ok n j (vector r j)) t i h)).0
