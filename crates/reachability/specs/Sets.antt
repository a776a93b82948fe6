-- Sets 1 to 15: points, support and reach of a box, a zonotope and a vertex list, and which points lie in one; the zero box of Runs 8
-- and File 10; Limits 4 and 8; and Routines 11, what the set routines answer. Definitions only. A set's points are p 0, p 1, ..;
-- p k i is coordinate i of point k.
-- Assumes nothing.
use Rattle.std.specs.Prelude.{◌≡◌, Bool, true, cond, ◌&&◌, List, ℕ, zero, suc, ◌+◌, ◌-◌, ◌<◌, max, leb, eqb, replicate, Option, None, Some, ℤ, pos, neg_ℤ, nat_abs, ◌+ℤ◌, ◌*ℤ◌}
use Rattle.std.specs.Int.Signed.{lt_z, le_z}
use Rattle.integers.specs.Whole.{◌⩽◌}
use Rattle.integers.specs.Sums.{vector, matrix, sum, sum_ℕ, max_ℕ, dot, all_below, tabulate}
use Rattle.arrays.specs.Tests.{zero_outside}
use Rattle.stepping.specs.Refusals.{dimension_ok}
use Rattle.limits.specs.Limits.{direction_ok}
use Rattle.reachability.specs.declared.sets.Shape.{Shape}
use Rattle.reachability.specs.declared.sets.Shape.TheVariants.{Box, Zonotope, Vertices}
use Rattle.reachability.specs.declared.sets.Set.{Set}

-- Sets 1: point k of a stored block.
abbrev pub points : List ℤ → ℕ → ℕ → ℤ
points = matrix

-- ---- support

-- The larger of two.
abbrev pub larger : ℤ → ℤ → ℤ
larger a b = cond (lt_z a b) b a

-- The largest of f 0 up to f k.
unfoldable pub largest : ℕ → (ℕ → ℤ) → ℤ
largest zero f = f 0
largest (suc k) f = larger (largest k f) (f (suc k))

-- Sets 10, 11 and 12, shape by shape. That this is Sets 9, the largest r · x over the set, is proved (`proofs.sets.Laws`).
abbrev pub support_of : ℕ → Shape → ℕ → (ℕ → ℕ → ℤ) → (ℕ → ℤ) → ℤ
support_of n Box count p r = sum n (λ i. r i *ℤ cond (lt_z (pos 0) (r i)) (p 1 i) (p 0 i))
support_of n Zonotope count p r = dot n r (p 0) +ℤ pos (sum_ℕ (count - 1) (λ k. nat_abs (dot n r (p (suc k)))))
support_of n Vertices count p r = largest (count - 1) (λ k. dot n r (p k))

-- ---- reach

-- Sets 14 for a box and a vertex list, Sets 15 for a zonotope. That no point passes this and a point attains it (Sets 13) is proved
-- (`proofs.sets.Laws`, `proofs.sets.ReachAttained`).
abbrev pub reach_of : Shape → ℕ → (ℕ → ℕ → ℤ) → ℕ → ℕ
reach_of Box count p i = max (nat_abs (p 0 i)) (nat_abs (p 1 i))
reach_of Zonotope count p i = nat_abs (p 0 i) + sum_ℕ (count - 1) (λ k. nat_abs (p (suc k) i))
reach_of Vertices count p i = max_ℕ count (λ k. nat_abs (p k i))

-- ---- points: x, in q-ths, lies in the set; factors and weights are counted in 1 / q too (Runs 3)

-- Sets 3: between the corners in each coordinate.
pub record InBox (n q : ℕ) (p : ℕ → ℕ → ℤ) (x : ℕ → ℤ) : Type 0 where
  pub low : (i : ℕ) → i < n → pos q *ℤ p 0 i ⩽ x i
  pub high : (i : ℕ) → i < n → x i ⩽ pos q *ℤ p 1 i

-- Sets 5: the factors are factor / q.
pub record InZonotope (n q count : ℕ) (p : ℕ → ℕ → ℤ) (x : ℕ → ℤ) : Type 0 where
  pub factor : ℕ → ℤ
  pub at_least : (k : ℕ) → k < count - 1 → neg_ℤ (pos q) ⩽ factor k
  pub at_most : (k : ℕ) → k < count - 1 → factor k ⩽ pos q
  pub is : (i : ℕ) → i < n → x i ≡ pos q *ℤ p 0 i +ℤ sum (count - 1) (λ k. factor k *ℤ p (suc k) i)

-- Sets 7: the weights are weight / q. They are natural, and sum to 1.
pub record InHull (n q count : ℕ) (p : ℕ → ℕ → ℤ) (x : ℕ → ℤ) : Type 0 where
  pub weight : ℕ → ℕ
  pub whole : sum_ℕ count weight ≡ q
  pub is : (i : ℕ) → i < n → x i ≡ sum count (λ k. pos (weight k) *ℤ p k i)

abbrev pub Member : ℕ → Shape → ℕ → (ℕ → ℕ → ℤ) → ℕ → (ℕ → ℤ) → Type 0
Member n Box count p q x = InBox n q p x
Member n Zonotope count p q x = InZonotope n q count p x
Member n Vertices count p q x = InHull n q count p x

-- ---- the box from zero to zero

-- Runs 8, File 10: as it is stored.
unfoldable pub zero_box : Set
zero_box = record { shape = Box; count = 2; points = replicate 96 (pos 0) }

-- ---- the rules that number 11 tests

-- Sets 2: the count, with 1 to 8 generators (Sets 5, Sets 6) and 1 to 16 vertices (Sets 7).
abbrev pub count_ok : Shape → ℕ → Bool
count_ok Box count = eqb count 2
count_ok Zonotope count = leb 2 count && leb count 9
count_ok Vertices count = leb 1 count && leb count 16

-- Limits 8. Corners may be equal (Sets 4), and so may vertices (Sets 8): nothing compares them.
abbrev pub ordered_ok : ℕ → Shape → (ℕ → ℕ → ℤ) → Bool
ordered_ok n Box p = all_below n (λ i. le_z (p 0 i) (p 1 i))
ordered_ok n Zonotope p = true
ordered_ok n Vertices p = true

-- Limits 4, in each coordinate.
abbrev pub reach_limit : ℕ
reach_limit = 1048576

abbrev pub reach_ok : Shape → ℕ → (ℕ → ℕ → ℤ) → Bool
reach_ok shape count p = all_below 6 (λ i. leb (reach_of shape count p i) reach_limit)

-- A set that breaks no rule: its count (Sets 2), zeros in unused points and beyond n (Limits 9), its reach (Limits 4), a box's
-- corners (Limits 8).
abbrev pub set_ok : ℕ → Shape → ℕ → List ℤ → Bool
set_ok n shape count xs = count_ok shape count && (zero_outside count n xs && (reach_ok shape count (points xs) && ordered_ok n shape (points xs)))

-- ---- what the set routines answer

-- Refusals 11: nothing that `support` is given breaks a rule.
abbrev pub support_ok : ℕ → Set → List ℤ → Bool
support_ok n s r = dimension_ok n && (set_ok n s.shape s.count s.points && direction_ok n r)

abbrev pub support_answer : ℕ → Set → List ℤ → Option ℤ
support_answer n s r = cond (support_ok n s r) (Some (support_of n s.shape s.count (points s.points) (vector r))) None

-- Forms 7: the number of an answer.
abbrev pub support_number : Option ℤ → ℕ
support_number (Some v) = 0
support_number None = 11

-- Routines 11: what `support` answers, the value or number 11.
pub record Supports (n : ℕ) (s : Set) (r : List ℤ) (a : Option ℤ) : Type 0 where
  pub answer : a ≡ support_answer n s r
  pub number : support_number a ≡ cond (support_ok n s r) 0 11

-- Refusals 11: nothing that `reach` is given breaks a rule.
abbrev pub reach_asked : ℕ → Set → Bool
reach_asked n s = dimension_ok n && set_ok n s.shape s.count s.points

abbrev pub reach_answer : ℕ → Set → Option (List ℤ)
reach_answer n s = cond (reach_asked n s) (Some (tabulate 6 (λ i. pos (reach_of s.shape s.count (points s.points) i)))) None

-- Forms 7: the number of an answer.
abbrev pub reach_number : Option (List ℤ) → ℕ
reach_number (Some xs) = 0
reach_number None = 11

-- Routines 11: what `reach` answers, the six reaches or number 11.
pub record ReachAnswer (n : ℕ) (s : Set) (a : Option (List ℤ)) : Type 0 where
  pub answer : a ≡ reach_answer n s
  pub number : reach_number a ≡ cond (reach_asked n s) 0 11

-- Refusals 6: what a reader tests of a set point by point, beside a box's corners: the reach of the points so far.
abbrev pub reach_within : Shape → ℕ → List ℤ → Bool
reach_within shape count xs = (leb 1 count && leb count 16) && reach_ok shape count (points xs)
