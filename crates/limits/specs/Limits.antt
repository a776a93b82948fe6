-- Limits 1, 2 and 5 to 9, and Routines 6: which n, steps, matrix, directions and guards a model may have, which corners a box, and
-- which r a set routine. Definitions only. The limits of the stepping arithmetic are in its own crate, those of a set's points in
-- `reachability`.
-- Assumes nothing.
use Rattle.std.specs.Prelude.{Bool, cond, not, ◌&&◌, ◌||◌, List, ℕ, leb, ltb, eqb, get_or, ℤ, pos, neg_ℤ, nat_abs}
use Rattle.std.specs.Int.Signed.{le_z}
use Rattle.integers.specs.Sums.{vector, matrix, all_below}
use Rattle.arrays.specs.Tests.{all_between, zero_outside}
use Rattle.stepping.specs.Limits.{growth_limit}
use Rattle.stepping.specs.Refusals.{dimension_ok, matrix_ok}

-- Limits 2.
abbrev pub steps_ok : ℕ → Bool
steps_ok k = leb 1 k && leb k 256

-- Limits 5: the largest magnitude of an entry, and that no direction is all zero. Directions stand in rows of six.
abbrev pub direction_limit : ℕ
direction_limit = 1000

abbrev pub all_zero : List ℤ → ℕ → Bool
all_zero xs k = all_below 6 (λ i. eqb (nat_abs (matrix xs k i)) 0)

abbrev pub some_nonzero : ℕ → List ℤ → Bool
some_nonzero count xs = all_below count (λ k. not (all_zero xs k))

-- Limits 5, 6 and 9 of the directions.
abbrev pub directions_ok : ℕ → ℕ → List ℤ → Bool
directions_ok n count xs =
    (leb 1 count && leb count 16)
    && (zero_outside count n xs && (all_between (neg_ℤ (pos direction_limit)) (pos direction_limit) xs && some_nonzero count xs))

-- Limits 7 and 9 of the guards, whose levels are free (Model 5): guard g of a model names one of its directions, and beyond the
-- count both its numbers are zero.
abbrev pub guard_ok : ℕ → ℕ → ℕ → ℕ → ℤ → Bool
guard_ok directions guards g watched level = cond (ltb g guards) (ltb watched directions) (eqb watched 0 && eqb (nat_abs level) 0)

abbrev pub guards_ok : ℕ → ℕ → List ℕ → List ℤ → Bool
guards_ok directions guards watched levels = leb guards 16 && all_below 16 (λ g. guard_ok directions guards g (get_or watched g 0) (vector levels g))

-- Limits 1, 2, 3 and 9 of n, the steps and the matrix.
abbrev pub frame_ok : ℕ → ℕ → List ℤ → Bool
frame_ok n steps m = dimension_ok n && (steps_ok steps && matrix_ok n m)

-- ---- an r for a set routine

-- Refusals 11 of a value of r in coordinate i: its magnitude is not above 1,073,741,824, and beyond n it is zero.
abbrev pub value_ok : ℕ → ℕ → ℤ → Bool
value_ok n i x = leb (nat_abs x) growth_limit && (ltb i n || eqb (nat_abs x) 0)

abbrev pub direction_ok : ℕ → List ℤ → Bool
direction_ok n r = all_below 6 (λ i. value_ok n i (vector r i))

-- ---- the corners of a box

-- Limits 8, of the first two points of a block.
abbrev pub corners_ordered : ℕ → List ℤ → Bool
corners_ordered n xs = leb n 6 && all_below n (λ i. le_z (matrix xs 0 i) (matrix xs 1 i))
