-- Refusals 11 of the stepping arithmetic, and Routines 7 to 9: when its routines answer number 11, and what they answer and leave.
-- Definitions only. Stored arrays are lists of six or, for a matrix, six rows of six. An answer is an `Option`, and `None` is a refusal,
-- which is number 11.
-- Assumes nothing.
use Rattle.std.specs.Prelude.{◌≡◌, List, Bool, cond, ◌&&◌, ◌||◌, ℕ, eqb, leb, ltb, ℤ, pos, neg_ℤ, Option, Some, None, unwrap_or}
use Rattle.std.specs.Int.Signed.{non_neg}
use Rattle.integers.specs.Sums.{vector, magnitudes, matrix, all_below, tabulate}
use Rattle.arrays.specs.Tests.{all_between, zero_outside}
use Rattle.stepping.specs.Limits.{growth_limit, entry_limit}
use Rattle.stepping.specs.Recurrence.{first_r, first_e, next_r, next_e, growth_sum, spare}

-- Limits 1.
abbrev pub dimension_ok : ℕ → Bool
dimension_ok n = leb 1 n && leb n 6

-- Refusals 11: of six, all beyond n are zero.
abbrev pub zero_beyond : ℕ → List ℤ → Bool
zero_beyond n xs = all_below 6 (λ i. ltb i n || eqb (magnitudes xs i) 0)

-- Refusals 11: of six, none is below 0.
abbrev pub non_negative : List ℤ → Bool
non_negative xs = all_below 6 (λ i. non_neg (vector xs i))

-- Limits 3 and, of the entries outside the n by n matrix, Limits 9.
abbrev pub matrix_ok : ℕ → List ℤ → Bool
matrix_ok n xs = all_between (neg_ℤ (pos entry_limit)) (pos entry_limit) xs && zero_outside n n xs

-- Refusals 11: a working direction with none of its faults in n, r and e.
abbrev pub working_ok : ℕ → List ℤ → List ℤ → Bool
working_ok n r e =
    dimension_ok n && (zero_beyond n r && (zero_beyond n e && (non_negative e && leb (growth_sum n (vector r) (magnitudes e)) growth_limit)))

-- Routines 7: what `first` leaves, r(0) and e(0) of the direction d, six elements each.
pub record First (d r e : List ℤ) : Type 0 where
  pub direction : r ≡ tabulate 6 (first_r (vector d))
  pub errors : e ≡ tabulate 6 (λ i. pos (first_e i))

-- Forms 7: the number of an answer, 0 where nothing is refused.
abbrev pub stepped_number : Option ℕ → ℕ
stepped_number (Some s) = 0
stepped_number None = 11

-- Routines 9: the growth sum of an answer, 0 for a refusal.
abbrev pub sum_of : Option ℕ → ℕ
sum_of a = unwrap_or a 0

abbrev pub spare_number : Option ℕ → ℕ
spare_number (Some h) = 0
spare_number None = 11

-- The growth sum of six coordinates, or a refusal where an e is below 0.
abbrev pub largest_answer : List ℤ → List ℤ → Option ℕ
largest_answer r e = cond (non_negative e) (Some (growth_sum 6 (vector r) (magnitudes e))) None

-- Routines 9: what `growth` answers, the growth sum of r and e, at most 1,073,741,824, or number 11.
abbrev pub growth_answer : ℕ → List ℤ → List ℤ → Option ℕ
growth_answer n r e = cond (working_ok n r e) (Some (growth_sum n (vector r) (magnitudes e))) None

pub record Grows (n : ℕ) (r e : List ℤ) (a : Option ℕ) : Type 0 where
  pub answer : a ≡ growth_answer n r e
  pub number : stepped_number a ≡ cond (working_ok n r e) 0 11

-- Refusals 11: nothing that a step is given breaks a rule.
abbrev pub step_ok : ℕ → List ℤ → List ℤ → List ℤ → Bool
step_ok n m r e = working_ok n r e && matrix_ok n m

-- Recurrence 4 and 5: the six elements of r and e after a step.
abbrev pub stepped_r : ℕ → List ℤ → List ℤ → List ℤ
stepped_r n m r = tabulate 6 (next_r n (matrix m) (vector r))

abbrev pub stepped_e : ℕ → List ℤ → List ℤ → List ℤ → List ℤ
stepped_e n m r e = tabulate 6 (λ i. pos (next_e n (matrix m) (vector r) (magnitudes e) i))

-- Routines 8: what `step` answers and leaves; r and e are as lent, r' and e' as left. The growth sum is that of r' and e', also
-- where it is above 1,073,741,824. Where it refuses, r and e are as they were.
pub record Steps (n : ℕ) (m r e : List ℤ) (a : Option ℕ) (r' e' : List ℤ) : Type 0 where
  pub answer : a ≡ cond (step_ok n m r e) (Some (growth_sum n (vector r') (magnitudes e'))) None
  pub number : stepped_number a ≡ cond (step_ok n m r e) 0 11
  pub direction : r' ≡ cond (step_ok n m r e) (stepped_r n m r) r
  pub errors : e' ≡ cond (step_ok n m r e) (stepped_e n m r e) e

-- Routines 9: what `spare_bits` answers, the spare figure of a sum from 1 to 1,073,741,824, or number 11.
abbrev pub spare_ok : ℕ → Bool
spare_ok s = leb 1 s && leb s growth_limit

abbrev pub spare_answer : ℕ → Option ℕ
spare_answer s = cond (spare_ok s) (Some (spare s)) None

pub record Spares (s : ℕ) (a : Option ℕ) : Type 0 where
  pub answer : a ≡ spare_answer s
  pub number : spare_number a ≡ cond (spare_ok s) 0 11
