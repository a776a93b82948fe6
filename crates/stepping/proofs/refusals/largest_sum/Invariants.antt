-- `stepping::refusals::largest_sum`: so far no e is below 0, and `most` is the largest sum. Assumes nothing.
use Rattle.std.proofs.Common.{◌≡◌, ◌+◌, ◌<◌, ℕ, true, nat_abs}
use lib.Signed.{non_neg}
use Rattle.integers.specs.Sums.{vector, magnitudes, max_ℕ}
use Rattle.stepping.specs.Recurrence.{half_up}
use Rattle.stepping.proofs.refusals.largest_sum.Given as goal

abbrev pub invariant-loop-i : goal.invariant-loop-i
invariant-loop-i l = record { natural : (j : ℕ) → j < l.i → non_neg (vector l.e j) ≡ true; largest : l.most ≡ max_ℕ l.i (λ i. nat_abs (vector l.r i) + half_up (magnitudes l.e i)) }
