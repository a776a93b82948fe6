-- A loop over 0 up to n - 1 that returns false where a test fails: what holds after k of n places. In order: the record; its
-- start; one place more; a place that fails; its end. Assumes nothing.
use mathlib.Core.Path.{◌≡◌}
use mathlib.Core.Bool.{Bool, true, false}
use Prim.Native.Nat.{ℕ, ◌+◌, ◌≤◌, ◌<◌}
use native.Mathlib.Nat.{lt_of_lt_of_le}
use native.Mathlib.Omega.{arith}
use borrow.Author.Count.{below_none, below_more}
use Rattle.integers.specs.Sums.{all_below}
use Rattle.integers.proofs.Sums.{all_below-intro, all_below-fails}

pub record PassedSoFar (n : ℕ) (f : ℕ → Bool) (k : ℕ) : Type 0 where
  pub inside : k ≤ n
  pub each : (j : ℕ) → j < k → f j ≡ true

pub passed_none : (n : ℕ) (f : ℕ → Bool) → PassedSoFar n f 0
passed_none n f = record { inside = omega arith; each = below_none (λ j. f j ≡ true) }

pub passed-more : {n : ℕ} {f : ℕ → Bool} {k : ℕ} → PassedSoFar n f k → k < n → f k ≡ true → PassedSoFar n f (k + 1)
passed-more {n} {f} {k} so_far h e = record { inside = omega arith; each = below_more (λ j. f j ≡ true) k so_far.each e }

pub passed-fails : {n : ℕ} {f : ℕ → Bool} {k : ℕ} → PassedSoFar n f k → k < n → f k ≡ false → all_below n f ≡ false
passed-fails {n} {f} {k} so_far h e = all_below-fails n f k h e

pub passed-all : {n : ℕ} {f : ℕ → Bool} {k : ℕ} → PassedSoFar n f k → n ≤ k → all_below n f ≡ true
passed-all {n} {f} so_far h = all_below-intro n f (λ j l. so_far.each j (lt_of_lt_of_le l h))
