-- A set's terms at a working direction without growth are small: its support, and the error term of a reach. Assumes nothing.
use mathlib.Core.Path.{subst}
use mathlib.Core.List.{List}
use Prim.Native.Nat.{ℕ, ◌*◌, ◌≤◌, ◌<◌}
use native.Mathlib.Nat.{le_refl, le_trans, lt_of_lt_of_le, mul-le-mul}
use native.Mathlib.Omega.{arith}
use lib.IntN.{ℤ, nat_abs, ◌*ℤ◌}
use Rattle.integers.proofs.Order.{nat_abs-mul-le}
use Rattle.integers.proofs.Sums.{sum_ℕ-bound, nat_abs-sum}
use Rattle.stepping.specs.Limits.{growth_limit, error_limit}
use Rattle.stepping.proofs.Recurrence.{value-le-limit, error-le-limit}
use Rattle.reachability.specs.Sets.{points, support_of, reach_limit}
use Rattle.reachability.specs.Recurrence.{Working, place_sum, error_at}
use Rattle.reachability.specs.SetsInner.{product_limit, term_limit}
use Rattle.reachability.specs.WalkInner.{errors_limit}
use Rattle.reachability.specs.declared.sets.Shape.{Shape}
use Rattle.reachability.proofs.sets.Facts.{SetFacts}

module _ {n : ℕ} (n≤6 : n ≤ 6) (w : Working) (in-limit : place_sum n w ≤ growth_limit) where
  -- a support is at most what the reaches allow: some point attains it
  pub support-small : {shape : Shape} {count : ℕ} {xs : List ℤ} → SetFacts n shape count xs → nat_abs (support_of n shape count (points xs) w.r) ≤ term_limit
  support-small facts =
      let a = facts.laws.attained w.r in
      subst (λ (z : ℤ). nat_abs z ≤ term_limit) a.2
      (le_trans (nat_abs-sum n (λ i. w.r i *ℤ a.0 i) (λ i. product_limit) (λ i h. nat_abs-mul-le (w.r i) (a.0 i) (value-le-limit n w.r w.e in-limit i h) (point i h)))
      (le_trans (sum_ℕ-bound n product_limit (λ i h. le_refl product_limit)) (mul-le-mul n≤6 (le_refl product_limit))))
    where
      point : (i : ℕ) → i < n → nat_abs ((facts.laws.attained w.r).0 i) ≤ reach_limit
      point i h = within (facts.laws.within 1 (facts.laws.attained w.r).0 (facts.laws.attained w.r).1 i h) (facts.reach-small.small i (lt_of_lt_of_le h n≤6))
        where
          within : {a b : ℕ} → a ≤ 1 * b → b ≤ reach_limit → a ≤ reach_limit
          within p q = omega arith

  pub errors-small : {reach : ℕ → ℕ} → ((i : ℕ) → i < 6 → reach i ≤ reach_limit) → error_at n reach w ≤ errors_limit
  errors-small small =
      le_trans (sum_ℕ-bound n (error_limit * reach_limit) (λ i h. mul-le-mul (error-le-limit n w.r w.e in-limit i h) (small i (lt_of_lt_of_le h n≤6)))) (mul-le-mul n≤6 (le_refl (error_limit * reach_limit)))
