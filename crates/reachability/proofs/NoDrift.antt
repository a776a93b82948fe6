-- Recurrence 17: a model whose drift is zero has the bounds, slacks and verdicts of its two sets alone. Assumes nothing.
use mathlib.Core.Path.{◌≡◌, ap, ap₂, ◌∙◌}
use Prim.Native.Nat.{ℕ, suc, ◌+◌, ◌*◌}
use native.Mathlib.Nat.{add-zero}
use lib.IntN.{ℤ, pos, nat_abs, ◌+ℤ◌, ◌*ℤ◌, *ℤ-zero, +ℤ_idr}
use Rattle.integers.specs.Sums.{vector, dot}
use Rattle.integers.proofs.Sums.{sum-cong, sum-none, sum_ℕ-cong}
use Rattle.stepping.specs.Recurrence.{bound_of, slack_of}
use Rattle.reachability.specs.Sets.{points, support_of, reach_of}
use Rattle.reachability.specs.Recurrence.{working, initial_support, initial_reach, error_at, error_total, support_total, raw_bound_of, raw_slack_of, bound, slack}
use Rattle.reachability.specs.NoDrift.{NoDrift, sets_errors, sets_supports, sets_bound, sets_slack, AsWithoutDrift}
use Rattle.reachability.specs.declared.model.Model.{Model}
use Rattle.reachability.proofs.VerdictLaws.{verdict-cong}

module _ (m : Model) (none : NoDrift m) where
  errors-same : (d k : ℕ) → error_total m d k ≡ sets_errors m d k
  errors-same d k =
      ap (λ (t : ℕ). error_at m.n (initial_reach m) (working m d k k) + t)
      (sum_ℕ-cong k (λ j h. sum_ℕ-cong m.n (λ i l. ap (λ (t : ℕ). (working m d k j).e i * t) (ap (λ (z : ℤ). reach_of m.input.shape m.input.count (points m.input.points) i + nat_abs z) (none i l) ∙ add-zero (reach_of m.input.shape m.input.count (points m.input.points) i)))))

  no-product : (r : ℕ → ℤ) → dot m.n r (vector m.drift) ≡ pos 0
  no-product r = sum-cong m.n (λ i l. ap (λ (z : ℤ). r i *ℤ z) (none i l) ∙ *ℤ-zero (r i)) ∙ sum-none m.n

  supports-same : (d k : ℕ) → support_total m d k ≡ sets_supports m d k
  supports-same d k =
      ap (λ (z : ℤ). initial_support m (working m d k k).r +ℤ z)
      (sum-cong k (λ j h. ap (λ (z : ℤ). support_of m.n m.input.shape m.input.count (points m.input.points) (working m d k j).r +ℤ z) (no-product (working m d k j).r) ∙ +ℤ_idr _))

  bound-same : (d k : ℕ) → bound m d k ≡ sets_bound m d k
  bound-same d k = ap₂ (λ (s : ℤ) (e : ℕ). bound_of (raw_bound_of s e)) (supports-same d k) (errors-same d k)

  slack-same : (d k : ℕ) → slack m d k ≡ sets_slack m d k
  slack-same d k = ap₂ (λ (s : ℤ) (e : ℕ). slack_of (raw_bound_of s e) (raw_slack_of e)) (supports-same d k) (errors-same d k)

  pub no-drift : AsWithoutDrift m
  no-drift =
      record {
        bounds = bound-same;
        slacks = slack-same;
        verdicts = λ d level. verdict-cong (suc m.steps) level (bound m d) (λ k. pos (slack m d k)) (sets_bound m d) (λ k. pos (sets_slack m d k)) (λ k h. bound-same d k) (λ k h. ap pos (slack-same d k));
      }
