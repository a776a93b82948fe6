-- Recurrence 18: the walks of a model with one matrix. In order: the walks of all steps agree; running maxima of their growth sums; growth
-- and the spare figure by the ends of walks alone. Assumes nothing.
use mathlib.Core.Path.{◌≡◌, refl, sym, ap, ap₂, subst, fun_ext, ◌∙◌}
use mathlib.Core.Bool.{Bool, true, false}
use Prim.Native.Nat.{ℕ, zero, suc, ◌-◌, ◌≤◌, ◌<◌, suc-le-suc}
use native.Mathlib.Nat.{le_refl, le_trans, lt_of_lt_of_le, lt_of_le_of_lt, le_of_suc-le-suc}
use native.Mathlib.Decide.{dec_lt}
use native.Mathlib.Omega.{arith}
use borrow.Author.Tests.{lt-ltb, le-ltb, ltb-true, ltb-false}
use lib.Dec.{ltb}
use lib.IntN.{ℤ}
use Rattle.integers.specs.Sums.{matrix, max_ℕ}
use Rattle.integers.proofs.Sums.{max_ℕ-cong, le-max_ℕ, max_ℕ-le}
use Rattle.stepping.specs.Limits.{growth_limit}
use Rattle.stepping.specs.Recurrence.{spare}
use Rattle.reachability.specs.Runs.{moves, direction}
use Rattle.reachability.specs.Recurrence.{Working, first, next, walk, working, place_sum, sum_at, grows_at, first_place, growth_step}
use Rattle.reachability.specs.OneMatrix.{OneMatrix, end_sum, ByEnds}
use Rattle.reachability.specs.declared.model.Model.{Model}
use Rattle.reachability.proofs.FirstPlace.{first_place-passes, first_place-before, first_place-le, first_place-is, first_place-none}
use Rattle.reachability.proofs.motion.Laws.{matrix_at-same}

-- Today nothing switches in any model.
pub one-matrix : (m : Model) → OneMatrix m
one-matrix m t u = matrix_at-same m.motion t u

-- ---- the walks of all steps agree

walk_same : (n : ℕ) (moves : ℕ → ℕ → ℕ → ℤ) → ((t u : ℕ) → moves t ≡ moves u) → (w : Working) (k l j : ℕ) → walk n moves k w j ≡ walk n moves l w j
unfolding walk
walk_same n moves same w k l zero = refl
walk_same n moves same w k l (suc j) = ap₂ (next n) (same (k - suc j) (l - suc j)) (walk_same n moves same w k l j)

module _ (m : Model) (one : OneMatrix m) where
  pub moves-same : (t u : ℕ) → moves m t ≡ moves m u
  moves-same t u = ap matrix (one t u)

  pub working-same : (d k l : ℕ) → working m d k ≡ working m d l
  working-same d k l = fun_ext (λ j. walk_same m.n (moves m) moves-same (first (direction m d)) k l j)

  -- ---- growth sums

  module _ (d : ℕ) where
    -- the growth sum of a step is the largest of the ends up to it
    sum-ends : (k : ℕ) → sum_at m d k ≡ max_ℕ (suc k) (end_sum m d)
    sum-ends k = max_ℕ-cong (suc k) (λ j h. ap (λ (W : ℕ → Working). place_sum m.n (W j)) (working-same d k j))

    end-le : (j k : ℕ) → j ≤ k → end_sum m d j ≤ sum_at m d k
    end-le j k h = subst (λ (s : ℕ). end_sum m d j ≤ s) (sym (sum-ends k)) (le-max_ℕ (suc k) (end_sum m d) j (suc-le-suc h))

    sum-le : (c k : ℕ) → ((j : ℕ) → j ≤ k → end_sum m d j ≤ c) → sum_at m d k ≤ c
    sum-le c k h = subst (λ (s : ℕ). s ≤ c) (sym (sum-ends k)) (max_ℕ-le (suc k) c (λ j l. h j (le_of_suc-le-suc l)))

    -- so that of the last step is the largest of all
    pub sum-last : (k : ℕ) → max_ℕ (suc k) (sum_at m d) ≡ sum_at m d k
    sum-last k = both (max_ℕ-le (suc k) (sum_at m d k) (λ j l. sum-le (sum_at m d k) j (λ i h. end-le i k (le_trans h (le_of_suc-le-suc l))))) (le-max_ℕ (suc k) (sum_at m d) k (le_refl (suc k)))
      where
        both : {a b : ℕ} → a ≤ b → b ≤ a → a ≡ b
        both p q = omega arith

    -- ---- by the ends alone

    abbrev ends : ℕ → Bool
    ends k = ltb growth_limit (end_sum m d k)

    grown : (k : ℕ) → ends k ≡ true → grows_at m d k ≡ true
    grown k t = lt-ltb growth_limit (sum_at m d k) (lt_of_lt_of_le (ltb-true growth_limit (end_sum m d k) t) (end-le k k (le_refl k)))

    in-limit : (k : ℕ) → ((j : ℕ) → j ≤ k → ends j ≡ false) → grows_at m d k ≡ false
    in-limit k f = le-ltb growth_limit (sum_at m d k) (sum-le growth_limit k (λ j h. ltb-false growth_limit (end_sum m d j) (f j h)))

    pub growth-ends : growth_step m d ≡ first_place (suc m.steps) ends
    growth-ends = elim (dec_lt (first_place (suc m.steps) ends) (suc m.steps)) [ yes l ↦ first_place-is (suc m.steps) (grows_at m d) (first_place (suc m.steps) ends) l (grown _ (first_place-passes (suc m.steps) ends l)) (λ j h. in-limit j (λ i g. first_place-before (suc m.steps) ends i (lt_of_le_of_lt g h))) | no f ↦ first_place-none (suc m.steps) (grows_at m d) (λ j h. in-limit j (λ i g. first_place-before (suc m.steps) ends i (lt_of_lt_of_le (lt_of_le_of_lt g h) (beyond f)))) ∙ last f (first_place-le (suc m.steps) ends) ]
      where
        beyond : {a b : ℕ} → (a < b → ⊥) → b ≤ a
        beyond f = omega (arith, f)

        last : {a b : ℕ} → (a < b → ⊥) → a ≤ b → b ≡ a
        last f l = omega (arith, f, l)

    pub largest-ends : max_ℕ (suc m.steps) (sum_at m d) ≡ max_ℕ (suc m.steps) (end_sum m d)
    largest-ends = sum-last m.steps ∙ sum-ends m.steps

  pub by-ends : ByEnds m
  by-ends = record { growth = growth-ends; spare-is = λ d. ap spare (largest-ends d) }
