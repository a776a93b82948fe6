-- Verdicts 6: without growth every bound and every bound - slack lies between -2^43 and 2^43, so a level farther out has its verdict
-- whatever the model. In order: sums of a step; its bound and slack; the verdicts. Assumes nothing.
use mathlib.Core.Path.{◌≡◌, ap, subst, ◌∙◌}
use mathlib.Core.Bool.{Bool, true, false}
use Prim.Native.Nat.{ℕ, suc, ◌*◌, ◌≤◌, ◌<◌, zero-le, suc-le-suc}
use native.Mathlib.Nat.{le_refl, le_trans, le_of_suc-le-suc, lt_of_lt_of_le, not-suc-le-zero}
use native.Mathlib.Omega.{arith}
use borrow.Author.Tests.{ltb-false}
use lib.Dec.{lit<}
use lib.IntN.{ℤ, pos, neg_ℤ, nat_abs, ◌+ℤ◌, ◌-ℤ◌}
use Rattle.integers.specs.Whole.{◌⩽◌, fraction}
use Rattle.integers.specs.Sums.{sum}
use Rattle.integers.proofs.SignedParts.{v, #, neg, ◌⊕◌, ◌⊖◌, ◌⊗◌, le!, le?, nat_abs-parts}
use Rattle.integers.proofs.Order.{⩽-trans, nat_abs-add}
use Rattle.integers.proofs.Rounding.{ceil_div-le, ceil_div-near, ceil_div_ℕ-near, fraction-le-one}
use Rattle.integers.proofs.Sums.{sum_ℕ-bound, nat_abs-sum, le-max_ℕ}
use Rattle.stepping.specs.Limits.{direction_unit, growth_limit}
use Rattle.stepping.specs.Recurrence.{half_up}
use Rattle.reachability.specs.Limits.{accepted}
use Rattle.reachability.specs.SetsInner.{term_limit}
use Rattle.reachability.specs.WalkInner.{errors_limit}
use Rattle.reachability.specs.Recurrence.{working, place_sum, sum_at, grows_at, first_place, growth_step, initial_support, entering_support_of, entering_reach_of, error_at, support_total, error_total, raw_bound, raw_slack, bound, slack}
use Rattle.reachability.specs.Verdicts.{hit_at, unknown_at, verdict}
use Rattle.reachability.specs.declared.model.Model.{Model}
use Rattle.reachability.specs.declared.verdicts.Verdict.TheVariants.{Hit, Clear}
use Rattle.reachability.proofs.FirstPlace.{first_place-before, first_place-is, first_place-none}
use Rattle.reachability.proofs.VerdictLaws.{reaches-above, reaches-not, verdict-hit, verdict-clear}
use Rattle.reachability.proofs.model.Facts.{ModelFacts, model-facts}
use Rattle.reachability.proofs.SmallTerms.{support-small, errors-small}
use Rattle.multiples.specs.FarLevels.{far_level, FarVerdicts}

module _ (m : Model) (facts : ModelFacts m) (d : ℕ) (ungrown : m.steps < growth_step m d) (k : ℕ) (inside : k ≤ m.steps) where
  few : k ≤ 256
  few = le_trans inside facts.steps-most

  -- ---- the sums of step k

  in-limit : (j : ℕ) → j ≤ k → place_sum m.n (working m d k j) ≤ growth_limit
  in-limit j h =
      le_trans (le-max_ℕ (suc k) (λ i. place_sum m.n (working m d k i)) j (suc-le-suc h))
      (ltb-false growth_limit (sum_at m d k) (first_place-before (suc m.steps) (grows_at m d) k (lt_of_lt_of_le (suc-le-suc inside) ungrown)))

  supports-small : nat_abs (support_total m d k) ≤ 257 * term_limit
  supports-small =
      omega (
        arith,
        few,
        nat_abs-add (initial_support m (working m d k k).r) (sum k (λ j. entering_support_of m (working m d k j).r)),
        support-small facts.n-most (working m d k k) (in-limit k (le_refl k)) facts.initial,
        nat_abs-sum k (λ j. entering_support_of m (working m d k j).r) (λ j. term_limit) (λ j h. subst (λ (z : ℤ). nat_abs z ≤ term_limit) (facts.entering-is (working m d k j).r) (support-small facts.n-most (working m d k j) (in-limit j (omega (arith, h))) facts.moved)),
        sum_ℕ-bound k term_limit {f = λ j. term_limit} (λ j h. le_refl term_limit),
      )

  errors-are-small : error_total m d k ≤ 257 * errors_limit
  errors-are-small =
      omega (
        arith,
        few,
        errors-small facts.n-most (working m d k k) (in-limit k (le_refl k)) facts.initial.reach-small.small,
        sum_ℕ-bound k errors_limit {f = λ j. error_at m.n (entering_reach_of m) (working m d k j)} (λ j h. errors-small facts.n-most (working m d k j) (in-limit j (omega (arith, h))) facts.entering.small),
      )

  -- ---- its bound and its slack

  half-small : half_up (error_total m d k) ≤ 257 * term_limit
  half-small = omega (arith, errors-are-small, ceil_div_ℕ-near (error_total m d k) 2)

  raw-below : raw_bound m d k ⩽ pos (514 * term_limit)
  raw-below =
      le! (v (support_total m d k) ⊕ # (half_up (error_total m d k))) (# (514 * term_limit))
      (omega (arith, half-small, supports-small, nat_abs-parts (support_total m d k)))

  raw_above : neg_ℤ (pos (257 * term_limit)) ⩽ raw_bound m d k
  raw_above =
      le! (neg (# (257 * term_limit))) (v (support_total m d k) ⊕ # (half_up (error_total m d k)))
      (omega (arith, supports-small, nat_abs-parts (support_total m d k)))

  bound-below : bound m d k ⩽ pos far_level
  bound-below =
      le! (v (bound m d k)) (# far_level)
      (omega (
        arith,
        le? (# direction_unit ⊗ v (bound m d k)) (v (raw_bound m d k) ⊕ # (direction_unit * fraction (raw_bound m d k) direction_unit)) (ceil_div-near (raw_bound m d k) direction_unit (lit< tt)),
        fraction-le-one (raw_bound m d k) direction_unit,
        le? (v (raw_bound m d k)) (# (514 * term_limit)) raw-below,
      ))

  low-above : neg_ℤ (pos far_level) ⩽ bound m d k -ℤ pos (slack m d k)
  low-above =
      le! (neg (# far_level)) (v (bound m d k) ⊖ # (slack m d k))
      (omega (
        arith,
        half-small,
        le? (v (raw_bound m d k)) (# direction_unit ⊗ v (bound m d k)) (ceil_div-le (raw_bound m d k) direction_unit (lit< tt)),
        le? (neg (# (257 * term_limit))) (v (raw_bound m d k)) raw_above,
        ceil_div_ℕ-near (raw_slack m d k) direction_unit,
        fraction-le-one (raw_bound m d k) direction_unit,
      ))

-- ---- the verdicts

module _ (m : Model) (facts : ModelFacts m) (d : ℕ) (ungrown : m.steps < growth_step m d) (level : ℤ) where
  abbrev n : ℕ
  n = suc m.steps

  abbrev s : ℕ → ℤ
  s k = pos (slack m d k)

  abbrev hit : ℕ → Bool
  hit = hit_at level (bound m d) s

  abbrev unknown : ℕ → Bool
  unknown = unknown_at level (bound m d)

  far-above : pos far_level ⩽ level → verdict m d level ≡ Clear
  far-above h = verdict-clear n level (bound m d) s (none hit not-hit) (none unknown not-unknown)
    where
      none : (p : ℕ → Bool) → ((k : ℕ) → k < n → p k ≡ false) → n ≤ first_place n p
      none p all = omega (arith, first_place-none n p all)

      not-unknown : (k : ℕ) → k < n → unknown k ≡ false
      not-unknown k l = reaches-not level (bound m d k) (⩽-trans (bound-below m facts d ungrown k (le_of_suc-le-suc l)) h)

      not-hit : (k : ℕ) → k < n → hit k ≡ false
      not-hit k l =
          reaches-not level (bound m d k -ℤ s k)
          (le! (v (bound m d k) ⊖ # (slack m d k)) (v level) (omega (arith, le? (v (bound m d k)) (# far_level) (bound-below m facts d ungrown k (le_of_suc-le-suc l)), le? (# far_level) (v level) h)))

  far-below : level +ℤ pos 1 ⩽ neg_ℤ (pos far_level) → verdict m d level ≡ Hit 0
  far-below h = verdict-hit n level (bound m d) s (omega (arith, at-start)) ∙ ap Hit at-start
    where
      at-start : first_place n hit ≡ 0
      at-start = first_place-is n hit 0 (suc-le-suc zero-le) (reaches-above level (bound m d 0 -ℤ s 0) (⩽-trans h (low-above m facts d ungrown 0 zero-le))) (λ j l. absurd (not-suc-le-zero l))

-- Verdicts 6: of every accepted model and every direction that growth doesn't refuse.
pub far-verdicts : (m : Model) → accepted m ≡ true → (d : ℕ) → m.steps < growth_step m d → FarVerdicts m d
far-verdicts m ok d ungrown = record { above = far-above m (model-facts m ok) d ungrown; below = far-below m (model-facts m ok) d ungrown }
