-- Calm 3 to 7: what holds of the limit, of calm matrices and of calm models. In order: the limit from step to step; a working direction
-- that goes back by calm matrices, for any sequence of them; the error terms of a step; its slack; growth; the law of a model; which
-- slacks have a step within them. Assumes nothing.
use mathlib.Core.Path.{◌≡◌, sym, subst, ◌∙◌}
use mathlib.Core.List.{List}
use mathlib.Core.Bool.{Bool, true, false}
use Prim.Native.Nat.{ℕ, zero, suc, ◌+◌, ◌*◌, ◌-◌, ◌/◌, ◌≤◌, ◌<◌}
use native.Mathlib.Decide.{dec_lt}
use native.Mathlib.Nat.{mul-le-mul, le_refl, le_trans, le_of_suc-le-suc, mul-le-mul_left}
use native.Mathlib.Omega.{arith}
use borrow.Author.Tests.{leb-true, le-ltb, lt-ltb, eq-eqb, ne_eqb}
use lib.Dec.{eqb, ltb, leb}
use lib.IntN.{ℤ, pos, nat_abs, ◌*ℤ◌}
use Rattle.integers.specs.Whole.{ceil_div_ℕ, fraction}
use Rattle.integers.specs.Sums.{matrix, sum_ℕ, transposed}
use Rattle.integers.proofs.Order.{nat_abs_mul}
use Rattle.integers.proofs.Rounding.{fraction-le-one}
use Rattle.integers.proofs.Sums.{sum_ℕ-weighted, sum_ℕ-triangle, nat_abs-sum, max_ℕ-le, all_below-at}
use Rattle.stepping.specs.Limits.{matrix_unit, direction_unit, growth_limit}
use Rattle.stepping.specs.Recurrence.{next_r, next_e, error_sum, half_up}
use Rattle.stepping.proofs.Recurrence.{nearest-within}
use Rattle.limits.specs.Limits.{direction_limit}
use Rattle.reachability.specs.Limits.{accepted}
use Rattle.reachability.specs.Runs.{moves, direction}
use Rattle.reachability.specs.Recurrence.{Working, first, walk, working, place_sum, sum_at, grows_at, initial_reach, entering_reach_of, error_at, error_total, raw_bound, slack}
use Rattle.reachability.specs.declared.model.Model.{Model}
use Rattle.reachability.proofs.FirstPlace.{first_place-is, first_place-passes, first_place-none}
use Rattle.reachability.proofs.motion.Laws.{matrix_at-stored}
use Rattle.reachability.proofs.model.Facts.{ModelFacts, model-facts}
use Rattle.calm.specs.Calm.{column_total, calm_matrix, calm_model, initial_total, entering_total, errors_of, limit_of, first_above, slack_limit, SlacksWithin, SmallErrors}

-- ---- the limit

-- Calm 3: it is 2 at step 0, and never falls.
pub limit-start : (x y : ℕ) → limit_of x y 0 ≡ 2
limit-start x y = omega arith

pub limit-rises : (x y k : ℕ) → limit_of x y k ≤ limit_of x y (suc k)
limit-rises x y k = rounded (k * x) (suc k * x) (k * (k - 1) / 2 * y) (suc k * (suc k - 1) / 2 * y) (omega arith) (mul-le-mul (pairs k) (le_refl y))
  where
    pairs : (k : ℕ) → k * (k - 1) / 2 ≤ suc k * (suc k - 1) / 2
    pairs k = halved (mul-le-mul {n₁ = k} {m₁ = k - 1} {n₂ = suc k} {m₂ = suc k - 1} (omega arith) (omega arith))
      where
        halved : {a b : ℕ} → a ≤ b → a / 2 ≤ b / 2
        halved l = omega arith

    rounded : (a b c d : ℕ) → a ≤ b → c ≤ d → ceil_div_ℕ (a + c + 1) direction_unit + 1 ≤ ceil_div_ℕ (b + d + 1) direction_unit + 1
    rounded a b c d p q = omega arith

-- ---- one column, and one move

column-calm : (n : ℕ) (m : ℕ → ℕ → ℤ) → calm_matrix n m ≡ true → (i : ℕ) → i < n → column_total n m i ≤ matrix_unit
column-calm n m t i h = leb-true (column_total n m i) matrix_unit (all_below-at n (λ j. leb (column_total n m j) matrix_unit) t i h)

-- a column of magnitudes against errors, or magnitudes of r, of at most b
column-weighs : (n b : ℕ) (m : ℕ → ℕ → ℤ) → calm_matrix n m ≡ true → (e : ℕ → ℕ) → ((p : ℕ) → p < n → e p ≤ b) → (i : ℕ) → i < n → sum_ℕ n (λ p. nat_abs (m p i) * e p) ≤ b * matrix_unit
column-weighs n b m t e small i h =
    le_trans (sum_ℕ-weighted n b (λ p. nat_abs (m p i) * e p) (λ p. nat_abs (m p i)) (λ p l. turned (nat_abs (m p i)) (e p) (mul-le-mul_left (nat_abs (m p i)) (small p l)))) (mul-le-mul_left b (column-calm n m t i h))
  where
    turned : (a x : ℕ) → a * x ≤ a * b → a * x ≤ b * a
    turned a x l = omega arith

next_e-calm : (n j : ℕ) (m : ℕ → ℕ → ℤ) → calm_matrix n m ≡ true → (r : ℕ → ℤ) (e : ℕ → ℕ) → ((p : ℕ) → p < n → e p ≤ j) → (i : ℕ) → i < n → next_e n m r e i ≤ suc j
next_e-calm n j m t r e small i h = rounded (error_sum n m e i) (fraction (transposed n m r i) matrix_unit) (column-weighs n j m t e small i h) (fraction-le-one (transposed n m r i) matrix_unit)
  where
    rounded : (a f : ℕ) → a ≤ j * matrix_unit → f ≤ 1 → ceil_div_ℕ a matrix_unit + f ≤ suc j
    rounded a f p q = omega arith

next_r-calm : (n b : ℕ) (m : ℕ → ℕ → ℤ) → calm_matrix n m ≡ true → (r : ℕ → ℤ) → ((p : ℕ) → p < n → nat_abs (r p) ≤ b) → (i : ℕ) → i < n → nat_abs (next_r n m r i) ≤ b
next_r-calm n b m t r small i h =
    nearest-within (transposed n m r i) b
    (le_trans (nat_abs-sum n (λ p. m p i *ℤ r p) (λ p. nat_abs (m p i) * nat_abs (r p)) (λ p l. same (nat_abs_mul (m p i) (r p)))) (column-weighs n b m t (λ p. nat_abs (r p)) small i h))
  where
    same : {a b : ℕ} → a ≡ b → a ≤ b
    same e = omega arith

-- ---- a walk by calm matrices

module _ (n : ℕ) (moves : ℕ → ℕ → ℕ → ℤ) (k : ℕ) (calm : (t : ℕ) → t < k → calm_matrix n (moves t) ≡ true) (w : Working) where
  earlier : (j : ℕ) → suc j ≤ k → k - suc j < k
  earlier j h = omega arith

  -- Calm 5
  pub small-errors : ((i : ℕ) → i < n → w.e i ≤ 0) → SmallErrors n moves k w
  unfolding walk
  small-errors none zero h i l = none i l
  small-errors none (suc j) h i l = next_e-calm n j (moves (k - suc j)) (calm _ (earlier j h)) (walk n moves k w j).r (walk n moves k w j).e (small-errors none j (omega (arith, h))) i l

  -- r is never larger than it was at the start
  pub small-values : (b : ℕ) → ((i : ℕ) → i < n → nat_abs (w.r i) ≤ b) → (j : ℕ) → j ≤ k → (i : ℕ) → i < n → nat_abs ((walk n moves k w j).r i) ≤ b
  unfolding walk
  small-values b start zero h i l = start i l
  small-values b start (suc j) h i l = next_r-calm n b (moves (k - suc j)) (calm _ (earlier j h)) (walk n moves k w j).r (small-values b start j (omega (arith, h))) i l

-- the error term of a reach
error_at-calm : (n j : ℕ) (reach : ℕ → ℕ) (w : Working) → ((i : ℕ) → i < n → w.e i ≤ j) → error_at n reach w ≤ j * sum_ℕ n reach
error_at-calm n j reach w small = sum_ℕ-weighted n j (λ i. w.e i * reach i) reach (λ i l. mul-le-mul (small i l) (le_refl (reach i)))

-- ---- a model

-- Calm 1: the matrix of every move is calm.
pub calm-moves : (m : Model) → calm_model m ≡ true → (t : ℕ) → calm_matrix m.n (moves m t) ≡ true
calm-moves m c t = subst (λ (xs : List ℤ). calm_matrix m.n (matrix xs) ≡ true) (sym (matrix_at-stored m.motion t)) c

module _ (m : Model) (c : calm_model m ≡ true) (d k : ℕ) where
  errors-at : (j : ℕ) → j ≤ k → (i : ℕ) → i < m.n → (working m d k j).e i ≤ j
  errors-at = small-errors m.n (moves m) k (λ t l. calm-moves m c t) (first (direction m d)) (λ i l. le_refl 0)

  -- Calm 3: T(k).
  pub error_total-calm : error_total m d k ≤ errors_of (initial_total m) (entering_total m) k
  error_total-calm =
      omega (
        arith,
        error_at-calm m.n k (initial_reach m) (working m d k k) (errors-at k (le_refl k)),
        sum_ℕ-triangle k (entering_total m) {f = λ j. error_at m.n (entering_reach_of m) (working m d k j)} (λ j l. error_at-calm m.n j (entering_reach_of m) (working m d k j) (errors-at j (omega (arith, l)))),
      )

  -- Calm 4: the slack of step k.
  pub slack-calm : slack m d k ≤ slack_limit m k
  slack-calm = rounded (error_total m d k) (errors_of (initial_total m) (entering_total m) k) (fraction (raw_bound m d k) direction_unit) error_total-calm (fraction-le-one (raw_bound m d k) direction_unit)
    where
      rounded : (t b f : ℕ) → t ≤ b → f ≤ 1 → ceil_div_ℕ (2 * half_up t) direction_unit + f ≤ ceil_div_ℕ (b + 1) direction_unit + 1
      rounded t b f p q = omega arith

  -- Calm 6: 1,000 units and half of 256 half units are below the limit of growth.
  grows_at-calm : ModelFacts m → k ≤ m.steps → grows_at m d k ≡ false
  grows_at-calm facts h = le-ltb growth_limit (sum_at m d k) (max_ℕ-le (suc k) growth_limit (λ j l. place j (le_of_suc-le-suc l)))
    where
      starts : (i : ℕ) → i < m.n → nat_abs ((first (direction m d)).r i) ≤ direction_unit * direction_limit
      starts i l = subst (λ (x : ℕ). x ≤ direction_unit * direction_limit) (sym (nat_abs_mul (pos direction_unit) (direction m d i))) (mul-le-mul_left direction_unit (facts.direction-small d i))

      place : (j : ℕ) → j ≤ k → place_sum m.n (working m d k j) ≤ growth_limit
      place j g = max_ℕ-le m.n growth_limit (λ i l. fits (nat_abs ((working m d k j).r i)) ((working m d k j).e i) (small-values m.n (moves m) k (λ t u. calm-moves m c t) (first (direction m d)) (direction_unit * direction_limit) starts j g i l) (le_trans (errors-at j g i l) (le_trans g (le_trans h facts.steps-most))))
        where
          fits : (a b : ℕ) → a ≤ direction_unit * direction_limit → b ≤ 256 → a + half_up b ≤ growth_limit
          fits a b p q = omega arith

-- Calm 4 and 6: of every accepted model that is calm.
pub slack-within : (m : Model) → accepted m ≡ true → calm_model m ≡ true → SlacksWithin m
slack-within m ok c =
    record {
      within = λ d h k l. slack-calm m c d k;
      ungrown = λ d h. same (first_place-none (suc m.steps) (grows_at m d) (λ k l. grows_at-calm m c d k (model-facts m ok) (le_of_suc-le-suc l)));
    }
  where
    same : {a b : ℕ} → a ≡ suc b → b < a
    same e = omega arith

-- Calm 7: no step is within a slack below 2, and some step is within every other.
pub first_above-none : (m : Model) (s : ℕ) → eqb (first_above m s) 0 ≡ ltb s 2
first_above-none m s = elim (dec_lt s 2) [ yes l ↦ eq-eqb (first_above m s) 0 (at-start l) ∙ sym (lt-ltb s 2 l) | no f ↦ ne_eqb (first_above m s) 0 (later f) ∙ sym (le-ltb s 2 (omega (arith, f))) ]
  where
    above : ℕ → Bool
    above k = ltb s (slack_limit m k)

    start : slack_limit m 0 ≡ 2
    start = limit-start (initial_total m) (entering_total m)

    at-start : s < 2 → first_above m s ≡ 0
    at-start l = first_place-is (suc m.steps) above 0 (omega arith) (lt-ltb s (slack_limit m 0) (omega (arith, l, start))) (λ j h. absurd (omega (arith, h)))

    later : (s < 2 → ⊥) → first_above m s ≡ 0 → ⊥
    later f e = clash (subst (λ (k : ℕ). above k ≡ true) e (first_place-passes (suc m.steps) above (omega (arith, e)))) (le-ltb s (slack_limit m 0) (omega (arith, f, start)))
      where
        clash : {b : Bool} → b ≡ true → b ≡ false → ⊥
        clash p q = let z : ◌≡◌ {A = ℕ} 0 1 = cc in omega arith
