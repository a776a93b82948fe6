-- What a walk of a model holds, with no code in sight, for any sequence of moves: W is the working direction at each place, and all that
-- is asked of it is that each is the next of the one before by the matrix that `back` is passed. In order: what is held at a place; the
-- start; one move further back; the end. Assumes nothing.
use mathlib.Core.Path.{◌≡◌, refl, sym, ap, ap₂, subst, ◌∙◌}
use mathlib.Core.Bool.{Bool, true, cond, ◌&&◌}
use mathlib.Core.List.{List}
use Prim.Native.Nat.{ℕ, suc, ◌+◌, ◌*◌, ◌-◌, ◌≤◌, max, suc-le-suc}
use native.Mathlib.Nat.{le_refl, le_trans}
use native.Mathlib.Numerals.{add-one}
use native.Mathlib.Omega.{arith}
use lib.Dec.{lit≤}
use lib.IntN.{ℤ, pos, neg_ℤ, nat_abs, ◌+ℤ◌, ◌*ℤ◌, *ℤ-zero}
use Rattle.std.specs.Prelude.{Some, None}
use Rattle.integers.specs.Sums.{vector, magnitudes, matrix, max_ℕ, tabulate}
use Rattle.integers.proofs.Sums.{max_ℕ-zero, max_ℕ-suc, le-max_ℕ, pos-sum_ℕ}
use Rattle.integers.proofs.Machine.{get_or-tabulate, tabulate-cong}
use Rattle.integers.proofs.RunningSum.{RunningSum, running-start, running_more}
use Rattle.integers.proofs.Booleans.{and-true}
use Rattle.arrays.specs.Tests.{all_between, zero_outside}
use Rattle.stepping.specs.Limits.{direction_unit, growth_limit, entry_limit}
use Rattle.stepping.specs.Recurrence.{half_up, growth_sum, bound_of, slack_of}
use Rattle.stepping.specs.Refusals.{matrix_ok, step_ok, growth_answer, Steps, sum_of}
use Rattle.stepping.proofs.Recurrence.{growth_sum-first}
use Rattle.stepping.proofs.Beyond.{steps-six}
use Rattle.limits.specs.Limits.{direction_limit}
use Rattle.reachability.specs.Runs.{moves, direction}
use Rattle.reachability.specs.Recurrence.{Working, first, next, walk, working, place_sum, initial_reach, entering_support_of, entering_reach_of, error_at, error_total, support_total, bound, slack}
use Rattle.reachability.specs.SetsInner.{term_limit}
use Rattle.reachability.specs.WalkInner.{errors_limit, stored_reaches, term_support, term_errors, WalkAsks, Begins, Backs, Ends}
use Rattle.reachability.specs.SweepInner.{moved_input}
use Rattle.reachability.specs.declared.model.Model.{Model}
use Rattle.reachability.specs.declared.walk.Walk.{Walk}
use Rattle.reachability.proofs.model.Facts.{ModelFacts}
use Rattle.reachability.proofs.walk.StoredDirection.{Stored, sum-stored, working-passes, stored_next, support-stored, errors-stored, terms-ask}
use Rattle.reachability.proofs.SmallTerms.{support-small, errors-small}

-- ---- the walks of a model

pub working-start : (m : Model) (d k : ℕ) → working m d k 0 ≡ first (direction m d)
unfolding walk
working-start m d k = refl

pub working-back : (m : Model) (d k j : ℕ) → working m d k (suc j) ≡ next m.n (moves m (k - suc j)) (working m d k j)
unfolding walk
working-back m d k j = refl

-- ---- what is held

-- At place j: r and e as stored, what entered at the moves before, its errors, and the largest growth sum up to here.
pub record Held (m : Model) (W : ℕ → Working) (j : ℕ) (w : Walk) : Type 0 where
  pub stored : Stored m.n (W j) w.r w.e
  pub entered-run : RunningSum (suc m.steps) (λ i. entering_support_of m (W i).r) term_limit j w.entered
  pub errors-run : RunningSum (suc m.steps) (λ i. pos (error_at m.n (entering_reach_of m) (W i))) errors_limit j (pos w.errors)
  pub largest-is : w.largest ≡ max_ℕ (suc j) (λ i. place_sum m.n (W i))

module _ (m : Model) (facts : ModelFacts m) (W : ℕ → Working) where
  -- ---- its start

  module _ (d : ℕ) (starts : W 0 ≡ first (direction m d)) where
    -- a first working direction never grows
    pub first-in-limit : place_sum m.n (W 0) ≤ growth_limit
    first-in-limit = subst (λ (w : Working). place_sum m.n w ≤ growth_limit) (sym starts) (growth_sum-first m.n direction_limit (lit≤ tt) (direction m d) (λ i h. facts.direction-small d i))

    pub held-begin : {w : Walk} → Begins m.n (tabulate 6 (direction m d)) w → Held m W 0 w
    held-begin {w} b =
        record {
          stored = at-start;
          entered-run = subst (RunningSum (suc m.steps) (λ i. entering_support_of m (W i).r) term_limit 0) (sym b.entered-is) (running-start _ (λ i. entering_support_of m (W i).r) term_limit);
          errors-run = subst (λ (k : ℕ). RunningSum (suc m.steps) (λ i. pos (error_at m.n (entering_reach_of m) (W i))) errors_limit 0 (pos k)) (sym b.errors-are) (running-start _ (λ i. pos (error_at m.n (entering_reach_of m) (W i))) errors_limit);
          largest-is = b.largest-is ∙ growth-is ∙ sym (max_ℕ-suc 0 (λ i. place_sum m.n (W i)) ∙ ap (λ (k : ℕ). max k (place_sum m.n (W 0))) (max_ℕ-zero (λ i. place_sum m.n (W i))) ∙ alone (place_sum m.n (W 0)));
        }
      where
        alone : (k : ℕ) → max 0 k ≡ k
        alone k = omega arith

        at-start : Stored m.n (W 0) w.r w.e
        at-start =
            subst (λ (x : Working). Stored m.n x w.r w.e) (sym starts)
            (record {
              r-is = b.first.direction ∙ tabulate-cong 6 (λ i h. ap (λ (z : ℤ). pos direction_unit *ℤ z) (get_or-tabulate 6 (direction m d) i (pos 0) h));
              e-is = b.first.errors;
              r-zero = λ i l h. ap (λ (z : ℤ). pos direction_unit *ℤ z) (facts.direction-beyond d i l h) ∙ *ℤ-zero (pos direction_unit);
              e-zero = λ i l h. refl;
            })

        growth-is : sum_of (growth_answer m.n w.r w.e) ≡ place_sum m.n (W 0)
        growth-is =
            ap sum_of (ap (λ (t : Bool). cond t (Some (growth_sum m.n (vector w.r) (magnitudes w.e))) None) (working-passes facts.n-most at-start facts.dimension first-in-limit))
            ∙ sum-stored facts.n-most at-start

  -- ---- at any place without growth

  module _ {j : ℕ} {w : Walk} (held : Held m W j w) (inside : j ≤ m.steps) (small : w.largest ≤ growth_limit) where
    in-limit : place_sum m.n (W j) ≤ growth_limit
    in-limit = le_trans (le-max_ℕ (suc j) (λ i. place_sum m.n (W i)) j (le_refl (suc j))) (subst (λ (k : ℕ). k ≤ growth_limit) held.largest-is small)

    few : j ≤ 257
    few = le_trans inside (le_trans facts.steps-most (lit≤ tt))

    pub asks-initial : WalkAsks m.initial (stored_reaches (initial_reach m)) w
    asks-initial =
        record {
          terms = terms-ask facts.n-most held.stored in-limit facts.initial.reach-small.small facts.initial;
          entered-small = le_trans held.entered-run.small (omega (arith, few));
          errors-small = le_trans held.errors-run.small (omega (arith, few));
        }

    pub asks-input : WalkAsks (moved_input m) (stored_reaches (entering_reach_of m)) w
    asks-input =
        record {
          terms = terms-ask facts.n-most held.stored in-limit facts.entering.small facts.moved;
          entered-small = le_trans held.entered-run.small (omega (arith, few));
          errors-small = le_trans held.errors-run.small (omega (arith, few));
        }

    -- ---- one move further back, by a matrix that takes W on

    module _ {mat : List ℤ} (passes : matrix_ok m.n mat ≡ true) (on : W (suc j) ≡ next m.n (matrix mat) (W j)) {w' : Walk} (b : Backs mat (moved_input m) (stored_reaches (entering_reach_of m)) w w') where
      step-passes : step_ok m.n mat w.r w.e ≡ true
      step-passes = ap₂ ◌&&◌ (working-passes facts.n-most held.stored facts.dimension in-limit) passes

      around : zero_outside m.n m.n mat ≡ true
      around = (and-true (all_between (neg_ℤ (pos entry_limit)) (pos entry_limit) mat) (zero_outside m.n m.n mat) passes).1

      st : Steps m.n mat w.r w.e b.answer w'.r w'.e
      st = steps-six m.n mat w.r w.e step-passes b.steps

      stored-after : Stored m.n (W (suc j)) w'.r w'.e
      stored-after = subst (λ (x : Working). Stored m.n x w'.r w'.e) (sym on) (stored_next facts.n-most held.stored mat around step-passes st)

      sum-after : sum_of b.answer ≡ place_sum m.n (W (suc j))
      sum-after =
          ap sum_of (st.answer ∙ ap (λ (t : Bool). cond t (Some (growth_sum m.n (vector w'.r) (magnitudes w'.e))) None) step-passes)
          ∙ sum-stored facts.n-most stored-after

      pub held_back : Held m W (j + 1) w'
      held_back =
          record {
            stored = subst (λ (i : ℕ). Stored m.n (W i) w'.r w'.e) (sym (add-one j)) stored-after;
            entered-run = running_more held.entered-run (suc-le-suc inside) (subst (λ (z : ℤ). nat_abs z ≤ term_limit) (facts.entering-is (W j).r) (support-small facts.n-most (W j) in-limit facts.moved)) (b.entered-is ∙ ap (λ (z : ℤ). w.entered +ℤ z) (support-stored facts.n-most held.stored in-limit facts.moved ∙ facts.entering-is (W j).r));
            errors-run = running_more held.errors-run (suc-le-suc inside) (errors-small facts.n-most (W j) in-limit facts.entering.small) (ap pos (b.errors-are ∙ ap (λ (i : ℕ). w.errors + i) (errors-stored facts.n-most held.stored in-limit facts.entering.small)));
            largest-is = b.largest-is ∙ ap₂ max held.largest-is sum-after ∙ sym (ap (λ (i : ℕ). max_ℕ (suc i) (λ i. place_sum m.n (W i))) (add-one j) ∙ max_ℕ-suc (suc j) (λ i. place_sum m.n (W i)));
          }

-- ---- the end of the walk of step k

module _ (m : Model) (facts : ModelFacts m) (d : ℕ) {k : ℕ} {w : Walk} (held : Held m (working m d k) k w) (inside : k ≤ m.steps) (small : w.largest ≤ growth_limit) where
  supports-are : term_support m.initial.shape m.initial.count m.initial.points w.r +ℤ w.entered ≡ support_total m d k
  supports-are = ap₂ ◌+ℤ◌ (support-stored facts.n-most held.stored (in-limit m facts (working m d k) held inside small) facts.initial) held.entered-run.is

  errors-are : term_errors w.e (stored_reaches (initial_reach m)) + w.errors ≡ error_total m d k
  errors-are = ap₂ ◌+◌ (errors-stored facts.n-most held.stored (in-limit m facts (working m d k) held inside small) facts.initial.reach-small.small) (ap nat_abs (held.errors-run.is ∙ sym (pos-sum_ℕ k (λ i. error_at m.n (entering_reach_of m) (working m d k i)))))

  module _ {b s : ℤ} (ends : Ends m.initial (stored_reaches (initial_reach m)) w b s) where
    pub bound-is : b ≡ bound m d k
    bound-is = ends.bound-is ∙ ap₂ (λ (z : ℤ) (t : ℕ). bound_of (z +ℤ pos (half_up t))) supports-are errors-are

    pub slack-is : s ≡ pos (slack m d k)
    slack-is = ends.slack-is ∙ ap₂ (λ (z : ℤ) (t : ℕ). pos (slack_of (z +ℤ pos (half_up t)) (2 * half_up t))) supports-are errors-are
