-- Accuracy 1 to 7: the accuracy rule of an accepted model, for every direction number, level, step 0 to K and run of any
-- denominator. The exact largest value lies between bound - slack and bound; no run passes it, and a run attains it. In order:
-- facts of numbers; the exact largest value; bounds and slacks; verdicts; the rule; the rule of the lists that a sweep leaves.
-- Assumes nothing.
use mathlib.Core.Path.{◌≡◌, refl, sym, ap, subst, ◌∙◌}
use mathlib.Core.Bool.{Bool, true, false, cond}
use Prim.Native.Nat.{ℕ, suc, ◌+◌, ◌*◌, ◌^◌, ◌≤◌, ◌<◌, suc-le-suc}
use native.Mathlib.Nat.{le_refl, mul-le-mul, mul-le-mul_left, one-le-pow, lt_of_lt_of_le, le_of_suc-le-suc}
use native.Mathlib.Omega.{arith}
use borrow.Author.Tests.{ltb-true, ltb-false}
use lib.Dec.{ltb, lit<}
use lib.IntN.{ℤ, pos, ◌+ℤ◌, ◌-ℤ◌, ◌*ℤ◌}
use Rattle.integers.specs.Whole.{◌⩽◌, Near, ceil_div, ceil_div_ℕ, fraction}
use Rattle.integers.specs.Sums.{vector, dot}
use Rattle.integers.proofs.SignedParts.{v, #, ◌⊕◌, ◌⊖◌, ◌⊗◌, le!, eq!, le?, eq?, near!, near?}
use Rattle.integers.proofs.Order.{mul_ℤ-left-comm, ⩽-of-eq, ⩽-trans, ⩽-scale, ⩽-unscale, near-of-halves}
use Rattle.integers.proofs.Sums.{sum-cong, sum-scale}
use Rattle.integers.proofs.Rounding.{ceil_div-le, ceil_div-near, ceil_div_ℕ-le}
use Rattle.integers.proofs.Machine.{get_or-tabulate}
use Rattle.stepping.specs.Limits.{matrix_unit, direction_unit}
use Rattle.stepping.specs.Recurrence.{first_r, half_up}
use Rattle.stepping.proofs.Stands.{stands-first}
use Rattle.reachability.specs.Limits.{accepted}
use Rattle.reachability.specs.Runs.{moves, direction, InSet, Run, entering, state, denominator, Largest}
use Rattle.reachability.specs.Recurrence.{first, initial_support, initial_reach, entering_support_of, entering_reach_of, error_total, support_total, raw_bound, bound, slack, first_place}
use Rattle.reachability.specs.Verdicts.{hit_at, unknown_at, verdict}
use Rattle.reachability.specs.Accuracy.{NoRunPasses, SomeRunWithin, ReachedBy, WithinSlackOf, VerdictHolds, Accurate, AccuracyRule}
use Rattle.reachability.specs.Answers.{bounds_of, slacks_of}
use Rattle.reachability.specs.declared.model.Model.{Model}
use Rattle.reachability.specs.declared.verdicts.Verdict.{Verdict}
use Rattle.reachability.specs.declared.verdicts.Verdict.TheVariants.{Hit, Unknown, Clear}
use Rattle.reachability.proofs.sets.Laws.{SetLaws}
use Rattle.reachability.proofs.sets.Shifted.{Shifted, shifted-laws}
use Rattle.reachability.proofs.model.Facts.{ModelFacts, model-facts}
use Rattle.reachability.proofs.FirstPlace.{first_place-passes, first_place-before}
use Rattle.reachability.proofs.VerdictLaws.{reaches-le, reaches-false-le, reaches-mono, reaches-scale, reaches-unscale}
use Rattle.reachability.proofs.Walks.{one-times, state-same, top, value-le-top, attains, halves-sums}

-- ---- facts of numbers: x is the exact largest value and f that value in 1 / 1,048,576, p is 65,536 ^ k, s the sum of supports, e
-- half of the errors

below-bound : (p : ℕ) (x f s b : ℤ) (e : ℕ) → pos direction_unit *ℤ x ⩽ f → Near f (pos p *ℤ s) (p * e) → s +ℤ pos e ⩽ pos direction_unit *ℤ b → x ⩽ pos p *ℤ b
below-bound p x f s b e h near raw =
    ⩽-unscale 1048575
    (⩽-trans h
    (⩽-trans {b = pos p *ℤ (s +ℤ pos e)} (le! (v f) (# p ⊗ (v s ⊕ # e)) (omega (arith, near? (v f) (# p ⊗ v s) (p * e) near)))
    (⩽-trans (⩽-scale p raw) (⩽-of-eq (mul_ℤ-left-comm (pos p) (pos direction_unit) b)))))

above-slack : (p : ℕ) (x f s y : ℤ) (e : ℕ) → f ⩽ pos direction_unit *ℤ x → Near f (pos p *ℤ s) (p * e) → pos direction_unit *ℤ y ⩽ s -ℤ pos e → pos p *ℤ y ⩽ x
above-slack p x f s y e h near raw =
    ⩽-unscale 1048575
    (⩽-trans (⩽-of-eq (mul_ℤ-left-comm (pos direction_unit) (pos p) y))
    (⩽-trans (⩽-scale p raw)
    (⩽-trans (le! (# p ⊗ (v s ⊖ # e)) (v f) (omega (arith, near? (v f) (# p ⊗ v s) (p * e) near))) h)))

-- what rounding leaves of the raw bound and slack
rounded : (raw s : ℤ) (e : ℕ) → raw ≡ s +ℤ pos e → pos direction_unit *ℤ (ceil_div raw direction_unit -ℤ pos (ceil_div_ℕ (2 * e) direction_unit + fraction raw direction_unit)) ⩽ s -ℤ pos e
rounded raw s e h = within (ceil_div raw direction_unit) (ceil_div_ℕ (2 * e) direction_unit) (fraction raw direction_unit) (ceil_div-near raw direction_unit (lit< tt)) (ceil_div_ℕ-le (2 * e) direction_unit (lit< tt))
  where
    within : (b : ℤ) (c f : ℕ) → pos direction_unit *ℤ b ⩽ raw +ℤ pos (direction_unit * f) → 2 * e ≤ direction_unit * c → pos direction_unit *ℤ (b -ℤ pos (c + f)) ⩽ s -ℤ pos e
    within b c f p q =
        le! (# direction_unit ⊗ (v b ⊖ # (c + f))) (v s ⊖ # e) (omega (arith, le? (# direction_unit ⊗ v b) (v raw ⊕ # (direction_unit * f)) p, eq? (v raw) (v s ⊕ # e) h))

-- a level between bound - slack and bound is as near to x, which lies there too
between : (p : ℕ) (level x b : ℤ) (s : ℕ) → x ⩽ pos p *ℤ b → pos p *ℤ (b -ℤ pos s) ⩽ x → b -ℤ pos s ⩽ level → level ⩽ b → Near x (pos p *ℤ level) (p * s)
between p level x b s high low below above =
    near! (v x) (# p ⊗ v level) (p * s)
    (omega (arith, le? (v x) (# p ⊗ v b) high, mul-le-mul_left p (le? (v b ⊖ # s) (v level) below)))
    (omega (arith, le? (# p ⊗ (v b ⊖ # s)) (v x) low, mul-le-mul_left p (le? (v level) (v b) above)))

-- ---- the exact largest value

module _ (m : Model) (facts : ModelFacts m) where
  laws_i : SetLaws m.n (InSet m.n m.initial) (initial_support m) (initial_reach m)
  laws_i = facts.initial.laws

  -- of what enters: the input set, moved by the drift
  laws_u : SetLaws m.n (Shifted (InSet m.n m.input) (vector m.drift)) (entering_support_of m) (entering_reach_of m)
  laws_u = shifted-laws facts.input.laws (vector m.drift)

  -- of a direction x at step k, in 1 / 65,536 ^ k
  exact_at : (ℕ → ℤ) → ℕ → ℤ
  exact_at x k = top m.n (moves m) laws_i laws_u k x

  value-le : (x : ℕ → ℤ) (k : ℕ) → k ≤ m.steps → (q : ℕ) (run : Run m q) → dot m.n x (state m run k) ⩽ pos q *ℤ exact_at x k
  unfolding exact_at
  value-le x k h q run =
      value-le-top m.n (moves m) laws_i laws_u q run.start (entering m run) k run.starts (λ j l. record { point = run.inputs j; inside = run.permitted j (lt_of_lt_of_le l h); is = refl }) x

  attaining : (x : ℕ → ℤ) (k : ℕ) → (run : Run m 1) × (dot m.n x (state m run k) ≡ exact_at x k)
  unfolding exact_at
  attaining x k =
      let w = attains m.n (moves m) laws_i laws_u k x in (
        record { positive = le_refl 1; start = w.start; inputs = λ j. (w.enters j).point; starts = w.starts; permitted = λ j l. (w.enters j).inside },
        sum-cong m.n (λ i h. ap (λ (z : ℤ). x i *ℤ z) (state-same m.n (moves m) w.start _ w.inputs k (λ j l. sym (w.enters j).is) i)) ∙ w.attains,
      )

  largest-is : (x : ℕ → ℤ) (k : ℕ) → k ≤ m.steps → Largest m x k (exact_at x k)
  largest-is x k h =
      let a = attaining x k in
      record { above = value-le x k h; attained = (1, a.0, a.1 ∙ sym (one-times (exact_at x k))) }

  -- Runs 7, of every direction, stored in the model or not
  pub largest-there : (x : ℕ → ℤ) (k : ℕ) → k ≤ m.steps → (v : ℤ) × Largest m x k v
  largest-there x k h = (exact_at x k, largest-is x k h)

  -- ---- bounds and slacks

  module _ (d : ℕ) where
    abbrev x : ℕ → ℤ
    x = direction m d

    -- half of all errors, rounded up, is as far as the exact value can be from the supports
    half_at : ℕ → ℕ
    half_at k = half_up (error_total m d k)

    near-exact : (k : ℕ) → Near (exact_at (first_r x) k) (pos (matrix_unit ^ k) *ℤ support_total m d k) (matrix_unit ^ k * half_at k)
    unfolding exact_at half_at
    near-exact k = near-of-halves (halves-sums m.n (moves m) laws_i laws_u k (first x) (stands-first m.n x)) (doubled (matrix_unit ^ k) (error_total m d k))
      where
        doubled : (p t : ℕ) → p * t ≤ 2 * (p * half_up t)
        doubled p t = omega (arith, mul-le-mul_left p (ceil_div_ℕ-le t 2 (lit< tt)))

    -- the first working direction is 1,048,576 times the direction, and its exact largest value too
    unit-times : (y : ℕ → ℤ) → dot m.n (first_r x) y ≡ pos direction_unit *ℤ dot m.n x y
    unit-times y =
        sum-cong m.n (λ i h. eq! ((# direction_unit ⊗ v (x i)) ⊗ v (y i)) (# direction_unit ⊗ (v (x i) ⊗ v (y i))) (omega arith)) ∙ sum-scale m.n (pos direction_unit) (λ i. x i *ℤ y i)

    exact-le-first : (k : ℕ) → k ≤ m.steps → pos direction_unit *ℤ exact_at x k ⩽ exact_at (first_r x) k
    exact-le-first k h =
        let a = attaining x k in
        ⩽-trans (⩽-of-eq (ap (λ (z : ℤ). pos direction_unit *ℤ z) (sym a.1) ∙ sym (unit-times (state m a.0 k)))) (⩽-trans (value-le (first_r x) k h 1 a.0) (⩽-of-eq (one-times (exact_at (first_r x) k))))

    first-le-exact : (k : ℕ) → k ≤ m.steps → exact_at (first_r x) k ⩽ pos direction_unit *ℤ exact_at x k
    first-le-exact k h =
        let a = attaining (first_r x) k in
        ⩽-trans (⩽-of-eq (sym a.1 ∙ unit-times (state m a.0 k))) (⩽-scale direction_unit (⩽-trans (value-le x k h 1 a.0) (⩽-of-eq (one-times (exact_at x k)))))

    exact-le-bound : (k : ℕ) → k ≤ m.steps → exact_at x k ⩽ pos (matrix_unit ^ k) *ℤ bound m d k
    unfolding half_at
    exact-le-bound k h =
        below-bound (matrix_unit ^ k) (exact_at x k) (exact_at (first_r x) k) (support_total m d k) (bound m d k) (half_at k) (exact-le-first k h) (near-exact k) (ceil_div-le (raw_bound m d k) direction_unit (lit< tt))

    bound-le-exact : (k : ℕ) → k ≤ m.steps → pos (matrix_unit ^ k) *ℤ (bound m d k -ℤ pos (slack m d k)) ⩽ exact_at x k
    unfolding half_at
    bound-le-exact k h =
        above-slack (matrix_unit ^ k) (exact_at x k) (exact_at (first_r x) k) (support_total m d k) (bound m d k -ℤ pos (slack m d k)) (half_at k) (first-le-exact k h) (near-exact k) (rounded (raw_bound m d k) (support_total m d k) (half_at k) refl)

    no-run-passes : (k : ℕ) → k ≤ m.steps → NoRunPasses m d k (bound m d k)
    no-run-passes k h q run =
        ⩽-trans (value-le x k h q run) (⩽-trans (⩽-scale q (exact-le-bound k h)) (⩽-of-eq (eq! (# q ⊗ (# (matrix_unit ^ k) ⊗ v (bound m d k))) (# (q * matrix_unit ^ k) ⊗ v (bound m d k)) (omega arith))))

    some-run-within : (k : ℕ) → k ≤ m.steps → SomeRunWithin m d k (bound m d k) (pos (slack m d k))
    some-run-within k h =
        let a = attaining x k in
        record {
          q = 1;
          run = a.0;
          within = ⩽-trans (⩽-of-eq (ap (λ (p : ℕ). pos p *ℤ (bound m d k -ℤ pos (slack m d k))) (native.Mathlib.Nat.one-mul (matrix_unit ^ k)))) (⩽-trans (bound-le-exact k h) (⩽-of-eq (sym a.1)));
        }

    -- ---- verdicts

    module _ (level : ℤ) where
      abbrev hit : ℕ → Bool
      hit = hit_at level (bound m d) (λ k. pos (slack m d k))

      abbrev unknown : ℕ → Bool
      unknown = unknown_at level (bound m d)

      positive : {q : ℕ} (k : ℕ) → Run m q → 1 ≤ denominator q k
      positive k run = mul-le-mul run.positive (one-le-pow k matrix_unit (lit< tt))

      hit-holds : (k : ℕ) → k ≤ m.steps → hit k ≡ true → ReachedBy m d level k
      hit-holds k h t =
          let w = some-run-within k h in
          record {
            q = w.q;
            run = w.run;
            there = reaches-mono (pos (denominator w.q k) *ℤ level) _ _ (reaches-scale (denominator w.q k) level (bound m d k -ℤ pos (slack m d k)) (positive k w.run) t) w.within;
          }

      unknown-holds : (k : ℕ) → k ≤ m.steps → hit k ≡ false → unknown k ≡ true → WithinSlackOf m d level k (pos (slack m d k))
      unknown-holds k h f t =
          record {
            exact = exact_at x k;
            largest = largest-is x k h;
            near = between (matrix_unit ^ k) level (exact_at x k) (bound m d k) (slack m d k) (exact-le-bound k h) (bound-le-exact k h) (reaches-false-le level (bound m d k -ℤ pos (slack m d k)) f) (reaches-le level (bound m d k) t);
          }

      clear-holds : (k : ℕ) → k ≤ m.steps → unknown k ≡ false → ReachedBy m d level k → ⊥
      clear-holds k h f w =
          never (reaches-unscale (denominator w.q k) level (bound m d k) (reaches-mono (pos (denominator w.q k) *ℤ level) _ _ w.there (no-run-passes k h w.q w.run)))
        where
          never : unknown k ≡ true → ⊥
          never t = let z : ◌≡◌ {A = ℕ} 0 1 = cc in omega arith

      verdict-holds : VerdictHolds m d level (λ k. pos (slack m d k)) (verdict m d level)
      verdict-holds = hits (ltb h n) refl
        where
          n : ℕ
          n = suc m.steps

          h : ℕ
          h = first_place n hit

          u : ℕ
          u = first_place n unknown

          inside : {k : ℕ} → ltb k n ≡ true → k ≤ m.steps
          inside {k} t = le_of_suc-le-suc (ltb-true k n t)

          before : {j k : ℕ} → ltb k n ≡ false → j ≤ m.steps → j < k
          before {j} {k} f l = lt_of_lt_of_le (suc-le-suc l) (ltb-false k n f)

          unknowns : ltb h n ≡ false → (b : Bool) → ltb u n ≡ b → VerdictHolds m d level (λ k. pos (slack m d k)) (cond b (Unknown u) Clear)
          unknowns f true t = (inside t, unknown-holds u (inside t) (first_place-before n hit u (before f (inside t))) (first_place-passes n unknown (ltb-true u n t)))
          unknowns f false g = λ k l. clear-holds k l (first_place-before n unknown k (before g l))

          hits : (b : Bool) → ltb h n ≡ b → VerdictHolds m d level (λ k. pos (slack m d k)) (cond b (Hit h) (cond (ltb u n) (Unknown u) Clear))
          hits true t = (inside t, hit-holds h (inside t) (first_place-passes n hit (ltb-true h n t)))
          hits false f = unknowns f (ltb u n) refl

  -- ---- the rule

  pub rule-of-facts : AccuracyRule m
  rule-of-facts = record { accurate = λ d. record { bounds = no-run-passes d; slacks = some-run-within d; exact = largest-there (direction m d) }; verdicts = verdict-holds }

-- Accuracy 1: the rule, whole.
pub accuracy-rule : (m : Model) → accepted m ≡ true → AccuracyRule m
accuracy-rule m ok = rule-of-facts m (model-facts m ok)

-- ---- the rule of the lists that a sweep leaves

module _ (m : Model) (d : ℕ) where
  pub bounds-at : (k : ℕ) → k < suc m.steps → vector (bounds_of m d) k ≡ bound m d k
  bounds-at k h = get_or-tabulate (suc m.steps) (bound m d) k (pos 0) h

  pub slacks-at : (k : ℕ) → k < suc m.steps → vector (slacks_of m d) k ≡ pos (slack m d k)
  slacks-at k h = get_or-tabulate (suc m.steps) (λ j. pos (slack m d j)) k (pos 0) h

  pub accurate-lists : AccuracyRule m → Accurate m d (vector (bounds_of m d)) (vector (slacks_of m d))
  accurate-lists rule =
      let here = rule.accurate d in
      record {
        bounds = λ k h. rw (bounds-at k (suc-le-suc h)) (here.bounds k h);
        slacks = λ k h. rw (bounds-at k (suc-le-suc h), slacks-at k (suc-le-suc h)) (here.slacks k h);
        exact = here.exact;
      }

  pub verdict-lists : AccuracyRule m → (level : ℤ) → VerdictHolds m d level (vector (slacks_of m d)) (verdict m d level)
  verdict-lists rule level = at-lists (verdict m d level) (rule.verdicts d level)
    where
      at-lists : (a : Verdict) → VerdictHolds m d level (λ k. pos (slack m d k)) a → VerdictHolds m d level (vector (slacks_of m d)) a
      at-lists (Hit k) h = h
      at-lists (Unknown k) h = (h.0, subst (WithinSlackOf m d level k) (sym (slacks-at k (suc-le-suc h.0))) h.1)
      at-lists Clear h = h
