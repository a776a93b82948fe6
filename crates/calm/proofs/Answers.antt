-- What the answers of the three routines promise, by the definitions that they equal. In order: whether a model is calm; the limit at a
-- step; the steps within a slack. Assumes nothing.
use mathlib.Core.Path.{◌≡◌, refl, sym, ap, subst, ◌∙◌}
use mathlib.Core.Bool.{Bool, true, false, cond}
use Rattle.std.specs.Prelude.{Result, Ok, Err}
use Prim.Native.Nat.{ℕ, suc, ◌-◌, ◌≤◌, ◌<◌}
use native.Mathlib.Nat.{le_trans}
use native.Mathlib.Omega.{arith}
use borrow.Author.Tests.{leb-true, ltb-false, eqb-false}
use lib.Dec.{leb, ltb, eqb}
use Rattle.reachability.specs.Limits.{accepted}
use Rattle.reachability.specs.Recurrence.{slack}
use Rattle.reachability.specs.declared.model.Model.{Model}
use Rattle.reachability.proofs.FirstPlace.{first_place-before, first_place-le}
use Rattle.calm.specs.Calm.{calm_model, slack_limit, SlacksWithin, first_above}
use Rattle.calm.specs.Answers.{calmness_number, calmness_figure, calm_answer, CalmAnswers, by_calmness, limited_number, limited_figure, limit_answer, LimitAnswers, within_number, within_figure, steps_answer, WithinAnswers}
use Rattle.calm.specs.declared.CalmRefusal.{CalmRefusal}
use Rattle.calm.specs.declared.CalmRefusal.TheVariants.{Invalid, NotCalm, NoStep, TooSmall}
use Rattle.reachability.proofs.model.Facts.{model-facts}
use Rattle.calm.proofs.Laws.{slack-within}
use Rattle.calm.proofs.Totals.{small-totals, limit-most}

-- ---- whether a model is calm

module _ (m : Model) where
  pub calm-answers : (a : Result Bool CalmRefusal) → a ≡ calm_answer m → CalmAnswers m a
  calm-answers a e =
      record {
        answer = e;
        number = ap calmness_number e ∙ number (accepted m) (calm_model m);
        figure = ap calmness_figure e ∙ figure (accepted m) (calm_model m);
        holds = λ yes. holds (accepted m) refl (calm_model m) refl (sym (ap calmness_figure e) ∙ ap calmness_figure yes);
      }
    where
      number : (t u : Bool) → calmness_number (cond t (Ok u) (Err Invalid)) ≡ cond t 0 11
      number true true = refl
      number true false = refl
      number false u = refl

      figure : (t u : Bool) → calmness_figure (cond t (Ok u) (Err Invalid)) ≡ cond t (cond u 1 0) 0
      figure true true = refl
      figure true false = refl
      figure false u = refl

      holds : (t : Bool) → accepted m ≡ t → (u : Bool) → calm_model m ≡ u → calmness_figure (cond t (Ok u) (Err Invalid)) ≡ 1 → SlacksWithin m
      holds true p true q one = slack-within m p q
      holds true p false q one = absurd (omega arith)
      holds false p u q one = absurd (omega arith)

  -- what an answer says of the model
  pub yes-accepted : calm_answer m ≡ Ok true → (accepted m ≡ true) × (calm_model m ≡ true)
  yes-accepted e = cases (accepted m) refl (calm_model m) refl (ap calmness_figure e)
    where
      cases : (t : Bool) → accepted m ≡ t → (u : Bool) → calm_model m ≡ u → calmness_figure (cond t (Ok u) (Err Invalid)) ≡ 1 → (accepted m ≡ true) × (calm_model m ≡ true)
      cases true p true q one = (p, q)
      cases true p false q one = absurd (omega arith)
      cases false p u q one = absurd (omega arith)

  -- ---- the limit at a step

  pub limit-answers : (k : ℕ) (a : Result ℕ CalmRefusal) → a ≡ limit_answer m k → LimitAnswers m k a
  limit-answers k a e =
      record {
        answer = e;
        number = ap limited_number e ∙ number (calm_answer m) (leb k m.steps);
        figure = ap limited_figure e ∙ figure (calm_answer m) (leb k m.steps);
        holds = λ none. subst (λ (x : Result ℕ CalmRefusal). (d : ℕ) → d < m.questions.directions → slack m d k ≤ limited_figure x) (sym e) (holds (calm_answer m) refl (leb k m.steps) refl (sym (ap limited_number e) ∙ none));
      }
    where
      of : Result Bool CalmRefusal → Bool → Result ℕ CalmRefusal
      of c t = by_calmness c (Err Invalid) (Err NotCalm) (cond t (Ok (slack_limit m k)) (Err NoStep))

      number : (c : Result Bool CalmRefusal) (t : Bool) → limited_number (of c t) ≡ by_calmness c 11 26 (cond t 0 27)
      number (Ok true) true = refl
      number (Ok true) false = refl
      number (Ok false) t = refl
      number (Err e) t = refl

      figure : (c : Result Bool CalmRefusal) (t : Bool) → limited_figure (of c t) ≡ cond (eqb (by_calmness c 11 26 (cond t 0 27)) 0) (slack_limit m k) 0
      figure (Ok true) true = refl
      figure (Ok true) false = refl
      figure (Ok false) t = refl
      figure (Err e) t = refl

      holds : (c : Result Bool CalmRefusal) → calm_answer m ≡ c → (t : Bool) → leb k m.steps ≡ t → limited_number (of c t) ≡ 0 → (d : ℕ) → d < m.questions.directions → slack m d k ≤ limited_figure (of c t)
      holds (Ok true) p true r none d h = (slack-within m (yes-accepted p).0 (yes-accepted p).1).within d h k (leb-true k m.steps r)
      holds (Ok true) p false r none d h = absurd (omega arith)
      holds (Ok false) p t r none d h = absurd (omega arith)
      holds (Err e) p t r none d h = absurd (omega arith)

  -- the figure of every answer is small
  pub limited-most : (k : ℕ) → limited_figure (limit_answer m k) ≤ 197378
  limited-most k = cases (calm_answer m) refl (leb k m.steps) refl
    where
      cases : (c : Result Bool CalmRefusal) → calm_answer m ≡ c → (t : Bool) → leb k m.steps ≡ t → limited_figure (by_calmness c (Err Invalid) (Err NotCalm) (cond t (Ok (slack_limit m k)) (Err NoStep))) ≤ 197378
      cases (Ok true) p true r = let ok = (yes-accepted p).0 in limit-most (small-totals m ok refl refl) (le_trans (leb-true k m.steps r) (model-facts m ok).steps-most)
      cases (Ok true) p false r = omega arith
      cases (Ok false) p t r = omega arith
      cases (Err e) p t r = omega arith

  -- ---- the steps within a slack

  pub within-answers : (s : ℕ) (a : Result ℕ CalmRefusal) → a ≡ steps_answer m s → WithinAnswers m s a
  within-answers s a e =
      record {
        answer = e;
        number = ap within_number e ∙ number (calm_answer m) (eqb (first_above m s) 0);
        figure = ap within_figure e ∙ figure (calm_answer m) (eqb (first_above m s) 0);
        holds = λ none. subst (λ (x : Result ℕ CalmRefusal). (d : ℕ) → d < m.questions.directions → (k : ℕ) → k ≤ within_figure x → slack m d k ≤ s) (sym e) (holds (calm_answer m) refl (eqb (first_above m s) 0) refl (sym (ap within_number e) ∙ none));
      }
    where
      of : Result Bool CalmRefusal → Bool → Result ℕ CalmRefusal
      of c t = by_calmness c (Err Invalid) (Err NotCalm) (cond t (Err TooSmall) (Ok (first_above m s - 1)))

      number : (c : Result Bool CalmRefusal) (t : Bool) → within_number (of c t) ≡ by_calmness c 11 26 (cond t 28 0)
      number (Ok true) true = refl
      number (Ok true) false = refl
      number (Ok false) t = refl
      number (Err e) t = refl

      figure : (c : Result Bool CalmRefusal) (t : Bool) → within_figure (of c t) ≡ cond (eqb (by_calmness c 11 26 (cond t 28 0)) 0) (first_above m s - 1) 0
      figure (Ok true) true = refl
      figure (Ok true) false = refl
      figure (Ok false) t = refl
      figure (Err e) t = refl

      -- up to the step before the first that is above, none is
      limit-within : eqb (first_above m s) 0 ≡ false → (k : ℕ) → k ≤ first_above m s - 1 → (k ≤ m.steps) × (slack_limit m k ≤ s)
      limit-within r k l =
          let some = eqb-false (first_above m s) 0 r in
          let before : k < first_above m s = omega (arith, some, l) in
          (omega (arith, before, first_place-le (suc m.steps) (λ j. ltb s (slack_limit m j))), ltb-false s (slack_limit m k) (first_place-before (suc m.steps) (λ j. ltb s (slack_limit m j)) k before))

      holds : (c : Result Bool CalmRefusal) → calm_answer m ≡ c → (t : Bool) → eqb (first_above m s) 0 ≡ t → within_number (of c t) ≡ 0 → (d : ℕ) → d < m.questions.directions → (k : ℕ) → k ≤ within_figure (of c t) → slack m d k ≤ s
      holds (Ok true) p false r none d h k l = le_trans ((slack-within m (yes-accepted p).0 (yes-accepted p).1).within d h k (limit-within r k l).0) (limit-within r k l).1
      holds (Ok true) p true r none d h k l = absurd (omega arith)
      holds (Ok false) p t r none d h k l = absurd (omega arith)
      holds (Err e) p t r none d h k l = absurd (omega arith)

  -- the figure of every answer is a step of the model
  pub within-most : (s : ℕ) → within_figure (steps_answer m s) ≤ m.steps
  within-most s = cases (calm_answer m) (eqb (first_above m s) 0)
    where
      cases : (c : Result Bool CalmRefusal) (t : Bool) → within_figure (by_calmness c (Err Invalid) (Err NotCalm) (cond t (Err TooSmall) (Ok (first_above m s - 1)))) ≤ m.steps
      cases (Ok true) true = omega arith
      cases (Ok true) false = omega (arith, first_place-le (suc m.steps) (λ j. ltb s (slack_limit m j)))
      cases (Ok false) t = omega arith
      cases (Err e) t = omega arith
