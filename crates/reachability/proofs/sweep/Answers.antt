-- What the tests of a sweep make of its answer, one law for each end, and that the largest sum of a direction that isn't refused
-- has a spare figure. Assumes nothing.
use mathlib.Core.Path.{◌≡◌, refl, sym, ap, ap₂, subst, ◌∙◌}
use mathlib.Core.Bool.{Bool, true, false, cond, ◌&&◌}
use mathlib.Core.List.{List, [], ◌∷◌}
use Prim.Native.Nat.{ℕ, zero, suc, ◌+◌, ◌*◌, ◌^◌, ◌≤◌, ◌<◌}
use native.Mathlib.Nat.{not-suc-le-zero, le_trans, lt_of_le_of_lt, le_of_suc-le-suc, zero-lt-suc, mul-le-mul}
use native.Mathlib.Decide.{dec_lt}
use native.Mathlib.Numerals.{add-one}
use native.Mathlib.Omega.{arith}
use borrow.Author.Tests.{lt-ltb, le-ltb, le-leb, lt-leb, eq-eqb, ne_eqb, ltb-false, leb-true, leb-false, eqb-false}
use lib.Dec.{leb, ltb, eqb, lit≤}
use lib.ListN.{length, take}
use lib.Pow.{pow_mono}
use lib.IntN.{ℤ, pos, nat_abs}
use Rattle.std.specs.Prelude.{Result, Ok, Err}
use Rattle.integers.specs.Sums.{vector, max_ℕ, tabulate}
use Rattle.integers.proofs.Order.{nat_abs_mul}
use Rattle.integers.proofs.Sums.{max_ℕ-le, le-max_ℕ}
use Rattle.integers.proofs.Machine.{tabulate-cong}
use Rattle.integers.proofs.Booleans.{and-false}
use Rattle.stepping.specs.Limits.{direction_unit, growth_limit}
use Rattle.stepping.specs.Recurrence.{first_r, first_e}
use Rattle.stepping.proofs.SpareFigure.{spare-is}
use Rattle.reachability.specs.Limits.{accepted}
use Rattle.reachability.specs.Runs.{direction}
use Rattle.reachability.specs.Recurrence.{Working, working, place_sum, sum_at, grows_at, growth_step, spare_figure, bound, slack}
use Rattle.reachability.specs.Answers.{Swept, swept_number, swept_figure, lengths_ok, sweep_answer, sweep_number, sweep_figure, bounds_of, slacks_of, SweepLeaves}
use Rattle.reachability.specs.SweepInner.{Fills}
use Rattle.reachability.specs.declared.model.Model.{Model}
use Rattle.reachability.specs.declared.refusals.CallRefusal.{CallRefusal}
use Rattle.reachability.specs.declared.refusals.CallRefusal.TheVariants.{Invalid, Missing, WrongLength, Growth}
use Rattle.reachability.proofs.FirstPlace.{first_place-before}
use Rattle.reachability.proofs.model.Facts.{ModelFacts}
use Rattle.reachability.proofs.walk.Held.{working-start}
use Rattle.reachability.proofs.AccuracyRule.{rule-of-facts, accurate-lists}

module _ (m : Model) (d lb ls : ℕ) where
  abbrev finished : Swept
  finished = cond (leb (growth_step m d) m.steps) (Err (Growth (growth_step m d))) (Ok (spare_figure m d))

  abbrev lengthed : Swept
  lengthed = cond (lengths_ok m lb ls) finished (Err WrongLength)

  pub answer-invalid : accepted m ≡ false → Err Invalid ≡ sweep_answer m d lb ls
  answer-invalid f = sym (ap (λ (t : Bool). cond t (cond (ltb d m.questions.directions) lengthed (Err Missing)) (Err Invalid)) f)

  module _ (ok : accepted m ≡ true) where
    accepted-answer : sweep_answer m d lb ls ≡ cond (ltb d m.questions.directions) lengthed (Err Missing)
    accepted-answer = ap (λ (t : Bool). cond t (cond (ltb d m.questions.directions) lengthed (Err Missing)) (Err Invalid)) ok

    pub answer-no-direction : m.questions.directions ≤ d → Err Missing ≡ sweep_answer m d lb ls
    answer-no-direction h = sym (accepted-answer ∙ ap (λ (t : Bool). cond t lengthed (Err Missing)) (le-ltb d m.questions.directions h))

    module _ (inside : d < m.questions.directions) where
      directed-answer : sweep_answer m d lb ls ≡ lengthed
      directed-answer = accepted-answer ∙ ap (λ (t : Bool). cond t lengthed (Err Missing)) (lt-ltb d m.questions.directions inside)

      pub answer-wrong-bounds : (lb ≡ m.steps + 1 → ⊥) → Err WrongLength ≡ sweep_answer m d lb ls
      answer-wrong-bounds f = sym (directed-answer ∙ ap (λ (t : Bool). cond (t && eqb ls (suc m.steps)) finished (Err WrongLength)) (ne_eqb lb (suc m.steps) (λ e. f (e ∙ sym (add-one m.steps)))))

      pub answer-wrong-slacks : (ls ≡ m.steps + 1 → ⊥) → Err WrongLength ≡ sweep_answer m d lb ls
      answer-wrong-slacks f =
          sym (directed-answer ∙ ap (λ (t : Bool). cond t finished (Err WrongLength)) (ap (λ (t : Bool). eqb lb (suc m.steps) && t) (ne_eqb ls (suc m.steps) (λ e. f (e ∙ sym (add-one m.steps)))) ∙ and-false (eqb lb (suc m.steps))))

      module _ (p : lb ≡ m.steps + 1) (q : ls ≡ m.steps + 1) where
        finished-answer : sweep_answer m d lb ls ≡ finished
        finished-answer =
            directed-answer ∙ ap (λ (t : Bool). cond t finished (Err WrongLength)) (ap₂ ◌&&◌ (eq-eqb lb (suc m.steps) (p ∙ add-one m.steps)) (eq-eqb ls (suc m.steps) (q ∙ add-one m.steps)))

        pub answer-growth : growth_step m d ≤ m.steps → Err (Growth (growth_step m d)) ≡ sweep_answer m d lb ls
        answer-growth h = sym (finished-answer ∙ ap (λ (t : Bool). cond t (Err (Growth (growth_step m d))) (Ok (spare_figure m d))) (le-leb _ _ h))

        pub answer-spare : m.steps < growth_step m d → Ok (spare_figure m d) ≡ sweep_answer m d lb ls
        answer-spare h = sym (finished-answer ∙ ap (λ (t : Bool). cond t (Err (Growth (growth_step m d))) (Ok (spare_figure m d))) (lt-leb _ _ h))

-- the number and the figure of the answer
module _ (m : Model) (d lb ls : ℕ) where
  pub number_is : swept_number (sweep_answer m d lb ls) ≡ sweep_number m d lb ls
  number_is = split (accepted m) (ltb d m.questions.directions) (lengths_ok m lb ls) (leb (growth_step m d) m.steps) (growth_step m d) (spare_figure m d)
    where
      split : (a b c t : Bool) (g h : ℕ) → swept_number (cond a (cond b (cond c (cond t (Err (Growth g)) (Ok h)) (Err WrongLength)) (Err Missing)) (Err Invalid)) ≡ cond a (cond b (cond c (cond t 14 0) 13) 12) 11
      split true true true true g h = refl
      split true true true false g h = refl
      split true true false t g h = refl
      split true false c t g h = refl
      split false b c t g h = refl

  pub figure-is : swept_figure (sweep_answer m d lb ls) ≡ sweep_figure m d lb ls
  figure-is = split (accepted m) (ltb d m.questions.directions) (lengths_ok m lb ls) (leb (growth_step m d) m.steps) (growth_step m d) (spare_figure m d)
    where
      split : (a b c t : Bool) (g h : ℕ) → swept_figure (cond a (cond b (cond c (cond t (Err (Growth g)) (Ok h)) (Err WrongLength)) (Err Missing)) (Err Invalid)) ≡ cond (eqb (cond a (cond b (cond c (cond t 14 0) 13) 12) 11) 0) h (cond (eqb (cond a (cond b (cond c (cond t 14 0) 13) 12) 11) 14) g 0)
      split true true true true g h = refl
      split true true true false g h = refl
      split true true false t g h = refl
      split true false c t g h = refl
      split false b c t g h = refl

-- a refusal keeps both lists, and claims nothing of runs
pub refuses : (m : Model) (d : ℕ) (b s : List ℤ) (a : Swept) (n : ℕ) → swept_number a ≡ suc n → a ≡ sweep_answer m d (length b) (length s) → SweepLeaves m d b s a b s
refuses m d b s a n e h =
    let none : eqb (swept_number a) 0 ≡ false = ne_eqb (swept_number a) 0 (λ z. never (sym e ∙ z)) in
    record {
      answer = h;
      number = ap swept_number h ∙ number_is m d (length b) (length s);
      figure = ap swept_figure h ∙ figure-is m d (length b) (length s);
      bounds = sym (ap (λ (t : Bool). cond t (bounds_of m d) b) none);
      slacks = sym (ap (λ (t : Bool). cond t (slacks_of m d) s) none);
      accurate = λ z. absurd (never (sym e ∙ z));
    }
  where
    never : suc n ≡ 0 → ⊥
    never z = omega arith

-- ---- the largest sum is from 1 to 1,073,741,824

module _ (m : Model) (facts : ModelFacts m) (d : ℕ) (inside : d < m.questions.directions) where
  pub largest-most : m.steps < growth_step m d → max_ℕ (suc m.steps) (sum_at m d) ≤ growth_limit
  largest-most in-limit =
      max_ℕ-le (suc m.steps) growth_limit (λ k h. ltb-false growth_limit (sum_at m d k) (first_place-before (suc m.steps) (grows_at m d) k (lt_of_le_of_lt (le_of_suc-le-suc h) in-limit)))

  -- some entry isn't zero
  some-entry : (i : ℕ) × (i < 6) × (eqb (nat_abs (direction m d i)) 0 ≡ false)
  some-entry = facts.direction-nonzero d inside

  largest-unit : direction_unit ≤ max_ℕ (suc m.steps) (sum_at m d)
  largest-unit = le_trans first-sum (le-max_ℕ (suc m.steps) (sum_at m d) 0 (zero-lt-suc m.steps))
    where
      i : ℕ
      i = some-entry.0

      positive : 1 ≤ nat_abs (direction m d i)
      positive = above (nat_abs (direction m d i)) (eqb-false (nat_abs (direction m d i)) 0 some-entry.2)
        where
          above : (x : ℕ) → (x ≡ 0 → ⊥) → 1 ≤ x
          above x f = omega (arith, f)

      below-n : i < m.n
      below-n = elim (dec_lt i m.n) [ yes l ↦ l | no f ↦ absurd (vanish (omega (arith, f))) ]
        where
          vanish : m.n ≤ i → ⊥
          vanish l = omega (arith, positive, ap nat_abs (facts.direction-beyond d i l some-entry.1))

      first-sum : direction_unit ≤ sum_at m d 0
      first-sum =
          le_trans
          (subst (λ (w : Working). direction_unit ≤ place_sum m.n w) (sym (working-start m d 0))
          (le_trans (omega (arith, nat_abs_mul (pos direction_unit) (direction m d i), positive)) (le-max_ℕ m.n (λ j. nat_abs (first_r (direction m d) j) + first_e j) i below-n)))
          (le-max_ℕ 1 (λ j. place_sum m.n (working m d 0 j)) 0 (zero-lt-suc 0))

  pub largest-least : 1 ≤ max_ℕ (suc m.steps) (sum_at m d)
  largest-least = le_trans (lit≤ tt) largest-unit

  -- Recurrence 9.
  pub spare-most : m.steps < growth_step m d → spare_figure m d ≤ 10
  spare-most in-limit = elim (dec_lt 10 (spare_figure m d)) [ yes l ↦ absurd (beyond (spare_figure m d) (max_ℕ (suc m.steps) (sum_at m d)) (pow_mono l) (spare-is (max_ℕ (suc m.steps) (sum_at m d)) largest-least (largest-most in-limit)).holds largest-unit) | no f ↦ omega (arith, f) ]
    where
      beyond : (h s : ℕ) → 2 ^ 11 ≤ 2 ^ h → 2 ^ h * s ≤ growth_limit → direction_unit ≤ s → ⊥
      beyond h s high low unit = omega (arith, low, mul-le-mul high unit)

-- ---- what is made of the rows

module _ (m : Model) (d : ℕ) where
  abbrev filled : ℕ → Result ℕ CallRefusal
  filled l = cond (leb (growth_step m d) m.steps) (Err (Growth (growth_step m d))) (Ok l)

  -- rows that were not filled, with growth
  pub grown : (b s : List ℤ) (l : ℕ) {r : CallRefusal} → accepted m ≡ true → d < m.questions.directions → length b ≡ m.steps + 1 → length s ≡ m.steps + 1 → Err r ≡ filled l → SweepLeaves m d b s (Err r) b s
  grown b s l {r} ok inside p q e = cases (leb (growth_step m d) m.steps) refl e
    where
      cases : (t : Bool) → leb (growth_step m d) m.steps ≡ t → Err r ≡ cond t (Err (Growth (growth_step m d))) (Ok l) → SweepLeaves m d b s (Err r) b s
      cases true t e = subst (λ (a : Swept). SweepLeaves m d b s a b s) (sym e) (refuses m d b s (Err (Growth (growth_step m d))) 13 refl (answer-growth m d (length b) (length s) ok inside p q (leb-true (growth_step m d) m.steps t)))
      cases false t e = absurd (let z : ◌≡◌ {A = ℕ} 0 1 = cc in omega arith)

  -- rows that were filled
  pub whole : {l k : ℕ} → Ok k ≡ filled l → (m.steps < growth_step m d) × (k ≡ l)
  whole {l} {k} e = cases (leb (growth_step m d) m.steps) refl e
    where
      cases : (t : Bool) → leb (growth_step m d) m.steps ≡ t → ◌≡◌ {A = Swept} (Ok k) (cond t (Err (Growth (growth_step m d))) (Ok l)) → (m.steps < growth_step m d) × (k ≡ l)
      cases true t e = absurd (let z : ◌≡◌ {A = ℕ} 0 1 = cc in omega arith)
      cases false t e = (leb-false (growth_step m d) m.steps t, cc)

-- the first elements of a list
front : (n : ℕ) (xs : List ℤ) → n ≤ length xs → take n xs ≡ tabulate n (vector xs)
front zero xs h = refl
front (suc n) [] h = absurd (not-suc-le-zero h)
front (suc n) (x ∷ xs) h = ap (λ (ys : List ℤ). x ∷ ys) (front n xs (le_of_suc-le-suc h))

-- ---- a whole sweep

pub sweeps : (m : Model) (facts : ModelFacts m) (d : ℕ) (b₀ s₀ b s : List ℤ) {row-b row-s : List ℤ} {x : Swept} (a : Swept) → Fills m d x row-b row-s → m.steps < growth_step m d → length row-b ≡ 257 → length row-s ≡ 257 → b ≡ take (m.steps + 1) row-b → s ≡ take (m.steps + 1) row-s → a ≡ Ok (spare_figure m d) → a ≡ sweep_answer m d (length b₀) (length s₀) → SweepLeaves m d b₀ s₀ a b s
sweeps m facts d b₀ s₀ b s {row-b} {row-s} a fills in-limit lb ls p q spare h =
    record {
      answer = h;
      number = ap swept_number h ∙ number_is m d (length b₀) (length s₀);
      figure = ap swept_figure h ∙ figure-is m d (length b₀) (length s₀);
      bounds = in_b ∙ sym (ap (λ (t : Bool). cond t (bounds_of m d) b₀) zero_number);
      slacks = in-s ∙ sym (ap (λ (t : Bool). cond t (slacks_of m d) s₀) zero_number);
      accurate = λ z. rw (in_b, in-s) (accurate-lists m d (rule-of-facts m facts));
    }
  where
    zero_number : eqb (swept_number a) 0 ≡ true
    zero_number = ap (λ (x : Swept). eqb (swept_number x) 0) spare

    -- the first K + 1 of a row
    copied : (row : List ℤ) {out : List ℤ} (f : ℕ → ℤ) → length row ≡ 257 → out ≡ take (m.steps + 1) row → ((k : ℕ) → k ≤ m.steps → vector row k ≡ f k) → out ≡ tabulate (suc m.steps) f
    copied row f l e each =
        e ∙ ap (λ (k : ℕ). take k row) (add-one m.steps) ∙ front (suc m.steps) row (omega (arith, l, facts.steps-most)) ∙ tabulate-cong (suc m.steps) (λ k h. each k (le_of_suc-le-suc h))

    in_b : b ≡ bounds_of m d
    in_b = copied row-b (bound m d) lb p (fills.bounds in-limit)

    in-s : s ≡ slacks_of m d
    in-s = copied row-s (λ k. pos (slack m d k)) ls q (fills.slacks in-limit)
