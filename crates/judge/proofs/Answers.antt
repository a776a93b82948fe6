-- What a judge makes of a sweep. In order: the lengths of two lists; the number of its answer; the verdict over the lists that a
-- sweep left is the model's; what a sweep answered and left settles what a judge answers and leaves. Assumes nothing.
use mathlib.Core.Path.{◌≡◌, refl, sym, ap, ap₂, ◌∙◌}
use mathlib.Core.Bool.{Bool, true, false, cond, ◌&&◌}
use mathlib.Core.List.{List}
use Prim.Native.Nat.{ℕ, suc, ◌-◌, ◌≤◌, ◌<◌, suc-le-suc}
use native.Mathlib.Omega.{arith}
use borrow.Author.Tests.{lt-ltb, le-ltb, le-leb, eq-eqb, eqb-true}
use lib.Dec.{leb, ltb, eqb}
use lib.ListN.{length, get_or}
use lib.IntN.{ℤ, pos}
use Rattle.std.specs.Prelude.{Ok, Err, IfOk}
use Rattle.integers.specs.Sums.{vector}
use Rattle.integers.proofs.Machine.{length-tabulate}
use Rattle.integers.proofs.Booleans.{and-false, and-skip}
use Rattle.limits.specs.Limits.{steps_ok}
use Rattle.reachability.specs.Limits.{accepted}
use Rattle.reachability.specs.Recurrence.{growth_step, spare_figure, bound, slack}
use Rattle.reachability.specs.Verdicts.{verdict_below, verdict}
use Rattle.reachability.specs.Accuracy.{VerdictHolds}
use Rattle.reachability.specs.Answers.{Swept, sweep_answer, lengths_ok, bounds_of, slacks_of, swept_number, SweepLeaves}
use Rattle.reachability.specs.declared.model.Model.{Model}
use Rattle.reachability.specs.declared.refusals.CallRefusal.TheVariants.{Invalid, Missing, WrongLength, Growth}
use Rattle.reachability.specs.declared.verdicts.Verdict.{Verdict}
use Rattle.reachability.proofs.model.Facts.{ModelFacts, model-facts}
use Rattle.reachability.proofs.VerdictLaws.{verdict-cong}
use Rattle.reachability.proofs.AccuracyRule.{accuracy-rule, bounds-at, slacks-at, verdict-lists}
use Rattle.judge.specs.Answers.{Judged, judged_number, verdict_step, judged_figure, judge_number, judge_figure, lists_ok, list_answer, unless_refused, swept_verdict, judge_answer, JudgeLeaves}

-- ---- two lists are K + 1 long for one K, or not

module _ (lb ls : ℕ) where
  no_steps : steps_ok (lb - 1) ≡ false → lists_ok lb ls ≡ false
  no_steps f = ap (λ (t : Bool). eqb ls lb && t) f ∙ and-false (eqb ls lb)

  pub lists-ok : ls ≡ lb → 2 ≤ lb → lb ≤ 257 → lists_ok lb ls ≡ true
  lists-ok e l h = and-skip (steps_ok (lb - 1)) (eq-eqb ls lb e) ∙ and-skip (leb (lb - 1) 256) (le-leb 1 (lb - 1) (omega arith)) ∙ le-leb (lb - 1) 256 (omega arith)

-- ---- numbers

-- the number of the sweep's refusal, or of the answer where it refused nothing
unless_refused-number : (w : Swept) (x : Judged) → judged_number (unless_refused w x) ≡ cond (eqb (swept_number w) 0) (judged_number x) (swept_number w)
unless_refused-number (Ok h) x = refl
unless_refused-number (Err Invalid) x = refl
unless_refused-number (Err Missing) x = refl
unless_refused-number (Err WrongLength) x = refl
unless_refused-number (Err (Growth k)) x = refl

-- ---- the verdict over the lists that a sweep left

list-answer : (m : Model) → ModelFacts m → (d : ℕ) (level : ℤ) → list_answer level (bounds_of m d) (slacks_of m d) ≡ Ok (verdict m d level)
list-answer m facts d level =
    ap₂ (λ (n k : ℕ). cond (lists_ok n k) (Ok (verdict_below n level (vector (bounds_of m d)) (vector (slacks_of m d)))) (Err WrongLength)) (length-tabulate (suc m.steps) (bound m d)) (length-tabulate (suc m.steps) (λ k. pos (slack m d k)))
    ∙ ap (λ (t : Bool). cond t (Ok (verdict_below (suc m.steps) level (vector (bounds_of m d)) (vector (slacks_of m d)))) (Err WrongLength)) (lists-ok (suc m.steps) (suc m.steps) refl (suc-le-suc facts.steps-least) (suc-le-suc facts.steps-most))
    ∙ ap Ok (verdict-cong (suc m.steps) level (vector (bounds_of m d)) (vector (slacks_of m d)) (bound m d) (λ k. pos (slack m d k)) (bounds-at m d) (slacks-at m d))

-- ---- what a judge makes of a sweep's answer

module _ (m : Model) (g : ℕ) where
  abbrev d : ℕ
  d = get_or m.questions.watched g 0

  abbrev level : ℤ
  level = vector m.questions.levels g

  -- the number and the figure of the answer
  module _ (lb ls : ℕ) where
    number_is : judged_number (judge_answer m g lb ls) ≡ judge_number m g lb ls
    number_is = split (accepted m) (ltb g m.questions.guards) (lengths_ok m lb ls) (leb (growth_step m d) m.steps) (growth_step m d) (verdict m d level)
      where
        split : (a b c t : Bool) (k : ℕ) (v : Verdict) → judged_number (cond a (cond b (cond c (cond t (Err (Growth k)) (Ok v)) (Err WrongLength)) (Err Missing)) (Err Invalid)) ≡ cond a (cond b (cond c (cond t 14 0) 13) 12) 11
        split true true true true k v = refl
        split true true true false k v = refl
        split true true false t k v = refl
        split true false c t k v = refl
        split false b c t k v = refl

    figure-is : judged_figure (judge_answer m g lb ls) ≡ judge_figure m g lb ls
    figure-is = split (accepted m) (ltb g m.questions.guards) (lengths_ok m lb ls) (leb (growth_step m d) m.steps) (growth_step m d) (verdict m d level)
      where
        split : (a b c t : Bool) (k : ℕ) (v : Verdict) → judged_figure (cond a (cond b (cond c (cond t (Err (Growth k)) (Ok v)) (Err WrongLength)) (Err Missing)) (Err Invalid)) ≡ cond (eqb (cond a (cond b (cond c (cond t 14 0) 13) 12) 11) 0) (verdict_step v) (cond (eqb (cond a (cond b (cond c (cond t 14 0) 13) 12) 11) 14) k 0)
        split true true true true k v = refl
        split true true true false k v = refl
        split true true false t k v = refl
        split true false c t k v = refl
        split false b c t k v = refl

  -- a refusal before the sweep keeps both lists
  pub judge-refuses : (b s : List ℤ) (a : Judged) → eqb (judged_number a) 0 ≡ false → a ≡ judge_answer m g (length b) (length s) → IfOk a (VerdictHolds m d level (vector s)) → JudgeLeaves m g b s a b s
  judge-refuses b s a none h holds =
      record {
        answer = h;
        number = ap judged_number h ∙ number_is (length b) (length s);
        figure = ap judged_figure h ∙ figure-is (length b) (length s);
        bounds = sym (ap (λ (t : Bool). cond t (bounds_of m d) b) none);
        slacks = sym (ap (λ (t : Bool). cond t (slacks_of m d) s) none);
        accurate = λ z. absurd (borrow.Author.Tests.eqb-false (judged_number a) 0 none z);
        verdict = holds;
      }

  module _ (lb ls : ℕ) where
    abbrev lengthed : Judged
    lengthed = cond (lengths_ok m lb ls) (cond (leb (growth_step m d) m.steps) (Err (Growth (growth_step m d))) (Ok (verdict m d level))) (Err WrongLength)

    pub answer-invalid : accepted m ≡ false → Err Invalid ≡ judge_answer m g lb ls
    answer-invalid f = sym (ap (λ (t : Bool). cond t (cond (ltb g m.questions.guards) lengthed (Err Missing)) (Err Invalid)) f)

    accepted-answer : accepted m ≡ true → judge_answer m g lb ls ≡ cond (ltb g m.questions.guards) lengthed (Err Missing)
    accepted-answer ok = ap (λ (t : Bool). cond t (cond (ltb g m.questions.guards) lengthed (Err Missing)) (Err Invalid)) ok

    pub answer-no-guard : accepted m ≡ true → m.questions.guards ≤ g → Err Missing ≡ judge_answer m g lb ls
    answer-no-guard ok h = sym (accepted-answer ok ∙ ap (λ (t : Bool). cond t lengthed (Err Missing)) (le-ltb g m.questions.guards h))

  module _ (ok : accepted m ≡ true) (inside : g < m.questions.guards) where
    swept-answer : (lb ls : ℕ) → unless_refused (sweep_answer m d lb ls) (Ok (verdict m d level)) ≡ judge_answer m g lb ls
    swept-answer lb ls =
        ap₂ (λ (s t : Bool). unless_refused (cond s (cond t (cond (lengths_ok m lb ls) (cond (leb (growth_step m d) m.steps) (Err (Growth (growth_step m d))) (Ok (spare_figure m d))) (Err WrongLength)) (Err Missing)) (Err Invalid)) (Ok (verdict m d level))) ok (lt-ltb d m.questions.directions ((model-facts m ok).watches g inside))
        ∙ cases (lengths_ok m lb ls) (leb (growth_step m d) m.steps)
        ∙ sym (accepted-answer lb ls ok ∙ ap (λ (t : Bool). cond t (lengthed lb ls) (Err Missing)) (lt-ltb g m.questions.guards inside))
      where
        cases : (s t : Bool) → unless_refused (cond s (cond t (Err (Growth (growth_step m d))) (Ok (spare_figure m d))) (Err WrongLength)) (Ok (verdict m d level)) ≡ cond s (cond t (Err (Growth (growth_step m d))) (Ok (verdict m d level))) (Err WrongLength)
        cases true true = refl
        cases true false = refl
        cases false t = refl

    -- what the judge answers from a sweep is what it should, with the rule of the sweep and of the verdict
    pub judges : (b₀ s₀ : List ℤ) (a : Swept) (b s : List ℤ) (r : Judged) → SweepLeaves m d b₀ s₀ a b s → r ≡ swept_verdict a level b s → JudgeLeaves m g b₀ s₀ r b s
    judges b₀ s₀ a b s r w e =
        record {
          answer = answered;
          number = ap judged_number answered ∙ number_is (length b₀) (length s₀);
          figure = ap judged_figure answered ∙ figure-is (length b₀) (length s₀);
          bounds = w.bounds ∙ ap (λ (t : Bool). cond t (bounds_of m d) b₀) (sym same);
          slacks = w.slacks ∙ ap (λ (t : Bool). cond t (slacks_of m d) s₀) (sym same);
          accurate = λ z. w.accurate (eqb-true (swept_number a) 0 (sym same ∙ ap (λ (n : ℕ). eqb n 0) z));
          verdict = rw is (holds a w.slacks);
        }
      where
        told : (a : Swept) → b ≡ cond (eqb (swept_number a) 0) (bounds_of m d) b₀ → s ≡ cond (eqb (swept_number a) 0) (slacks_of m d) s₀ → swept_verdict a level b s ≡ unless_refused a (Ok (verdict m d level))
        told (Ok h) p q = ap₂ (list_answer level) p q ∙ list-answer m (model-facts m ok) d level
        told (Err r) p q = refl

        is : r ≡ unless_refused a (Ok (verdict m d level))
        is = e ∙ told a w.bounds w.slacks

        answered : r ≡ judge_answer m g (length b₀) (length s₀)
        answered = is ∙ ap (λ (x : Swept). unless_refused x (Ok (verdict m d level))) w.answer ∙ swept-answer (length b₀) (length s₀)

        refuses : (a : Swept) → eqb (judged_number (unless_refused a (Ok (verdict m d level)))) 0 ≡ eqb (swept_number a) 0
        refuses (Ok h) = refl
        refuses (Err r) = refl

        same : eqb (judged_number r) 0 ≡ eqb (swept_number a) 0
        same = ap (λ (x : Judged). eqb (judged_number x) 0) is ∙ refuses a

        holds : (a : Swept) → s ≡ cond (eqb (swept_number a) 0) (slacks_of m d) s₀ → IfOk (unless_refused a (Ok (verdict m d level))) (VerdictHolds m d level (vector s))
        holds (Ok h) q = rw q (verdict-lists m d (accuracy-rule m ok) level)
        holds (Err r) q = tt
