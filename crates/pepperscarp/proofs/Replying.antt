-- From what the called functions leave to the replies, one law for each end; those of a file serve the sweep and the judge, and those of
-- a model the routines of calm models.
-- Assumes nothing.
use mathlib.Core.Path.{◌≡◌, refl, sym, ap, ap₂, subst, ◌∙◌}
use mathlib.Core.Bool.{Bool, true, false, cond}
use mathlib.Core.List.{List}
use Prim.Native.Nat.{ℕ, ◌<◌}
use native.Mathlib.Omega.{arith}
use lib.ListN.{length}
use lib.IntN.{ℤ}
use Rattle.std.specs.Prelude.{Option, Some, None, Result, Ok, Err}
use Rattle.integers.specs.Sums.{vector, magnitudes}
use Rattle.stepping.specs.Recurrence.{growth_sum}
use Rattle.stepping.specs.Refusals.{Steps, step_ok, stepped_r, stepped_e}
use Rattle.reachability.specs.Limits.{accepted}
use Rattle.reachability.specs.Answers.{swept_figure, sweep_answer, SweepLeaves}
use Rattle.reachability.specs.declared.model.Model.{Model}
use Rattle.judge.specs.Answers.{judged_figure, judge_answer, judge_number, judge_figure, JudgeLeaves}
use Rattle.reader.specs.declared.refusals.Refused.{Refused}
use Rattle.reader.specs.Reading.{read_model}
use Rattle.reader.proofs.ReadModels.{read_model-accepted}
use Rattle.pepperscarp.specs.Packing.{packed, refused_packed, figure_limit, stepped_packed, swept_packed, judged_verdict, judged_packed, sweep_packed, judge_packed}
use Rattle.pepperscarp.specs.Replies.{step_answer, Promise, StepReply, FileReply, ModelReply}
use Rattle.pepperscarp.proofs.Figures.{offset-small, swept-small, judged-small}

-- ---- a step

-- What `step` answers is put with what it left; here with what it was lent.
pub steps-answer : (n : ℕ) (m r e : List ℤ) (a : Option ℕ) (r' e' : List ℤ) → Steps n m r e a r' e' → a ≡ step_answer n m r e
steps-answer n m r e a r' e' s = split (step_ok n m r e) s.answer s.direction s.errors
  where
    split : (t : Bool) → a ≡ cond t (Some (growth_sum n (vector r') (magnitudes e'))) None → r' ≡ cond t (stepped_r n m r) r → e' ≡ cond t (stepped_e n m r e) e → a ≡ cond t (Some (growth_sum n (vector (stepped_r n m r)) (magnitudes (stepped_e n m r e)))) None
    split true p q f = p ∙ ap₂ (λ (x y : List ℤ). Some (growth_sum n (vector x) (magnitudes y))) q f
    split false p q f = p

pub step-reply : (n : ℕ) (m r e : List ℤ) (a : Option ℕ) (r' e' : List ℤ) (x : ℕ) → Steps n m r e a r' e' → x ≡ stepped_packed a → StepReply n m r e x r' e'
step-reply n m r e a r' e' x s p =
    record {
      answer = p ∙ ap stepped_packed (steps-answer n m r e a r' e' s);
      direction = s.direction;
      errors = s.errors;
    }

-- ---- a file

-- a file that was read is not refused
not-refused : {C : Type 0} (reading : Result Model Refused) {m : Model} {e : Refused} → reading ≡ Ok m → reading ≡ Err e → C
not-refused reading p q = let z : ◌≡◌ {A = ℕ} 0 1 = cc in absurd (omega arith)

-- What `packing::refused` asks for.
pub refused-small : (file : List ℕ) {e : Refused} → Err e ≡ read_model file → e.offset < figure_limit
refused-small file is = offset-small file _ (sym is)

module _ (file : List ℕ) {e : Refused} (is : Err e ≡ read_model file) where
  pub reply-refused : {A : Type 0} {packed_of : Model → ℕ → ℕ → ℕ → ℕ} {answer_of : Model → ℕ → ℕ → ℕ → A} {Leaves : Promise Model A} {i x : ℕ} {b₀ s₀ : List ℤ} → x ≡ refused_packed e → FileReply packed_of answer_of Leaves file i b₀ s₀ x b₀ s₀
  reply-refused p =
      record {
        answer = rw (← is) p;
        kept = λ f k. (refl, refl);
        left = λ m f. not-refused _ f (sym is);
      }

module _ (file : List ℕ) {m : Model} (is : Ok m ≡ read_model file) where
  pub model-read : {packed_of : Model → ℕ} {Holds : Model → Type 0} {x : ℕ} → x ≡ packed_of m → Holds m → ModelReply packed_of Holds file x
  model-read {packed_of} {Holds} p h =
      record { answer = rw (← is) p; holds = λ o f. let same : m ≡ o = cc (is ∙ f) in subst Holds same h }

-- Of the function over models: the promise has the answer, and that it comes to the one number; and the answer of an accepted model has
-- a small figure.
pub record Answers {A : Type 0} (pack figure : A → ℕ) (packed_of : Model → ℕ → ℕ → ℕ → ℕ) (answer_of : Model → ℕ → ℕ → ℕ → A) (Leaves : Promise Model A) : Type 0 where
  pub packs : (m : Model) (i : ℕ) (b₀ s₀ : List ℤ) (a : A) (b s : List ℤ) → Leaves m i b₀ s₀ a b s → pack a ≡ packed_of m i (length b₀) (length s₀)
  pub says : (m : Model) (i : ℕ) (b₀ s₀ : List ℤ) (a : A) (b s : List ℤ) → Leaves m i b₀ s₀ a b s → a ≡ answer_of m i (length b₀) (length s₀)
  pub small : (m : Model) (i lb ls : ℕ) → accepted m ≡ true → figure (answer_of m i lb ls) < figure_limit

pub sweep-answers : Answers swept_packed swept_figure sweep_packed sweep_answer SweepLeaves
sweep-answers =
    record {
      packs = λ m i b₀ s₀ a b s h. ap₂ (λ (n f : ℕ). packed n 0 f) h.number h.figure;
      says = λ m i b₀ s₀ a b s h. h.answer;
      small = swept-small;
    }

pub judge-answers : Answers judged_packed judged_figure judge_packed judge_answer JudgeLeaves
judge-answers =
    record {
      packs = λ m i b₀ s₀ a b s h. ap₂ (λ (n f : ℕ). packed n (judged_verdict a) f) h.number h.figure ∙ ap (λ (v : ℕ). packed (judge_number m i (length b₀) (length s₀)) v (judge_figure m i (length b₀) (length s₀))) (ap judged_verdict h.answer);
      says = λ m i b₀ s₀ a b s h. h.answer;
      small = judged-small;
    }

module _ {A : Type 0} {pack figure : A → ℕ} {packed_of : Model → ℕ → ℕ → ℕ → ℕ} {answer_of : Model → ℕ → ℕ → ℕ → A} {Leaves : Promise Model A} (f : Answers pack figure packed_of answer_of Leaves)
    (file : List ℕ) {m : Model} (is : Ok m ≡ read_model file)
    {i : ℕ} {b₀ s₀ b s : List ℤ} {a : A} (h : Leaves m i b₀ s₀ a b s) where
  said : a ≡ answer_of m i (length b₀) (length s₀)
  said = f.says _ _ _ _ _ _ _ h

  -- What the packing of the answer asks for.
  pub read_small : figure a < figure_limit
  read_small = rw said (f.small _ _ _ _ (read_model-accepted file (sym is)))

  pub reply-read : {x : ℕ} → x ≡ pack a → FileReply packed_of answer_of Leaves file i b₀ s₀ x b s
  reply-read p =
      record {
        answer = rw (← is) (p ∙ f.packs _ _ _ _ _ _ _ h);
        kept = λ e k. not-refused _ (sym is) k;
        left = λ o k. let same : m ≡ o = cc (is ∙ k) in subst (λ (x : Model). Leaves x i b₀ s₀ (answer_of x i (length b₀) (length s₀)) b s) same (rw said at h);
      }
