-- The lines from what the sweep and the judge answered and left are those of the model. Assumes nothing.
use mathlib.Core.Path.{◌≡◌, refl, sym, ap, ap₂, subst, ◌∙◌}
use mathlib.Core.Bool.{true, cond}
use mathlib.Core.List.{List, ◌++◌}
use Prim.Native.Nat.{ℕ, zero, suc, ◌≤◌, ◌<◌}
use native.Mathlib.Omega.{arith}
use lib.Dec.{eqb}
use lib.IntN.{ℤ, pos}
use lib.ListN.{length, get_or}
use Rattle.integers.specs.Sums.{vector}
use Rattle.integers.proofs.Machine.{length-tabulate, get_or-tabulate}
use Rattle.reachability.specs.Recurrence.{bound, slack}
use Rattle.reachability.specs.Answers.{Swept, swept_number, sweep_answer, bounds_of, slacks_of, SweepLeaves}
use Rattle.judge.specs.Answers.{Judged, judge_answer, swept_verdict}
use Rattle.reachability.specs.declared.model.Model.{Model}
use Rattle.reachability.specs.declared.refusals.CallRefusal.TheVariants.{Invalid, Missing, WrongLength, Growth}
use Rattle.std.specs.Prelude.{Ok, Err}
use Rattle.reachability.specs.Limits.{accepted}
use Rattle.reachability.proofs.model.Facts.{model-facts}
use Rattle.judge.proofs.Answers.{judges}
use Rattle.text.specs.Text.{word, line, each}
use Rattle.listing.specs.Listing.{row_text, swept_text, sweep_of, direction_text, judged_text, judge_of, guard_text}
use Rattle.listing.specs.Inner.{swept, Askable}

pub each-cong : (n : ℕ) (f g : ℕ → List ℕ) → ((k : ℕ) → k < n → f k ≡ g k) → each n f ≡ each n g
each-cong zero f g h = refl
each-cong (suc n) f g h = ap₂ ◌++◌ (each-cong n f g (λ k l. h k (omega (arith, l)))) (h n (omega arith))

module _ (m : Model) (d : ℕ) (b₀ s₀ : List ℤ) (ask : Askable m d b₀ s₀) where
  -- a direction's lines from its sweep
  pub swept_lines : (a : Swept) (b s : List ℤ) → SweepLeaves m d b₀ s₀ a b s → swept d a b s ≡ direction_text m d
  unfolding direction_text
  swept_lines a b s w = lines a b s w.bounds w.slacks ∙ ap (swept_text m d) answer
    where
      answer : a ≡ sweep_of m d
      answer = w.answer ∙ ap₂ (sweep_answer m d) ask.bounds-long ask.slacks-long

      lines : (a : Swept) (b s : List ℤ) → b ≡ cond (eqb (swept_number a) 0) (bounds_of m d) b₀ → s ≡ cond (eqb (swept_number a) 0) (slacks_of m d) s₀ → swept d a b s ≡ swept_text m d a
      lines (Ok h) b s e f =
          ap₂ (λ (x y : List ℤ). line (word "dir ") d (word " spare ") h ++ each (length x) (λ k. row_text k (vector x k) (vector y k))) e f
          ∙ ap (λ (n : ℕ). line (word "dir ") d (word " spare ") h ++ each n (λ k. row_text k (vector (bounds_of m d) k) (vector (slacks_of m d) k))) (length-tabulate (suc m.steps) (bound m d))
          ∙ ap (λ (x : List ℕ). line (word "dir ") d (word " spare ") h ++ x) (each-cong (suc m.steps) _ _ (λ k l. ap₂ (row_text k) (get_or-tabulate (suc m.steps) (bound m d) k (pos 0) l) (get_or-tabulate (suc m.steps) (λ j. pos (slack m d j)) k (pos 0) l)))
      lines (Err (Growth k)) b s e f = refl
      lines (Err Invalid) b s e f = refl
      lines (Err Missing) b s e f = refl
      lines (Err WrongLength) b s e f = refl

  -- a guard's answer from the sweep of its direction
  pub guard-answer : (g : ℕ) → g < m.questions.guards → get_or m.questions.watched g 0 ≡ d → (a : Swept) (b s : List ℤ) → SweepLeaves m d b₀ s₀ a b s → swept_verdict a (vector m.questions.levels g) b s ≡ judge_of m g
  guard-answer g inside e a b s w =
      (judges m g ask.accepts inside b₀ s₀ a b s _ (subst (λ (x : ℕ). SweepLeaves m x b₀ s₀ a b s) (sym e) w) refl).answer ∙ ap₂ (judge_answer m g) ask.bounds-long ask.slacks-long

-- a guard's line from its answer
pub guard-text : (m : Model) (g : ℕ) (a : Judged) → a ≡ judge_of m g → judged_text g a ≡ guard_text m g
unfolding guard_text
guard-text m g a e = ap (judged_text g) e

-- ---- the limits that the rooms rest on

pub directions-range : (m : Model) → accepted m ≡ true → (1 ≤ m.questions.directions) × (m.questions.directions ≤ 16)
directions-range m ok = ((model-facts m ok).directions-least, (model-facts m ok).directions-most)

pub steps-most : (m : Model) → accepted m ≡ true → m.steps ≤ 256
steps-most m ok = (model-facts m ok).steps-most
