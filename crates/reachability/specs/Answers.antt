-- Refusals 11 to 14 and Routines 1, 2 and 4: what a sweep answers and leaves, for every input. Definitions only.
-- b₀ and s₀ are the lists as lent, b and s as left. Assumes nothing.
use Rattle.std.specs.Prelude.{◌≡◌, Bool, cond, ◌&&◌, List, ℕ, suc, leb, ltb, eqb, length, ℤ, pos, Result, Ok, Err}
use Rattle.integers.specs.Sums.{vector, tabulate}
use Rattle.reachability.specs.Limits.{accepted}
use Rattle.reachability.specs.Recurrence.{growth_step, spare_figure, bound, slack}
use Rattle.reachability.specs.Accuracy.{Accurate}
use Rattle.reachability.specs.declared.model.Model.{Model}
use Rattle.reachability.specs.declared.refusals.CallRefusal.{CallRefusal}
use Rattle.reachability.specs.declared.refusals.CallRefusal.TheVariants.{Invalid, Missing, WrongLength, Growth}

-- Forms 7: the number of a refusal.
abbrev pub call_number : CallRefusal → ℕ
call_number Invalid = 11
call_number Missing = 12
call_number WrongLength = 13
call_number (Growth k) = 14

-- Forms 7: the figure of a refusal, the first step with growth, 0 where there is none.
abbrev pub call_figure : CallRefusal → ℕ
call_figure Invalid = 0
call_figure Missing = 0
call_figure WrongLength = 0
call_figure (Growth k) = k

-- Forms 7: the number of an answer, 0 where nothing is refused.
abbrev pub answer_number : {A : Type 0} → Result A CallRefusal → ℕ
answer_number (Ok x) = 0
answer_number (Err r) = call_number r

-- What a sweep answers: the spare figure, or a refusal.
abbrev pub Swept : Type 0
Swept = Result ℕ CallRefusal

abbrev pub swept_number : Swept → ℕ
swept_number a = answer_number a

-- Forms 7, C interface 3: the figure of an answer, the spare figure or the first step with growth, 0 where there is neither.
abbrev pub swept_figure : Swept → ℕ
swept_figure (Ok h) = h
swept_figure (Err r) = call_figure r

-- Refusals 13: both lists have K + 1 elements.
abbrev pub lengths_ok : Model → ℕ → ℕ → Bool
lengths_ok m lb ls = eqb lb (suc m.steps) && eqb ls (suc m.steps)

-- Routines 1: of 11, 12, 13 and 14 the first from the top, 14 with the first step of growth; else the spare figure.
abbrev pub sweep_answer : Model → ℕ → ℕ → ℕ → Swept
sweep_answer m d lb ls =
    cond (accepted m)
    (cond (ltb d m.questions.directions)
    (cond (lengths_ok m lb ls)
    (cond (leb (growth_step m d) m.steps) (Err (Growth (growth_step m d))) (Ok (spare_figure m d)))
    (Err WrongLength))
    (Err Missing))
    (Err Invalid)

-- Routines 1: the number of a sweep, and its figure.
abbrev pub sweep_number : Model → ℕ → ℕ → ℕ → ℕ
sweep_number m d lb ls =
    cond (accepted m)
    (cond (ltb d m.questions.directions)
    (cond (lengths_ok m lb ls) (cond (leb (growth_step m d) m.steps) 14 0) 13)
    12)
    11

abbrev pub sweep_figure : Model → ℕ → ℕ → ℕ → ℕ
sweep_figure m d lb ls =
    cond (eqb (sweep_number m d lb ls) 0) (spare_figure m d) (cond (eqb (sweep_number m d lb ls) 14) (growth_step m d) 0)

-- The bounds and the slacks of the steps 0 to K.
abbrev pub bounds_of : Model → ℕ → List ℤ
bounds_of m d = tabulate (suc m.steps) (bound m d)

abbrev pub slacks_of : Model → ℕ → List ℤ
slacks_of m d = tabulate (suc m.steps) (λ k. pos (slack m d k))

-- Routines 2 and 4: what a sweep leaves and answers, its number and figure (Forms 7), with the lists as they were where it refuses.
-- Promises 4: what it leaves where it refuses nothing is accurate.
pub record SweepLeaves (m : Model) (d : ℕ) (b₀ s₀ : List ℤ) (a : Swept) (b s : List ℤ) : Type 0 where
  pub answer : a ≡ sweep_answer m d (length b₀) (length s₀)
  pub number : swept_number a ≡ sweep_number m d (length b₀) (length s₀)
  pub figure : swept_figure a ≡ sweep_figure m d (length b₀) (length s₀)
  pub bounds : b ≡ cond (eqb (swept_number a) 0) (bounds_of m d) b₀
  pub slacks : s ≡ cond (eqb (swept_number a) 0) (slacks_of m d) s₀
  pub accurate : swept_number a ≡ 0 → Accurate m d (vector b) (vector s)
