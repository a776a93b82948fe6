-- Refusals 11 to 14 and Routines 1, 3, 4 and 5: what a judge answers and leaves, for every input, and what is made of a sweep's
-- answer and lists. Definitions only. b₀ and s₀ are the lists as lent, b and s as left. Not here: "Verdicts" and "Accuracy"
-- (`reachability`). Assumes nothing.
use Rattle.std.specs.Prelude.{◌≡◌, Bool, cond, ◌&&◌, List, ℕ, ◌-◌, leb, ltb, eqb, length, get_or, ℤ, Result, Ok, Err, IfOk}
use Rattle.integers.specs.Sums.{vector}
use Rattle.limits.specs.Limits.{steps_ok}
use Rattle.reachability.specs.Limits.{accepted}
use Rattle.reachability.specs.Recurrence.{growth_step}
use Rattle.reachability.specs.Verdicts.{verdict_below, verdict}
use Rattle.reachability.specs.Accuracy.{Accurate, VerdictHolds}
use Rattle.reachability.specs.Answers.{answer_number, call_figure, Swept, swept_number, lengths_ok, bounds_of, slacks_of}
use Rattle.reachability.specs.declared.model.Model.{Model}
use Rattle.reachability.specs.declared.refusals.CallRefusal.TheVariants.{Invalid, Missing, WrongLength, Growth}
use Rattle.reachability.specs.declared.refusals.CallRefusal.{CallRefusal}
use Rattle.reachability.specs.declared.verdicts.Verdict.{Verdict}
use Rattle.reachability.specs.declared.verdicts.Verdict.TheVariants.{Hit, Unknown, Clear}

-- What a judge answers: the verdict, or a refusal.
abbrev pub Judged : Type 0
Judged = Result Verdict CallRefusal

-- Forms 7: the number of an answer, 0 where nothing is refused.
abbrev pub judged_number : Judged → ℕ
judged_number a = answer_number a

-- The step that a verdict names, 0 where there is none.
abbrev pub verdict_step : Verdict → ℕ
verdict_step (Hit k) = k
verdict_step (Unknown k) = k
verdict_step Clear = 0

-- Forms 7, C interface 4: the figure of an answer, the step that it names, 0 where there is none.
abbrev pub judged_figure : Judged → ℕ
judged_figure (Ok v) = verdict_step v
judged_figure (Err r) = call_figure r

-- ---- from a sweep's answer and lists

-- Routines 5: lists with no model beside them have K + 1 elements for one K of 1 to 256 (Limits 2).
abbrev pub lists_ok : ℕ → ℕ → Bool
lists_ok lb ls = eqb ls lb && steps_ok (lb - 1)

-- Routines 5: the verdict over two lists, or number 13.
abbrev pub list_answer : ℤ → List ℤ → List ℤ → Judged
list_answer level b s = cond (lists_ok (length b) (length s)) (Ok (verdict_below (length b) level (vector b) (vector s))) (Err WrongLength)

-- The answer x where the sweep refused nothing; a refusal of the sweep stays one.
abbrev pub unless_refused : Swept → Judged → Judged
unless_refused (Ok h) x = x
unless_refused (Err r) x = Err r

abbrev pub swept_verdict : Swept → ℤ → List ℤ → List ℤ → Judged
swept_verdict w level b s = unless_refused w (list_answer level b s)

-- Routines 5: what `verdict` answers to the sweep's answer w and its lists, the verdict, the sweep's number, or 13.
pub record VerdictAnswers (w : Swept) (level : ℤ) (b s : List ℤ) (a : Judged) : Type 0 where
  pub answer : a ≡ swept_verdict w level b s
  pub number : judged_number a ≡ cond (eqb (swept_number w) 0) (cond (lists_ok (length b) (length s)) 0 13) (swept_number w)

-- ---- from a model

-- Routines 1: of 11, 12, 13 and 14 the first from the top, 14 with the first step of growth; else the verdict.
abbrev pub judge_answer : Model → ℕ → ℕ → ℕ → Judged
judge_answer m g lb ls =
    let d = get_or m.questions.watched g 0 in
    cond (accepted m)
    (cond (ltb g m.questions.guards)
    (cond (lengths_ok m lb ls)
    (cond (leb (growth_step m d) m.steps) (Err (Growth (growth_step m d))) (Ok (verdict m d (vector m.questions.levels g))))
    (Err WrongLength))
    (Err Missing))
    (Err Invalid)

-- Routines 1: the number of a judge, and its figure.
abbrev pub judge_number : Model → ℕ → ℕ → ℕ → ℕ
judge_number m g lb ls =
    cond (accepted m)
    (cond (ltb g m.questions.guards)
    (cond (lengths_ok m lb ls) (cond (leb (growth_step m (get_or m.questions.watched g 0)) m.steps) 14 0) 13)
    12)
    11

abbrev pub judge_figure : Model → ℕ → ℕ → ℕ → ℕ
judge_figure m g lb ls =
    let d = get_or m.questions.watched g 0 in
    cond (eqb (judge_number m g lb ls) 0) (verdict_step (verdict m d (vector m.questions.levels g)))
    (cond (eqb (judge_number m g lb ls) 14) (growth_step m d) 0)

-- Routines 3 and 4: what a judge leaves and answers, its number and figure (Forms 7), with the lists as they were where it refuses.
-- Promises 4: what it leaves and answers where it refuses nothing is accurate; a refusal says nothing of runs.
pub record JudgeLeaves (m : Model) (g : ℕ) (b₀ s₀ : List ℤ) (a : Judged) (b s : List ℤ) : Type 0 where
  pub answer : a ≡ judge_answer m g (length b₀) (length s₀)
  pub number : judged_number a ≡ judge_number m g (length b₀) (length s₀)
  pub figure : judged_figure a ≡ judge_figure m g (length b₀) (length s₀)
  pub bounds : b ≡ cond (eqb (judged_number a) 0) (bounds_of m (get_or m.questions.watched g 0)) b₀
  pub slacks : s ≡ cond (eqb (judged_number a) 0) (slacks_of m (get_or m.questions.watched g 0)) s₀
  pub accurate : judged_number a ≡ 0 → Accurate m (get_or m.questions.watched g 0) (vector b) (vector s)
  pub verdict : IfOk a (VerdictHolds m (get_or m.questions.watched g 0) (vector m.questions.levels g) (vector s))
