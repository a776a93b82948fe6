-- Refusals 11 and 26 to 28 and Routines 25 to 27: what the routines of calm models answer, for every input. Definitions only.
-- Assumes nothing.
use Rattle.std.specs.Prelude.{◌≡◌, Bool, true, false, cond, ℕ, ◌-◌, ◌≤◌, ◌<◌, leb, eqb, Result, Ok, Err}
use Rattle.reachability.specs.Limits.{accepted}
use Rattle.reachability.specs.Recurrence.{slack}
use Rattle.reachability.specs.declared.model.Model.{Model}
use Rattle.calm.specs.Calm.{calm_model, slack_limit, SlacksWithin, first_above}
use Rattle.calm.specs.declared.CalmRefusal.{CalmRefusal}
use Rattle.calm.specs.declared.CalmRefusal.TheVariants.{Invalid, NotCalm, NoStep, TooSmall}

-- Forms 7: the number of a refusal.
abbrev pub refusal_number : CalmRefusal → ℕ
refusal_number Invalid = 11
refusal_number NotCalm = 26
refusal_number NoStep = 27
refusal_number TooSmall = 28

-- ---- whether a model is calm

-- Forms 7: the number of an answer, 0 where nothing is refused, and its figure, 1 where the model is calm.
abbrev pub calmness_number : Result Bool CalmRefusal → ℕ
calmness_number (Ok b) = 0
calmness_number (Err e) = refusal_number e

abbrev pub calmness_figure : Result Bool CalmRefusal → ℕ
calmness_figure (Ok b) = cond b 1 0
calmness_figure (Err e) = 0

-- Routines 25: 11 first; then whether the model is calm.
abbrev pub calm_answer : Model → Result Bool CalmRefusal
calm_answer m = cond (accepted m) (Ok (calm_model m)) (Err Invalid)

abbrev pub calm_number : Model → ℕ
calm_number m = cond (accepted m) 0 11

abbrev pub calm_figure : Model → ℕ
calm_figure m = cond (accepted m) (cond (calm_model m) 1 0) 0

-- Routines 25: what `calm` answers; of a model that is calm it promises Calm 4 and 6.
pub record CalmAnswers (m : Model) (a : Result Bool CalmRefusal) : Type 0 where
  pub answer : a ≡ calm_answer m
  pub number : calmness_number a ≡ calm_number m
  pub figure : calmness_figure a ≡ calm_figure m
  pub holds : a ≡ Ok true → SlacksWithin m

-- What is answered by whether a model is calm: `invalid` where it breaks a rule, `restless` where it is not calm, else x.
abbrev pub by_calmness : {A : Type 0} → Result Bool CalmRefusal → A → A → A → A
by_calmness (Err e) invalid restless x = invalid
by_calmness (Ok false) invalid restless x = restless
by_calmness (Ok true) invalid restless x = x

-- ---- the limit at a step

-- Forms 7: the number and the figure of an answer; the figure is the limit.
abbrev pub limited_number : Result ℕ CalmRefusal → ℕ
limited_number (Ok l) = 0
limited_number (Err e) = refusal_number e

abbrev pub limited_figure : Result ℕ CalmRefusal → ℕ
limited_figure (Ok l) = l
limited_figure (Err e) = 0

-- Routines 26: of 11, 26 and 27 the first; else the limit of the step.
abbrev pub limit_answer : Model → ℕ → Result ℕ CalmRefusal
limit_answer m k = by_calmness (calm_answer m) (Err Invalid) (Err NotCalm) (cond (leb k m.steps) (Ok (slack_limit m k)) (Err NoStep))

abbrev pub limit_number : Model → ℕ → ℕ
limit_number m k = by_calmness (calm_answer m) 11 26 (cond (leb k m.steps) 0 27)

abbrev pub limit_figure : Model → ℕ → ℕ
limit_figure m k = cond (eqb (limit_number m k) 0) (slack_limit m k) 0

-- Routines 26: what `slack_limit` answers; where it refuses nothing, no slack at that step is larger (Calm 4).
pub record LimitAnswers (m : Model) (k : ℕ) (a : Result ℕ CalmRefusal) : Type 0 where
  pub answer : a ≡ limit_answer m k
  pub number : limited_number a ≡ limit_number m k
  pub figure : limited_figure a ≡ limit_figure m k
  pub holds : limited_number a ≡ 0 → (d : ℕ) → d < m.questions.directions → slack m d k ≤ limited_figure a

-- ---- the steps within a slack

-- Forms 7: the number and the figure of an answer, as those of a limit; the figure is the step.
abbrev pub within_number : Result ℕ CalmRefusal → ℕ
within_number = limited_number

abbrev pub within_figure : Result ℕ CalmRefusal → ℕ
within_figure = limited_figure

-- Routines 27: of 11, 26 and 28 the first; else the step before the first whose limit is above the slack.
abbrev pub steps_answer : Model → ℕ → Result ℕ CalmRefusal
steps_answer m s =
    by_calmness (calm_answer m) (Err Invalid) (Err NotCalm) (cond (eqb (first_above m s) 0) (Err TooSmall) (Ok (first_above m s - 1)))

abbrev pub steps_number : Model → ℕ → ℕ
steps_number m s = by_calmness (calm_answer m) 11 26 (cond (eqb (first_above m s) 0) 28 0)

abbrev pub steps_figure : Model → ℕ → ℕ
steps_figure m s = cond (eqb (steps_number m s) 0) (first_above m s - 1) 0

-- Routines 27: what `steps_within` answers; where it refuses nothing, no slack up to that step is above the one named (Calm 4).
pub record WithinAnswers (m : Model) (s : ℕ) (a : Result ℕ CalmRefusal) : Type 0 where
  pub answer : a ≡ steps_answer m s
  pub number : within_number a ≡ steps_number m s
  pub figure : within_figure a ≡ steps_figure m s
  pub holds : within_number a ≡ 0 → (d : ℕ) → d < m.questions.directions → (k : ℕ) → k ≤ within_figure a → slack m d k ≤ s
