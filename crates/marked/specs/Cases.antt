-- Figures 1 to 12, 16 to 22, 24 to 27 and 30 to 35, the marked cases, as one list, and what it means that they hold: the cases that
-- judge *Cases* has, and those of calm models. Definitions only. A saying sets a figure beside what the contracts of `calm`,
-- `slack_limit` and `steps_within` say is answered, or is one of judge *Cases*. Where the specification names no K, it is the last step
-- that has a figure.
-- In order: sayings; the models; the cases. Not here: the theorem (`proofs.MarkedCases`). Assumes nothing.
use Rattle.std.specs.Prelude.{◌≡◌, Bool, true, false, List, [], ◌∷◌, ◌++◌, ℕ, suc, ℤ, pos, neg_ℤ, Result, Ok, Err}
use Rattle.integers.specs.Sums.{tabulate}
use Rattle.reachability.specs.declared.model.Model.{Model}
use Rattle.judge.specs.Cases.{interval, model_of, single, drifting, zero_box, Saying, numbered, bounds, slacks, e_at, error_total_at, Case, Holds, All, cases}
use Rattle.calm.specs.Calm.{slack_limit}
use Rattle.calm.specs.Answers.{calm_answer, limit_answer, steps_answer}
use Rattle.calm.specs.declared.CalmRefusal.{CalmRefusal}
use Rattle.calm.specs.declared.CalmRefusal.TheVariants.{Invalid, NotCalm, NoStep, TooSmall}

-- ---- sayings

pub data Marked : Type 0 where
  -- One of judge *Cases*.
  judged : Saying → Marked
  -- Whether a model is calm; the limits of all its steps, and the answer for one; the answer for a slack.
  calms : Model → Result Bool CalmRefusal → Marked
  limits : Model → List ℤ → Marked
  limit_at : Model → ℕ → Result ℕ CalmRefusal → Marked
  stays : Model → ℕ → Result ℕ CalmRefusal → Marked

abbrev pub IsSo : Marked → Type 0
IsSo (judged s) = Holds s
IsSo (calms m a) = calm_answer m ≡ a
IsSo (limits m ls) = tabulate (suc m.steps) (λ k. pos (slack_limit m k)) ≡ ls
IsSo (limit_at m k a) = limit_answer m k ≡ a
IsSo (stays m s a) = steps_answer m s ≡ a

-- Each saying of each case holds.
abbrev pub AllSo : List (List Marked) → Type 0
AllSo = All (All IsSo)

-- The cases of judge *Cases*, among these.
abbrev pub sayings_of : Case → List Marked
sayings_of [] = []
sayings_of (s ∷ ss) = judged s ∷ sayings_of ss

abbrev pub cases_of : List Case → List (List Marked)
cases_of [] = []
cases_of (c ∷ cs) = sayings_of c ∷ cases_of cs

-- ---- the models

-- Figures 33: of one coordinate, its entry; of two, the rows.
abbrev pub still : ℤ → Model
still entry = single 1 entry zero_box zero_box (pos 1) []

abbrev pub square : List (List ℤ) → Model
square matrix = model_of 2 1 matrix [] zero_box zero_box (pos 1 ∷ pos 0 ∷ []) []

-- Figures 34: entry 65,535, by which every move but the first rounds.
abbrev pub rounded : Model
rounded = single 4 (pos 65535) (interval (pos 0) (pos 500000)) zero_box (pos 1) []

-- Figures 35: the same with an input box and a drift.
abbrev pub rounded_input : Model
rounded_input = drifting 5 (pos 65535) (pos 80000) zero_box (interval (pos 0) (pos 100000)) (pos 1)

-- ---- the cases

-- Figures 33.
abbrev pub case33 : List Marked
case33 =
    calms (still (pos 65536)) (Ok true)
    ∷ calms (still (neg_ℤ (pos 65536))) (Ok true)
    ∷ calms (still (pos 65537)) (Ok false)
    ∷ calms (still (neg_ℤ (pos 65537))) (Ok false)
    ∷ calms (square ((pos 0 ∷ pos 65536 ∷ []) ∷ (pos 0 ∷ pos 65536 ∷ []) ∷ [])) (Ok false)
    ∷ calms (square ((pos 0 ∷ pos 0 ∷ []) ∷ (pos 65536 ∷ pos 65536 ∷ []) ∷ [])) (Ok true)
    ∷ limit_at (still (pos 65537)) 2 (Err NotCalm)
    ∷ stays (still (pos 65537)) 1 (Err NotCalm)
    ∷ calms (still (pos 131073)) (Err Invalid)
    ∷ limit_at (still (pos 131073)) 2 (Err Invalid)
    ∷ stays (still (pos 131073)) 1 (Err Invalid)
    ∷ []

-- Figures 34.
abbrev pub case34 : List Marked
case34 =
    judged (numbered rounded 0)
    ∷ judged (e_at rounded 4 3)
    ∷ judged (error_total_at rounded 4 1500000)
    ∷ judged (bounds rounded (pos 500000 ∷ pos 499993 ∷ pos 499985 ∷ pos 499978 ∷ pos 499971 ∷ []))
    ∷ judged (slacks rounded (pos 0 ∷ pos 1 ∷ pos 2 ∷ pos 2 ∷ pos 3 ∷ []))
    ∷ calms rounded (Ok true)
    ∷ limits rounded (pos 2 ∷ pos 2 ∷ pos 2 ∷ pos 3 ∷ pos 3 ∷ [])
    ∷ limit_at rounded 4 (Ok 3)
    ∷ limit_at rounded 5 (Err NoStep)
    ∷ stays rounded 1 (Err TooSmall)
    ∷ stays rounded 2 (Ok 2)
    ∷ stays rounded 3 (Ok 4)
    ∷ []

-- Figures 35.
abbrev pub case35 : List Marked
case35 =
    judged (numbered rounded_input 0)
    ∷ judged (error_total_at rounded_input 5 1080000)
    ∷ judged (bounds rounded_input (pos 0 ∷ pos 180000 ∷ pos 359998 ∷ pos 539992 ∷ pos 719984 ∷ pos 899974 ∷ []))
    ∷ judged (slacks rounded_input (pos 0 ∷ pos 0 ∷ pos 1 ∷ pos 2 ∷ pos 2 ∷ pos 3 ∷ []))
    ∷ limits rounded_input (pos 2 ∷ pos 2 ∷ pos 2 ∷ pos 2 ∷ pos 3 ∷ pos 3 ∷ [])
    ∷ stays rounded_input 2 (Ok 3)
    ∷ []

-- Figures 1 to 12, 16 to 22, 24 to 27 and 30 to 35, in one list.
abbrev pub all_cases : List (List Marked)
all_cases = cases_of cases ++ (case33 ∷ case34 ∷ case35 ∷ [])
