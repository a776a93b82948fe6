-- Figures 1 to 12, 16 to 22, 24 to 27 and 30 to 35, the marked cases (`specs.Cases`), hold: those of judge *Cases* by its theorem, the
-- others by computation. Assumes nothing.
use mathlib.Core.Path.{refl}
use mathlib.Core.List.{List, [], ◌∷◌, ◌++◌}
use Rattle.integers.specs.Sums.{sum, sum_ℕ, max_ℕ, all_below}
use Rattle.stepping.specs.Recurrence.{greatest}
use Rattle.reachability.specs.Sets.{largest}
use Rattle.reachability.specs.Motion.{matrix_at, motion_ok}
use Rattle.reachability.specs.Recurrence.{walk, first_place}
use Rattle.judge.specs.Cases.{All, none, ◌and◌, AllHold, Case, Holds, cases}
use Rattle.judge.proofs.MarkedCases.{marked as judged-marked}
use Rattle.marked.specs.Cases.{IsSo, AllSo, sayings_of, cases_of, case33, case34, case35, all_cases}

sayings-so : (c : Case) → All Holds c → All IsSo (sayings_of c)
sayings-so [] none = none
sayings-so (s ∷ ss) (h and hs) = h and sayings-so ss hs

cases-so : (cs : List Case) → AllHold cs → AllSo (cases_of cs)
cases-so [] none = none
cases-so (c ∷ cs) (h and hs) = sayings-so c h and cases-so cs hs

-- What holds of each of two lists holds of each of both.
joined : {A : Type 0} {P : A → Type 0} (xs ys : List A) → All P xs → All P ys → All P (xs ++ ys)
joined [] ys none q = q
joined (x ∷ xs) ys (h and hs) q = h and joined xs ys hs q

calm-so : AllSo (case33 ∷ case34 ∷ case35 ∷ [])
unfolding sum sum_ℕ max_ℕ all_below greatest largest matrix_at motion_ok walk first_place
calm-so =
    (refl and refl and refl and refl and refl and refl and refl and refl and refl and refl and refl and none)
    and (refl and refl and refl and refl and refl and refl and refl and refl and refl and refl and refl and refl and none)
    and (refl and refl and refl and refl and refl and refl and none)
    and none

pub marked : AllSo all_cases
marked = joined (cases_of cases) _ (cases-so cases judged-marked) calm-so
