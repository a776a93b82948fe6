-- Figures 1 to 12, 16 to 22, 24 to 27 and 30 to 32, the marked cases, as one list, and what it means that they hold. Definitions
-- only. A case is the list of what the specification says in it; a saying sets a figure beside what the contracts of `support`,
-- `reach`, `sweep` and `judge` say is answered or left, or beside the r, e, T or raw slack by which they say it. Sweeps are of
-- direction 0 and judges of guard 0, with K + 1 elements in both lists. Where the specification names no K, it is the last step that
-- has a figure.
-- In order: stored values; sayings; the sets and models; the cases. Not here: the theorem (`proofs.MarkedCases`). Assumes nothing.
use Rattle.std.specs.Prelude.{Some, ◌≡◌, List, [], ◌∷◌, ◌++◌, ℕ, zero, suc, length, replicate, ℤ, pos, neg_ℤ, Ok, Err}
use Rattle.integers.specs.Sums.{vector}
use Rattle.reachability.specs.Sets.{support_answer, ReachAnswer}
use Rattle.reachability.specs.OneMore.{OneMore}
use Rattle.reachability.specs.Recurrence.{working, error_total, raw_slack}
use Rattle.reachability.specs.Answers.{Swept, sweep_answer, swept_number, bounds_of, slacks_of}
use Rattle.reachability.specs.declared.sets.Shape.{Shape}
use Rattle.reachability.specs.declared.sets.Shape.TheVariants.{Box, Zonotope, Vertices}
use Rattle.reachability.specs.declared.sets.Set.{Set}
use Rattle.reachability.specs.declared.model.Model.{Model}
use Rattle.reachability.specs.declared.refusals.CallRefusal.TheVariants.{Growth}
use Rattle.reachability.specs.declared.verdicts.Verdict.TheVariants.{Hit, Unknown, Clear}
use Rattle.judge.specs.Answers.{Judged, judge_answer}

-- ---- stored values

-- The first k elements of xs, with zeros after its end.
abbrev pub padded : ℕ → List ℤ → List ℤ
padded zero xs = []
padded (suc k) [] = pos 0 ∷ padded k []
padded (suc k) (x ∷ xs) = x ∷ padded k xs

-- Rows of six, one after the other.
abbrev pub rows : List (List ℤ) → List ℤ
rows [] = []
rows (x ∷ xs) = padded 6 x ++ rows xs

-- A set of these points.
abbrev pub set_of : Shape → List (List ℤ) → Set
set_of shape ps = record { shape = shape; count = length ps; points = padded 96 (rows ps) }

-- Of one coordinate: the box [low, high].
abbrev pub interval : ℤ → ℤ → Set
interval low high = set_of Box ((low ∷ []) ∷ (high ∷ []) ∷ [])

-- A model with one direction, and guards with these levels on it.
abbrev pub model_of : ℕ → ℕ → List (List ℤ) → List ℤ → Set → Set → List ℤ → List ℤ → Model
model_of n steps matrix drift initial input direction levels =
    record {
      n = n;
      steps = steps;
      motion = record { matrix = padded 36 (rows matrix) };
      drift = padded 6 drift;
      initial = initial;
      input = input;
      questions = record {
        directions = 1;
        entries = padded 96 direction;
        guards = length levels;
        watched = replicate 16 0;
        levels = padded 16 levels;
      };
    }

-- Of one coordinate, without a drift and with one.
abbrev pub single : ℕ → ℤ → Set → Set → ℤ → List ℤ → Model
single steps entry initial input direction levels = model_of 1 steps ((entry ∷ []) ∷ []) [] initial input (direction ∷ []) levels

abbrev pub drifting : ℕ → ℤ → ℤ → Set → Set → ℤ → Model
drifting steps entry drift initial input direction = model_of 1 steps ((entry ∷ []) ∷ []) (drift ∷ []) initial input (direction ∷ []) []

-- ---- sayings

-- What a sweep and a judge answer.
abbrev pub swept : Model → Swept
swept m = sweep_answer m 0 (suc m.steps) (suc m.steps)

abbrev pub judged : Model → Judged
judged m = judge_answer m 0 (suc m.steps) (suc m.steps)

pub data Saying : Type 0 where
  -- A sweep's number, 0 where it refuses nothing, and its answer.
  numbered : Model → ℕ → Saying
  sweeps : Model → Swept → Saying
  -- The bounds and the slacks that a sweep leaves where it refuses nothing: all of them, or one bound at its step.
  bounds : Model → List ℤ → Saying
  slacks : Model → List ℤ → Saying
  bound_at : Model → ℕ → ℤ → Saying
  -- r(k) and e(k), of one coordinate; T(k) and the raw slack of step k.
  r_at : Model → ℕ → ℤ → Saying
  e_at : Model → ℕ → ℕ → Saying
  error_total_at : Model → ℕ → ℕ → Saying
  raw_slack_at : Model → ℕ → ℕ → Saying
  -- A judge's answer.
  judges : Model → Judged → Saying
  -- Of n coordinates: a set's support at r, and its reach.
  supports : ℕ → Set → List ℤ → ℤ → Saying
  reaches : ℕ → Set → List ℤ → Saying
  -- A set, and one that has one point more.
  grows : Set → Set → Saying

abbrev pub Holds : Saying → Type 0
Holds (numbered m number) = swept_number (swept m) ≡ number
Holds (sweeps m a) = swept m ≡ a
Holds (bounds m bs) = bounds_of m 0 ≡ bs
Holds (slacks m ss) = slacks_of m 0 ≡ ss
Holds (bound_at m k b) = vector (bounds_of m 0) k ≡ b
Holds (r_at m k r) = (working m 0 k k).r 0 ≡ r
Holds (e_at m k e) = (working m 0 k k).e 0 ≡ e
Holds (error_total_at m k t) = error_total m 0 k ≡ t
Holds (raw_slack_at m k s) = raw_slack m 0 k ≡ s
Holds (judges m a) = judged m ≡ a
Holds (supports n s r v) = support_answer n s (padded 6 r) ≡ Some v
Holds (reaches n s xs) = ReachAnswer n s (Some (padded 6 xs))
Holds (grows s t) = OneMore s t

abbrev pub Case : Type 0
Case = List Saying

-- P holds of each element.
infixr 5 ◌and◌
pub data All {A : Type 0} (P : A → Type 0) : List A → Type 0 where
  none : All P []
  ◌and◌ : {x : A} {xs : List A} → P x → All P xs → All P (x ∷ xs)

-- Each saying of each case holds.
abbrev pub AllHold : List Case → Type 0
AllHold = All (All Holds)

-- ---- the sets and models

-- The box of zeros, of one coordinate or more.
abbrev pub zero_box : Set
zero_box = set_of Box ([] ∷ [] ∷ [])

-- Figures 1, 2, 3, 30 and 32: entry 65,536, with guards at these levels.
abbrev pub kept : List ℤ → Model
kept = single 2 (pos 65536) (interval (pos 2) (pos 5)) (interval (neg_ℤ (pos 1)) (pos 1)) (pos 3)

-- Figures 4: entry 32,768.
abbrev pub halved : Model
halved = single 3 (pos 32768) (interval (pos 0) (pos 100)) zero_box (pos 1) []

-- Figures 5, 6 and 16: entry 1, the upper end of the initial box, and the direction.
abbrev pub faded : ℤ → ℤ → Model
faded high direction = single 2 (pos 1) (interval (pos 0) high) zero_box direction []

-- Figures 7 and 8: entry 131,072, and K.
abbrev pub doubled : ℕ → Model
doubled steps = single steps (pos 131072) zero_box zero_box (pos 1) []

-- The zonotope of Figures 9 and 21: centre, two generators.
abbrev pub zonotope : Set
zonotope = set_of Zonotope ((pos 1 ∷ neg_ℤ (pos 2) ∷ []) ∷ (pos 3 ∷ pos 1 ∷ []) ∷ (neg_ℤ (pos 1) ∷ pos 2 ∷ []) ∷ [])

-- That of Figures 21, without the last generator.
abbrev pub one_generator : Set
one_generator = set_of Zonotope ((pos 1 ∷ neg_ℤ (pos 2) ∷ []) ∷ (pos 3 ∷ pos 1 ∷ []) ∷ [])

-- The vertices of Figures 10 and 22.
abbrev pub vertices : Set
vertices = set_of Vertices ((pos 0 ∷ pos 0 ∷ []) ∷ (pos 4 ∷ pos 0 ∷ []) ∷ (pos 0 ∷ pos 3 ∷ []) ∷ [])

-- Those of Figures 22, without the last.
abbrev pub two_vertices : Set
two_vertices = set_of Vertices ((pos 0 ∷ pos 0 ∷ []) ∷ (pos 4 ∷ pos 0 ∷ []) ∷ [])

-- The set of Figures 11: its lower and its upper corner.
abbrev pub box : Set
box = set_of Box ((neg_ℤ (pos 2) ∷ pos 3 ∷ []) ∷ (pos 1 ∷ pos 4 ∷ []) ∷ [])

-- Figures 12, with K 1.
abbrev pub moved : Model
moved =
    model_of
    2
    1
    ((pos 0 ∷ pos 65536 ∷ []) ∷ (pos 0 ∷ pos 0 ∷ []) ∷ [])
    []
    (set_of Box ((pos 0 ∷ pos 7 ∷ []) ∷ (pos 1 ∷ pos 9 ∷ []) ∷ []))
    zero_box
    (pos 1 ∷ pos 0 ∷ [])
    []

-- Figures 17: entry 32.
abbrev pub halfway : Model
halfway = single 2 (pos 32) (interval (neg_ℤ (pos 1048576)) (pos 0)) zero_box (neg_ℤ (pos 2)) []

-- Figures 18, 19 and 20: entry 99,334, K, and the direction.
abbrev pub widened : ℕ → ℤ → Model
widened steps direction = single steps (pos 99334) zero_box zero_box direction []

-- Figures 24 and 25: entry 65,536, the drift and the direction.
abbrev pub pushed : ℤ → ℤ → Model
pushed drift direction = drifting 2 (pos 65536) drift zero_box zero_box direction

-- Figures 26: the drift, and the upper end of the input box.
abbrev pub at_limit : ℤ → ℤ → Model
at_limit drift high = drifting 1 (pos 65536) drift zero_box (interval (pos 0) high) (pos 1)

-- Figures 27: entry 1, the input box and the drift.
abbrev pub shifted : ℤ → ℤ → ℤ → Model
shifted low high drift = drifting 5 (pos 1) drift zero_box (interval low high) (pos 1)

-- Figures 31: entry 32,768, with guards at these levels.
abbrev pub fed : List ℤ → Model
fed = single 3 (pos 32768) zero_box (interval (pos 0) (pos 1)) (pos 1)

-- ---- the cases

-- Figures 1.
abbrev pub case1 : Case
case1 =
    numbered (kept []) 0
    ∷ bounds (kept []) (pos 15 ∷ pos 18 ∷ pos 21 ∷ [])
    ∷ slacks (kept []) (pos 0 ∷ pos 0 ∷ pos 0 ∷ [])
    ∷ []

-- Figures 2.
abbrev pub case2 : Case
case2 = judges (kept (pos 21 ∷ [])) (Ok Clear) ∷ []

-- Figures 3.
abbrev pub case3 : Case
case3 = judges (kept (pos 22 ∷ [])) (Ok Clear) ∷ []

-- Figures 4.
abbrev pub case4 : Case
case4 =
    numbered halved 0
    ∷ bounds halved (pos 100 ∷ pos 50 ∷ pos 25 ∷ pos 13 ∷ [])
    ∷ slacks halved (pos 0 ∷ pos 0 ∷ pos 0 ∷ pos 1 ∷ [])
    ∷ []

-- Figures 5.
abbrev pub case5 : Case
case5 =
    numbered (faded (pos 100) (pos 1)) 0
    ∷ r_at (faded (pos 100) (pos 1)) 0 (pos 1048576)
    ∷ r_at (faded (pos 100) (pos 1)) 1 (pos 16)
    ∷ r_at (faded (pos 100) (pos 1)) 2 (pos 0)
    ∷ e_at (faded (pos 100) (pos 1)) 2 1
    ∷ bounds (faded (pos 100) (pos 1)) (pos 100 ∷ pos 1 ∷ pos 1 ∷ [])
    ∷ slacks (faded (pos 100) (pos 1)) (pos 0 ∷ pos 1 ∷ pos 2 ∷ [])
    ∷ []

-- Figures 6.
abbrev pub case6 : Case
case6 =
    numbered (faded (pos 100) (neg_ℤ (pos 1))) 0
    ∷ r_at (faded (pos 100) (neg_ℤ (pos 1))) 2 (pos 0)
    ∷ e_at (faded (pos 100) (neg_ℤ (pos 1))) 2 1
    ∷ bounds (faded (pos 100) (neg_ℤ (pos 1))) (pos 0 ∷ pos 0 ∷ pos 1 ∷ [])
    ∷ []

-- Figures 7.
abbrev pub case7 : Case
case7 = numbered (doubled 10) 0 ∷ sweeps (doubled 10) (Ok 0) ∷ []

-- Figures 8.
abbrev pub case8 : Case
case8 = numbered (doubled 11) 14 ∷ sweeps (doubled 11) (Err (Growth 11)) ∷ []

-- Figures 9.
abbrev pub case9 : Case
case9 = supports 2 zonotope (pos 1 ∷ pos 1 ∷ []) (pos 4) ∷ reaches 2 zonotope (pos 5 ∷ pos 5 ∷ []) ∷ []

-- Figures 10.
abbrev pub case10 : Case
case10 = supports 2 vertices (pos 1 ∷ pos 2 ∷ []) (pos 6) ∷ []

-- Figures 11.
abbrev pub case11 : Case
case11 = supports 2 box (neg_ℤ (pos 1) ∷ pos 1 ∷ []) (pos 6) ∷ []

-- Figures 12.
abbrev pub case12 : Case
case12 = numbered moved 0 ∷ bound_at moved 1 (pos 9) ∷ []

-- Figures 16.
abbrev pub case16 : Case
case16 =
    numbered (faded (pos 1) (pos 1)) 0
    ∷ error_total_at (faded (pos 1) (pos 1)) 2 1
    ∷ raw_slack_at (faded (pos 1) (pos 1)) 2 2
    ∷ bounds (faded (pos 1) (pos 1)) (pos 1 ∷ pos 1 ∷ pos 1 ∷ [])
    ∷ slacks (faded (pos 1) (pos 1)) (pos 0 ∷ pos 1 ∷ pos 2 ∷ [])
    ∷ []

-- Figures 17.
abbrev pub case17 : Case
case17 =
    numbered halfway 0
    ∷ r_at halfway 1 (neg_ℤ (pos 1024))
    ∷ r_at halfway 2 (pos 0)
    ∷ e_at halfway 2 1
    ∷ bounds halfway (pos 2097152 ∷ pos 1024 ∷ pos 1 ∷ [])
    ∷ slacks halfway (pos 0 ∷ pos 0 ∷ pos 2 ∷ [])
    ∷ []

-- Figures 18.
abbrev pub case18 : Case
case18 =
    r_at (widened 15 (pos 2)) 15 (pos 1073741633)
    ∷ e_at (widened 15 (pos 2)) 15 884
    ∷ numbered (widened 15 (pos 2)) 14
    ∷ sweeps (widened 15 (pos 2)) (Err (Growth 15))
    ∷ []

-- Figures 19.
abbrev pub case19 : Case
case19 =
    r_at (widened 10 (pos 2)) 10 (pos 134217710)
    ∷ e_at (widened 10 (pos 2)) 10 108
    ∷ numbered (widened 10 (pos 2)) 0
    ∷ sweeps (widened 10 (pos 2)) (Ok 2)
    ∷ []

-- Figures 20.
abbrev pub case20 : Case
case20 =
    r_at (widened 10 (pos 16)) 10 (pos 1073741727)
    ∷ e_at (widened 10 (pos 16)) 10 108
    ∷ numbered (widened 10 (pos 16)) 0
    ∷ sweeps (widened 10 (pos 16)) (Ok 0)
    ∷ []

-- Figures 21.
abbrev pub case21 : Case
case21 =
    grows one_generator zonotope
    ∷ supports 2 one_generator (pos 1 ∷ neg_ℤ (pos 1) ∷ []) (pos 5)
    ∷ reaches 2 one_generator (pos 4 ∷ pos 3 ∷ [])
    ∷ supports 2 zonotope (pos 1 ∷ neg_ℤ (pos 1) ∷ []) (pos 8)
    ∷ reaches 2 zonotope (pos 5 ∷ pos 5 ∷ [])
    ∷ []

-- Figures 22.
abbrev pub case22 : Case
case22 =
    grows two_vertices vertices
    ∷ supports 2 two_vertices (pos 2 ∷ pos 1 ∷ []) (pos 8)
    ∷ reaches 2 two_vertices (pos 4 ∷ pos 0 ∷ [])
    ∷ supports 2 vertices (pos 2 ∷ pos 1 ∷ []) (pos 8)
    ∷ reaches 2 vertices (pos 4 ∷ pos 3 ∷ [])
    ∷ []

-- Figures 24.
abbrev pub case24 : Case
case24 =
    numbered (pushed (pos 3) (pos 1)) 0
    ∷ bounds (pushed (pos 3) (pos 1)) (pos 0 ∷ pos 3 ∷ pos 6 ∷ [])
    ∷ slacks (pushed (pos 3) (pos 1)) (pos 0 ∷ pos 0 ∷ pos 0 ∷ [])
    ∷ []

-- Figures 25.
abbrev pub case25 : Case
case25 =
    numbered (pushed (neg_ℤ (pos 3)) (neg_ℤ (pos 1))) 0
    ∷ bounds (pushed (neg_ℤ (pos 3)) (neg_ℤ (pos 1))) (pos 0 ∷ pos 3 ∷ pos 6 ∷ [])
    ∷ slacks (pushed (neg_ℤ (pos 3)) (neg_ℤ (pos 1))) (pos 0 ∷ pos 0 ∷ pos 0 ∷ [])
    ∷ []

-- Figures 26, of models made by hand.
abbrev pub case26 : Case
case26 =
    numbered (at_limit (pos 1048576) (pos 0)) 0
    ∷ numbered (at_limit (pos 1048576) (pos 1)) 11
    ∷ numbered (at_limit (pos 1048577) (pos 0)) 11
    ∷ []

-- Figures 27.
abbrev pub case27 : Case
case27 =
    numbered (shifted (neg_ℤ (pos 524288)) (pos 0) (pos 524288)) 0
    ∷ bounds (shifted (neg_ℤ (pos 524288)) (pos 0) (pos 524288)) (pos 0 ∷ pos 524288 ∷ pos 524296 ∷ pos 524297 ∷ pos 524297 ∷ pos 524298 ∷ [])
    ∷ slacks (shifted (neg_ℤ (pos 524288)) (pos 0) (pos 524288)) (pos 0 ∷ pos 0 ∷ pos 0 ∷ pos 2 ∷ pos 2 ∷ pos 4 ∷ [])
    ∷ numbered (shifted (pos 0) (pos 524288) (pos 0)) 0
    ∷ bounds (shifted (pos 0) (pos 524288) (pos 0)) (pos 0 ∷ pos 524288 ∷ pos 524296 ∷ pos 524297 ∷ pos 524297 ∷ pos 524297 ∷ [])
    ∷ slacks (shifted (pos 0) (pos 524288) (pos 0)) (pos 0 ∷ pos 0 ∷ pos 0 ∷ pos 2 ∷ pos 2 ∷ pos 3 ∷ [])
    ∷ []

-- Figures 30.
abbrev pub case30 : Case
case30 = judges (kept (pos 20 ∷ [])) (Ok (Hit 2)) ∷ []

-- Figures 31.
abbrev pub case31 : Case
case31 =
    numbered (fed []) 0
    ∷ bounds (fed []) (pos 0 ∷ pos 1 ∷ pos 2 ∷ pos 2 ∷ [])
    ∷ slacks (fed []) (pos 0 ∷ pos 0 ∷ pos 1 ∷ pos 1 ∷ [])
    ∷ judges (fed (pos 0 ∷ [])) (Ok (Hit 1))
    ∷ judges (fed (pos 1 ∷ [])) (Ok (Unknown 2))
    ∷ judges (fed (pos 2 ∷ [])) (Ok Clear)
    ∷ []

-- Figures 32.
abbrev pub case32 : Case
case32 = judges (kept (neg_ℤ (pos 9223372036854775808) ∷ [])) (Ok (Hit 0)) ∷ judges (kept (pos 9223372036854775807 ∷ [])) (Ok Clear) ∷ []

-- Figures 1 to 12, 16 to 22, 24 to 27 and 30 to 32, in one list.
abbrev pub cases : List Case
cases =
    case1
    ∷ case2
    ∷ case3
    ∷ case4
    ∷ case5
    ∷ case6
    ∷ case7
    ∷ case8
    ∷ case9
    ∷ case10
    ∷ case11
    ∷ case12
    ∷ case16
    ∷ case17
    ∷ case18
    ∷ case19
    ∷ case20
    ∷ case21
    ∷ case22
    ∷ case24
    ∷ case25
    ∷ case26
    ∷ case27
    ∷ case30
    ∷ case31
    ∷ case32
    ∷ []
