-- What the functions that write a listing ask of each other and leave. Definitions only; no public contract cites them.
-- Assumes nothing.
use Rattle.std.specs.Prelude.{◌≡◌, true, List, [], ◌++◌, ℕ, suc, ◌*◌, ◌≤◌, ◌<◌, ℤ, length, get_or, Ok, Err}
use Rattle.integers.specs.Sums.{vector}
use Rattle.reachability.specs.Limits.{accepted}
use Rattle.reachability.specs.Answers.{Swept}
use Rattle.judge.specs.Answers.{Judged, swept_verdict}
use Rattle.reachability.specs.declared.model.Model.{Model}
use Rattle.reachability.specs.declared.refusals.CallRefusal.TheVariants.{Invalid, Missing, WrongLength, Growth}
use Rattle.reachability.specs.declared.verdicts.Verdict.TheVariants.{Hit}
use Rattle.text.specs.Text.{word, line, each}
use Rattle.text.specs.declared.output.Output.{Output}
use Rattle.text.specs.Output.{PutNext}
use Rattle.listing.specs.Listing.{row_text, direction_text, judge_of}

-- The lines of a direction from what its sweep answered and left.
abbrev pub swept : ℕ → Swept → List ℤ → List ℤ → List ℕ
swept d (Ok h) b s = line (word "dir ") d (word " spare ") h ++ each (length b) (λ k. row_text k (vector b k) (vector s k))
swept d (Err (Growth k)) b s = line (word "dir ") d (word " growth ") k
swept d (Err Invalid) b s = []
swept d (Err Missing) b s = []
swept d (Err WrongLength) b s = []

-- An accepted model, one of its directions, and two lists of K + 1.
pub record Askable (m : Model) (d : ℕ) (b s : List ℤ) : Type 0 where
  pub accepts : accepted m ≡ true
  pub inside : d < m.questions.directions
  pub bounds-long : length b ≡ suc m.steps
  pub slacks-long : length s ≡ suc m.steps

-- The sweep's answer and lists give the answer on each guard of the direction.
pub record Notable (m : Model) (d : ℕ) (a : Swept) (b s : List ℤ) : Type 0 where
  pub guards-most : m.questions.guards ≤ 16
  pub answers : (g : ℕ) → g < m.questions.guards → get_or m.questions.watched g 0 ≡ d → swept_verdict a (vector m.questions.levels g) b s ≡ judge_of m g

-- What a list of answers gives beyond its end, which no guard's number is.
abbrev pub beyond : Judged
beyond = Ok (Hit 0)

-- Of the first so many guards, those that watch direction d have their answer in xs; what stands for guards of other directions is as
-- in xs₀.
pub record Notes (m : Model) (d guards : ℕ) (xs₀ xs : List Judged) : Type 0 where
  pub long : length xs ≡ 16
  pub here : (g : ℕ) → g < guards → get_or m.questions.watched g 0 ≡ d → get_or xs g beyond ≡ judge_of m g
  pub other : (g : ℕ) → (get_or m.questions.watched g 0 ≡ d → ⊥) → get_or xs g beyond ≡ get_or xs₀ g beyond

-- All guards that watch one of the first so many directions have their answer.
pub record Noted (m : Model) (directions : ℕ) (xs : List Judged) : Type 0 where
  pub long : length xs ≡ 16
  pub is : (g : ℕ) → g < m.questions.guards → get_or m.questions.watched g 0 < directions → get_or xs g beyond ≡ judge_of m g

-- All guards have it.
pub record AllNoted (m : Model) (xs : List Judged) : Type 0 where
  pub guards-most : m.questions.guards ≤ 16
  pub is : (g : ℕ) → g < m.questions.guards → get_or xs g beyond ≡ judge_of m g

-- A direction's lines, and its guards' answers noted.
pub record DirectionLeaves (m : Model) (d : ℕ) (xs₀ xs : List Judged) (b c : Output) : Type 0 where
  pub lines : PutNext 16758 (direction_text m d) b c
  pub noted : Notes m d m.questions.guards xs₀ xs

-- All directions' lines, and all guards' answers noted.
pub record DirectionsLeave (m : Model) (xs : List Judged) (b c : Output) : Type 0 where
  pub lines : PutNext (16758 * m.questions.directions) (each m.questions.directions (direction_text m)) b c
  pub noted : AllNoted m xs
