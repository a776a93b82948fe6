-- What the functions of a walk ask and leave, of any direction, matrix and set. w is the walk before, w' after. Definitions only; no public contract cites them. What these say of
-- the walks of a model is in `proofs.walk`. Assumes nothing.
use Rattle.std.specs.Prelude.{◌≡◌, List, ℕ, ◌+◌, ◌*◌, ◌≤◌, ◌<◌, max, T, ℤ, pos, nat_abs, ◌+ℤ◌, Option}
use Rattle.std.specs.Int.Signed.{non_neg}
use Rattle.integers.specs.Sums.{vector, magnitudes, dot_ℕ, tabulate}
use Rattle.stepping.specs.Limits.{error_limit}
use Rattle.stepping.specs.Recurrence.{half_up, Rounds}
use Rattle.stepping.specs.Refusals.{First, Steps, growth_answer, sum_of}
use Rattle.reachability.specs.Sets.{points, support_of, reach_limit}
use Rattle.reachability.specs.SetsInner.{Counted, Tested, term_limit}
use Rattle.reachability.specs.declared.sets.Shape.{Shape}
use Rattle.reachability.specs.declared.sets.Set.{Set}
use Rattle.reachability.specs.declared.walk.Walk.{Walk}

-- The most that e · reach can come to. For a support it is `term_limit`.
abbrev pub errors_limit : ℕ
errors_limit = 6 * (error_limit * reach_limit)

-- Errors and reaches within their limits, none below 0.
pub record ErrorsWithReach (e reaches : List ℤ) : Type 0 where
  pub natural : (i : ℕ) → i < 6 → T (non_neg (vector e i))
  pub small : (i : ℕ) → i < 6 → nat_abs (vector e i) ≤ error_limit
  pub reach-natural : (i : ℕ) → i < 6 → T (non_neg (vector reaches i))
  pub reach-small : (i : ℕ) → i < 6 → nat_abs (vector reaches i) ≤ reach_limit

-- Six reaches, as they are stored.
abbrev pub stored_reaches : (ℕ → ℕ) → List ℤ
stored_reaches reach = tabulate 6 (λ i. pos (reach i))

-- ---- a set's terms, in the lists that the code holds: it runs to six coordinates

abbrev pub term_support : Shape → ℕ → List ℤ → List ℤ → ℤ
term_support shape count xs r = support_of 6 shape count (points xs) (vector r)

abbrev pub term_errors : List ℤ → List ℤ → ℕ
term_errors e reaches = dot_ℕ 6 (magnitudes e) (magnitudes reaches)

pub record TermsAsk (shape : Shape) (count : ℕ) (xs reaches r e : List ℤ) : Type 0 where
  pub counted : Counted count
  pub tested : Tested xs r
  pub errors : ErrorsWithReach e reaches
  pub support-small : nat_abs (term_support shape count xs r) ≤ term_limit

-- ---- a walk

-- A walk that has gathered at most 257 terms, and a set for one more.
pub record WalkAsks (s : Set) (reaches : List ℤ) (w : Walk) : Type 0 where
  pub terms : TermsAsk s.shape s.count s.points reaches w.r w.e
  pub entered-small : nat_abs w.entered ≤ 257 * term_limit
  pub errors-small : w.errors ≤ 257 * errors_limit

-- Recurrence 2: a walk at its start, of the direction d.
pub record Begins (n : ℕ) (d : List ℤ) (w : Walk) : Type 0 where
  pub first : First d w.r w.e
  pub entered-is : w.entered ≡ pos 0
  pub errors-are : w.errors ≡ 0
  pub largest-is : w.largest ≡ sum_of (growth_answer n w.r w.e)

-- Recurrence 3 to 6, 10 and 11: a walk one move further back, by any matrix.
pub record Backs (mat : List ℤ) (s : Set) (reaches : List ℤ) (w w' : Walk) : Type 0 where
  pub answer : Option ℕ
  pub steps : Steps 6 mat w.r w.e answer w'.r w'.e
  pub entered-is : w'.entered ≡ w.entered +ℤ term_support s.shape s.count s.points w.r
  pub errors-are : w'.errors ≡ w.errors + term_errors w.e reaches
  pub largest-is : w'.largest ≡ max w.largest (sum_of answer)

-- Recurrence 11 to 14: the bound and the slack at the end of a walk.
abbrev pub Ends : Set → List ℤ → Walk → (bound slack : ℤ) → Type 0
Ends s reaches w bound slack =
    Rounds ((term_support s.shape s.count s.points w.r +ℤ w.entered) +ℤ pos (half_up (term_errors w.e reaches + w.errors))) (2 * half_up (term_errors w.e reaches + w.errors)) bound slack
