-- C interface 2 to 7 and 9 to 12: what each function answers and leaves, for every input. Definitions only. A file is the list of its bytes;
-- b₀ and s₀ are the lists as lent, b and s as left. Assumes nothing.
use Rattle.std.specs.Prelude.{◌≡◌, cond, List, ℕ, length, ℤ, Option, Some, None, Result, Ok, Err}
use Rattle.integers.specs.Sums.{vector, magnitudes}
use Rattle.stepping.specs.Recurrence.{growth_sum}
use Rattle.stepping.specs.Refusals.{step_ok, stepped_r, stepped_e}
use Rattle.reachability.specs.Answers.{sweep_answer, SweepLeaves}
use Rattle.reachability.specs.declared.model.Model.{Model}
use Rattle.judge.specs.Answers.{judge_answer, JudgeLeaves}
use Rattle.reader.specs.declared.refusals.Refused.{Refused}
use Rattle.reader.specs.Reading.{read_model}
use Rattle.writer.specs.Answers.{rewrite_answer, Rewrites}
use Rattle.calm.specs.Answers.{calm_answer, CalmAnswers, limit_answer, LimitAnswers, steps_answer, WithinAnswers}
use Rattle.pepperscarp.specs.Packing.{refused_packed, stepped_packed, sweep_packed, judge_packed, rewritten_packed, calm_packed, limit_packed, within_packed}

-- The answer of a step of r and e: the growth sum of what it leaves, or number 11.
abbrev pub step_answer : ℕ → List ℤ → List ℤ → List ℤ → Option ℕ
step_answer n m r e = cond (step_ok n m r e) (Some (growth_sum n (vector (stepped_r n m r)) (magnitudes (stepped_e n m r e)))) None

-- C interface 2: what a step answers and leaves; x is the answer, r and e are as lent, r' and e' as left.
pub record StepReply (n : ℕ) (m r e : List ℤ) (x : ℕ) (r' e' : List ℤ) : Type 0 where
  pub answer : x ≡ stepped_packed (step_answer n m r e)
  pub direction : r' ≡ cond (step_ok n m r e) (stepped_r n m r) r
  pub errors : e' ≡ cond (step_ok n m r e) (stepped_e n m r e) e

-- C interface 5: the answer to a file, its number and offset where it is refused, else that of its model.
abbrev pub file_answer : Result Model Refused → (Model → ℕ) → ℕ
file_answer (Ok m) packed_of = packed_of m
file_answer (Err e) packed_of = refused_packed e

-- C interface 5: a refused file leaves both lists as they were.
abbrev pub Kept : Result Model Refused → List ℤ → List ℤ → List ℤ → List ℤ → Type 0
Kept reading b₀ s₀ b s = (e : Refused) → reading ≡ Err e → (b ≡ b₀) × (s ≡ s₀)

-- The form of SweepLeaves and JudgeLeaves and, with a file for the model and one number for the answer, of the two replies: of
-- what was given, the direction's or guard's number, the lists as lent, the answer and the lists as left.
abbrev pub Promise : Type 0 → Type 0 → Type 1
Promise X A = X → ℕ → List ℤ → List ℤ → A → List ℤ → List ℤ → Type 0

-- What a function of a file answers and leaves. `answer_of` is the answer of a model, from the number i and the lengths of the lists,
-- `packed_of` that answer in one number, and `Leaves` the promise of it, here for the file's model.
pub record FileReply {A : Type 0} (packed_of : Model → ℕ → ℕ → ℕ → ℕ) (answer_of : Model → ℕ → ℕ → ℕ → A) (Leaves : Promise Model A) (file : List ℕ) (i : ℕ) (b₀ s₀ : List ℤ) (x : ℕ) (b s : List ℤ) : Type 0 where
  pub answer : x ≡ file_answer (read_model file) (λ m. packed_of m i (length b₀) (length s₀))
  pub kept : Kept (read_model file) b₀ s₀ b s
  pub left : (m : Model) → read_model file ≡ Ok m → Leaves m i b₀ s₀ (answer_of m i (length b₀) (length s₀)) b s

-- C interface 3 and 7: what a sweep of a file answers and leaves. `left` is the promise of the sweep of the file's model, its
-- accuracy included.
abbrev pub SweepReply : Promise (List ℕ) ℕ
SweepReply = FileReply sweep_packed sweep_answer SweepLeaves

-- C interface 4 and 7: what a judge of a file answers and leaves. `left` is the promise of the judge of the file's model, its
-- accuracy and its verdict's meaning included.
abbrev pub JudgeReply : Promise (List ℕ) ℕ
JudgeReply = FileReply judge_packed judge_answer JudgeLeaves

-- C interface 9: what rewriting a file answers and leaves; b are the bytes as lent, c as left. `left` is the promise of `rewrite`.
pub record WriteReply (file b : List ℕ) (x : ℕ) (c : List ℕ) : Type 0 where
  pub answer : x ≡ rewritten_packed (rewrite_answer file (length b))
  pub left : Rewrites file b (rewrite_answer file (length b)) c

-- What a function of a file answers that is lent nothing but the file: of the file's model `packed_of`, in one number, and what `Holds`
-- of it.
pub record ModelReply (packed_of : Model → ℕ) (Holds : Model → Type 0) (file : List ℕ) (x : ℕ) : Type 0 where
  pub answer : x ≡ file_answer (read_model file) packed_of
  pub holds : (m : Model) → read_model file ≡ Ok m → Holds m

-- C interface 10: whether the model of a file is calm, with the promise of `calm`.
abbrev pub CalmReply : List ℕ → ℕ → Type 0
CalmReply = ModelReply calm_packed (λ m. CalmAnswers m (calm_answer m))

-- C interface 11: the limit of step k, with the promise of `slack_limit`.
abbrev pub LimitReply : List ℕ → ℕ → ℕ → Type 0
LimitReply file k = ModelReply (limit_packed k) (λ m. LimitAnswers m k (limit_answer m k)) file

-- C interface 12: the steps within the slack s, with the promise of `steps_within`.
abbrev pub WithinReply : List ℕ → ℕ → ℕ → Type 0
WithinReply file s = ModelReply (within_packed s) (λ m. WithinAnswers m s (steps_answer m s)) file
