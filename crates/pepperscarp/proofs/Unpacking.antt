-- An answer can be taken apart again: x % 256 is its number, x / 256 % 256 its verdict and x / 65,536 its figure. And no file is
-- answered by number 11. In order: any three; the answers of each function; number 11. Assumes nothing.
use mathlib.Core.Path.{◌≡◌, refl}
use mathlib.Core.Bool.{Bool, true, false, cond}
use mathlib.Core.List.{List}
use Rattle.std.specs.Prelude.{Result, Ok, Err}
use mathlib.Core.Logic.{inl, inr}
use Prim.Native.Nat.{ℕ, ◌/◌, ◌%◌, ◌<◌}
use native.Mathlib.Omega.{arith}
use lib.Dec.{eqb, leb, ltb}
use lib.ListN.{length, get_or}
use Rattle.std.specs.Prelude.{Option, Some, None}
use Rattle.stepping.specs.Refusals.{stepped_number}
use Rattle.reachability.specs.declared.model.Model.{Model}
use Rattle.reachability.specs.Limits.{accepted}
use Rattle.reachability.specs.Recurrence.{growth_step}
use Rattle.reachability.specs.Answers.{call_number, Swept, swept_number, swept_figure, lengths_ok, sweep_number}
use Rattle.judge.specs.Answers.{Judged, judged_number, judged_figure, judge_number}
use Rattle.std.specs.Prelude.{Ok, Err}
use Rattle.reachability.specs.declared.refusals.CallRefusal.{CallRefusal}
use Rattle.reachability.specs.declared.refusals.CallRefusal.TheVariants.{Invalid, Missing, WrongLength, Growth}
use Rattle.reachability.specs.declared.verdicts.Verdict.TheVariants.{Hit, Unknown, Clear}
use Rattle.reader.specs.FileNumbers.{file_number}
use Rattle.reader.specs.declared.refusals.Refused.{Refused}
use Rattle.reader.specs.Reading.{read_model}
use Rattle.reader.proofs.ReadModels.{read_model-accepted}
use Rattle.reader.proofs.Answers.{FileNumber, read_model-told}
use Rattle.std.specs.Prelude.{Result, Ok, Err}
use Rattle.writer.specs.declared.RewriteRefusal.TheVariants as W
use Rattle.writer.specs.Writing.{file_of}
use Rattle.writer.specs.Answers.{rewritten_number, rewritten_figure, rewritten_as, rewrite_answer}
use Rattle.calm.specs.Calm.{calm_model, first_above}
use Rattle.calm.specs.Answers.{refusal_number, calmness_number, calmness_figure, calm_number, by_calmness, limited_number, limited_figure, limit_number, within_number, within_figure, steps_number}
use Rattle.pepperscarp.specs.Packing.{packed, stepped_figure, judged_verdict, stepped_packed, swept_packed, judged_packed, rewritten_packed, calmed_packed, limited_packed, stayed_packed, refused_packed}
use Rattle.calm.specs.declared.CalmRefusal.{CalmRefusal}
use Rattle.calm.specs.declared.CalmRefusal.TheVariants as R

-- ---- any three

pub record Unpacks (x number verdict figure : ℕ) : Type 0 where
  pub number_is : x % 256 ≡ number
  pub verdict-is : x / 256 % 256 ≡ verdict
  pub figure-is : x / 65536 ≡ figure

pub packed-unpacks : (number verdict figure : ℕ) → number < 256 → verdict < 256 → Unpacks (packed number verdict figure) number verdict figure
packed-unpacks number verdict figure h k = record { number_is = omega arith; verdict-is = omega arith; figure-is = omega arith }

-- ---- the answers

-- a file's number is 1 to 10 or 15 to 17
small : {number : ℕ} → FileNumber number → number < 256
small (inl h) = omega (arith, h)
small (inr h) = omega (arith, h.1)

pub refused-unpacks : (file : List ℕ) (e : Refused) → read_model file ≡ Err e → Unpacks (refused_packed e) (file_number e.refusal) 0 e.offset
refused-unpacks file e is = packed-unpacks (file_number e.refusal) 0 e.offset (small (read_model-told file e is).known) (omega arith)

pub stepped-unpacks : (a : Option ℕ) → Unpacks (stepped_packed a) (stepped_number a) 0 (stepped_figure a)
stepped-unpacks a = packed-unpacks (stepped_number a) 0 (stepped_figure a) (small a) (omega arith)
  where
    small : (a : Option ℕ) → stepped_number a < 256
    small (Some s) = omega arith
    small None = omega arith

call-small : (r : CallRefusal) → call_number r < 256
call-small Invalid = omega arith
call-small Missing = omega arith
call-small WrongLength = omega arith
call-small (Growth k) = omega arith

pub swept-unpacks : (a : Swept) → Unpacks (swept_packed a) (swept_number a) 0 (swept_figure a)
swept-unpacks a = packed-unpacks (swept_number a) 0 (swept_figure a) (small a) (omega arith)
  where
    small : (a : Swept) → swept_number a < 256
    small (Ok h) = omega arith
    small (Err r) = call-small r

pub judged-unpacks : (a : Judged) → Unpacks (judged_packed a) (judged_number a) (judged_verdict a) (judged_figure a)
judged-unpacks a = packed-unpacks (judged_number a) (judged_verdict a) (judged_figure a) (small a) (few a)
  where
    small : (a : Judged) → judged_number a < 256
    small (Ok v) = omega arith
    small (Err r) = call-small r

    few : (a : Judged) → judged_verdict a < 256
    few (Ok (Hit k)) = omega arith
    few (Ok (Unknown k)) = omega arith
    few (Ok Clear) = omega arith
    few (Err r) = omega arith

pub rewritten-unpacks : (file : List ℕ) (room : ℕ) → Unpacks (rewritten_packed (rewrite_answer file room)) (rewritten_number (rewrite_answer file room)) 0 (rewritten_figure (rewrite_answer file room))
rewritten-unpacks file room = by (read_model file) refl
  where
    either : (size : ℕ) (t : Bool) → Unpacks (rewritten_packed (cond t (Ok size) (Err W.Short))) (rewritten_number (cond t (Ok size) (Err W.Short))) 0 (rewritten_figure (cond t (Ok size) (Err W.Short)))
    either size true = packed-unpacks 0 0 size (omega arith) (omega arith)
    either size false = packed-unpacks 22 0 0 (omega arith) (omega arith)

    by : (r : Result Model Refused) → read_model file ≡ r → Unpacks (rewritten_packed (rewritten_as r room)) (rewritten_number (rewritten_as r room)) 0 (rewritten_figure (rewritten_as r room))
    by (Ok m) e = either (length (file_of m)) (leb (length (file_of m)) room)
    by (Err e) is = refused-unpacks file e is

-- the number of a refusal of the routines of calm models
refusal-small : (e : CalmRefusal) → refusal_number e < 256
refusal-small R.Invalid = omega arith
refusal-small R.NotCalm = omega arith
refusal-small R.NoStep = omega arith
refusal-small R.TooSmall = omega arith

pub calmed-unpacks : (a : Result Bool CalmRefusal) → Unpacks (calmed_packed a) (calmness_number a) 0 (calmness_figure a)
calmed-unpacks a = packed-unpacks (calmness_number a) 0 (calmness_figure a) (small a) (omega arith)
  where
    small : (a : Result Bool CalmRefusal) → calmness_number a < 256
    small (Ok b) = omega arith
    small (Err e) = refusal-small e

-- a limit, or the steps within a slack
figure-unpacks : (a : Result ℕ CalmRefusal) → Unpacks (packed (limited_number a) 0 (limited_figure a)) (limited_number a) 0 (limited_figure a)
figure-unpacks a = packed-unpacks (limited_number a) 0 (limited_figure a) (small a) (omega arith)
  where
    small : (a : Result ℕ CalmRefusal) → limited_number a < 256
    small (Ok l) = omega arith
    small (Err e) = refusal-small e

pub limited-unpacks : (a : Result ℕ CalmRefusal) → Unpacks (limited_packed a) (limited_number a) 0 (limited_figure a)
limited-unpacks a = figure-unpacks a

pub stayed-unpacks : (a : Result ℕ CalmRefusal) → Unpacks (stayed_packed a) (within_number a) 0 (within_figure a)
stayed-unpacks a = figure-unpacks a

-- ---- number 11: a model that was read is accepted

-- the number of a sweep or a judge of an accepted model is one of the others
other : (a b c t : Bool) → a ≡ true → ◌≡◌ {A = ℕ} (cond a (cond b (cond c (cond t 14 0) 13) 12) 11) 11 → ⊥
other true true true true e z = omega arith
other true true true false e z = omega arith
other true true false t e z = omega arith
other true false c t e z = omega arith
other false b c t e z = let n : ◌≡◌ {A = ℕ} 0 1 = cc in omega arith

pub sweep-never-11 : (file : List ℕ) (d lb ls : ℕ) {m : Model} → read_model file ≡ Ok m → sweep_number m d lb ls ≡ 11 → ⊥
sweep-never-11 file d lb ls {m} e z =
    other (accepted m) (ltb d m.questions.directions) (lengths_ok m lb ls) (leb (growth_step m d) m.steps) (read_model-accepted file e) z

pub judge-never-11 : (file : List ℕ) (g lb ls : ℕ) {m : Model} → read_model file ≡ Ok m → judge_number m g lb ls ≡ 11 → ⊥
judge-never-11 file g lb ls {m} e z =
    other (accepted m) (ltb g m.questions.guards) (lengths_ok m lb ls) (leb (growth_step m (get_or m.questions.watched g 0)) m.steps) (read_model-accepted file e) z

-- nor is a file that is rewritten
pub rewrite-never-11 : (file : List ℕ) (room : ℕ) → rewritten_number (rewrite_answer file room) ≡ 11 → ⊥
rewrite-never-11 file room = by (read_model file) refl
  where
    either : (size : ℕ) (t : Bool) → rewritten_number (cond t (Ok size) (Err W.Short)) ≡ 11 → ⊥
    either size true z = omega arith
    either size false z = omega arith

    known : {number : ℕ} → FileNumber number → number ≡ 11 → ⊥
    known (inl h) z = omega (arith, h)
    known (inr h) z = omega (arith, h.0)

    by : (r : Result Model Refused) → read_model file ≡ r → rewritten_number (rewritten_as r room) ≡ 11 → ⊥
    by (Ok m) e z = either (length (file_of m)) (leb (length (file_of m)) room) z
    by (Err e) is z = known (read_model-told file e is).known z

-- nor a question about a calm model: x is the number that is answered where it is calm
calm-other : (a b : Bool) (x : ℕ) → a ≡ true → (x ≡ 11 → ⊥) → by_calmness (cond a (Ok b) (Err R.Invalid)) 11 26 x ≡ 11 → ⊥
calm-other true true x e o z = o z
calm-other true false x e o z = omega arith
calm-other false b x e o z = let n : ◌≡◌ {A = ℕ} 0 1 = cc in omega arith

either : (a b : ℕ) (t : Bool) → (a ≡ 11 → ⊥) → (b ≡ 11 → ⊥) → cond t a b ≡ 11 → ⊥
either a b true p q z = p z
either a b false p q z = q z

pub calm-never-11 : (file : List ℕ) {m : Model} → read_model file ≡ Ok m → calm_number m ≡ 11 → ⊥
calm-never-11 file {m} e = of (accepted m) (read_model-accepted file e)
  where
    of : (a : Bool) → a ≡ true → ◌≡◌ {A = ℕ} (cond a 0 11) 11 → ⊥
    of true t z = omega arith
    of false t z = let n : ◌≡◌ {A = ℕ} 0 1 = cc in omega arith

pub limit-never-11 : (file : List ℕ) (k : ℕ) {m : Model} → read_model file ≡ Ok m → limit_number m k ≡ 11 → ⊥
limit-never-11 file k {m} e =
    calm-other (accepted m) (calm_model m) _ (read_model-accepted file e) (either 0 27 (leb k m.steps) (λ z. omega arith) (λ z. omega arith))

pub within-never-11 : (file : List ℕ) (s : ℕ) {m : Model} → read_model file ≡ Ok m → steps_number m s ≡ 11 → ⊥
within-never-11 file s {m} e =
    calm-other (accepted m) (calm_model m) _ (read_model-accepted file e) (either 28 0 (eqb (first_above m s) 0) (λ z. omega arith) (λ z. omega arith))
