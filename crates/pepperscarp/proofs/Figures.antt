-- Every figure is below 2 to the 48. In order: the offset of a refused file; what is written of a file; the figures of a sweep and a
-- judge; the limit of a step, and the steps within a slack; the growth sum that a step leaves. Assumes nothing.
use mathlib.Core.Path.{◌≡◌, refl, sym, subst, ◌∙◌}
use mathlib.Core.Bool.{Bool, true, false, cond}
use mathlib.Core.List.{List}
use Rattle.std.specs.Prelude.{Result}
use Prim.Native.Nat.{ℕ, zero, suc, ◌+◌, ◌*◌, ◌≤◌, ◌<◌, min}
use native.Mathlib.Nat.{le_of_suc-le-suc}
use native.Mathlib.Omega.{arith}
use borrow.Author.Tests.{leb-true, ltb-true}
use lib.Dec.{leb, ltb}
use lib.ListN.{length, take, length-take}
use lib.IntN.{ℤ}
use Rattle.std.specs.Prelude.{Some, None}
use Rattle.integers.specs.Sums.{vector, magnitudes}
use Rattle.stepping.specs.Limits.{growth_limit}
use Rattle.stepping.specs.Recurrence.{greatest, growth_sum}
use Rattle.stepping.specs.Refusals.{step_ok, stepped_r, stepped_e}
use Rattle.stepping.proofs.SteppedSum.{growth_sum-stepped-small}
use Rattle.reachability.specs.Limits.{accepted}
use Rattle.reachability.specs.Recurrence.{growth_step, spare_figure}
use Rattle.reachability.specs.Answers.{swept_figure, sweep_answer, lengths_ok}
use Rattle.reachability.specs.declared.model.Model.{Model}
use Rattle.std.specs.Prelude.{Ok, Err}
use Rattle.reachability.specs.declared.refusals.CallRefusal.TheVariants.{Invalid, Missing, WrongLength, Growth}
use Rattle.reachability.specs.declared.verdicts.Verdict.TheVariants.{Hit, Unknown, Clear}
use Rattle.reachability.proofs.model.Facts.{model-facts}
use Rattle.judge.specs.Answers.{judged_figure, judge_answer}
use Rattle.reader.specs.declared.refusals.Refused.{Refused}
use Rattle.reader.specs.Reading.{read_model}
use Rattle.reader.proofs.ReadModels.{read_model-accepted, read_model-take}
use Rattle.reader.proofs.Answers.{read_model-told}
use Rattle.std.specs.Prelude.{Result, Ok, Err}
use Rattle.writer.specs.declared.RewriteRefusal.TheVariants as W
use Rattle.writer.specs.Writing.{file_of}
use Rattle.writer.specs.Answers.{rewritten_figure, rewritten_as, rewrite_answer}
use Rattle.writer.proofs.Longest.{file_of-short}
use Rattle.calm.specs.Answers.{limited_figure, LimitAnswers, within_figure, WithinAnswers}
use Rattle.calm.specs.declared.CalmRefusal.{CalmRefusal}
use Rattle.calm.proofs.Answers.{limited-most, within-most}
use Rattle.pepperscarp.specs.Packing.{stepped_figure, figure_limit}
use Rattle.pepperscarp.specs.Replies.{step_answer}

-- ---- a refused file: only its first 2,048 bytes are looked at

pub offset-small : (file : List ℕ) (e : Refused) → read_model file ≡ Err e → e.offset < figure_limit
offset-small file e is =
    let told = read_model-told (take 2048 file) e (read_model-take file ∙ is) in
    inside (subst (λ (k : ℕ). e.offset ≤ k) (length-take 2048 file) told.inside)
  where
    inside : e.offset ≤ min 2048 (length file) → e.offset < figure_limit
    inside h = omega arith

-- ---- a file that is rewritten: nothing longer than 1,546 bytes is written

pub rewritten-small : (file : List ℕ) (room : ℕ) → rewritten_figure (rewrite_answer file room) < figure_limit
rewritten-small file room = by (read_model file) refl
  where
    few : (size : ℕ) (t : Bool) → size ≤ 1546 → rewritten_figure (cond t (Ok size) (Err W.Short)) < figure_limit
    few size true h = omega arith
    few size false h = omega arith

    by : (r : Result Model Refused) → read_model file ≡ r → rewritten_figure (rewritten_as r room) < figure_limit
    by (Ok m) e = few (length (file_of m)) (leb (length (file_of m)) room) (file_of-short m (read_model-accepted file e))
    by (Err e) is = offset-small file e is

-- ---- a sweep and a judge: a step is at most K, and K at most 256

steps-most : (m : Model) → accepted m ≡ true → m.steps ≤ 256
steps-most m ok = (model-facts m ok).steps-most

greatest-most : (k : ℕ) (p : ℕ → Bool) → greatest k p ≤ k
unfolding greatest
greatest-most zero p = omega arith
greatest-most (suc k) p = split (p (suc k)) (greatest-most k p)
  where
    split : (t : Bool) → greatest k p ≤ k → cond t (suc k) (greatest k p) ≤ suc k
    split true h = omega arith
    split false h = omega arith

swept-most : (a b c t : Bool) (g h k : ℕ) → leb g k ≡ t → h ≤ 30 → swept_figure (cond a (cond b (cond c (cond t (Err (Growth g)) (Ok h)) (Err WrongLength)) (Err Missing)) (Err Invalid)) ≤ k + 30
swept-most true true true true g h k e l = omega (arith, leb-true g k e)
swept-most true true true false g h k e l = omega arith
swept-most true true false t g h k e l = omega arith
swept-most true false c t g h k e l = omega arith
swept-most false b c t g h k e l = omega arith

pub swept-small : (m : Model) (d lb ls : ℕ) → accepted m ≡ true → swept_figure (sweep_answer m d lb ls) < figure_limit
swept-small m d lb ls ok =
    let most = swept-most (accepted m) (ltb d m.questions.directions) (lengths_ok m lb ls) (leb (growth_step m d) m.steps) (growth_step m d) (spare_figure m d) m.steps refl (greatest-most 30 _) in
    omega (arith, most, steps-most m ok)

judged-most : (a b c t th tu : Bool) (g h u k : ℕ) → leb g k ≡ t → ltb h (suc k) ≡ th → ltb u (suc k) ≡ tu → judged_figure (cond a (cond b (cond c (cond t (Err (Growth g)) (Ok (cond th (Hit h) (cond tu (Unknown u) Clear)))) (Err WrongLength)) (Err Missing)) (Err Invalid)) ≤ k
judged-most true true true true th tu g h u k e f l = leb-true g k e
judged-most true true true false true tu g h u k e f l = le_of_suc-le-suc (ltb-true h (suc k) f)
judged-most true true true false false true g h u k e f l = le_of_suc-le-suc (ltb-true u (suc k) l)
judged-most true true true false false false g h u k e f l = omega arith
judged-most true true false t th tu g h u k e f l = omega arith
judged-most true false c t th tu g h u k e f l = omega arith
judged-most false b c t th tu g h u k e f l = omega arith

pub judged-small : (m : Model) (g lb ls : ℕ) → accepted m ≡ true → judged_figure (judge_answer m g lb ls) < figure_limit
judged-small m g lb ls ok =
    let most : judged_figure (judge_answer m g lb ls) ≤ m.steps = judged-most (accepted m) (ltb g m.questions.guards) (lengths_ok m lb ls) _ _ _ _ _ _ m.steps refl refl refl in
    omega (arith, most, steps-most m ok)

-- ---- a limit, and the steps within a slack

pub limited-small : {m : Model} {k : ℕ} {a : Result ℕ CalmRefusal} → LimitAnswers m k a → limited_figure a < figure_limit
limited-small {m} {k} h = subst (λ (x : Result ℕ CalmRefusal). limited_figure x < figure_limit) (sym h.answer) (omega (arith, limited-most m k))

pub stayed-small : {m : Model} {s : ℕ} {a : Result ℕ CalmRefusal} → WithinAnswers m s a → accepted m ≡ true → within_figure a < figure_limit
stayed-small {m} {s} h ok = subst (λ (x : Result ℕ CalmRefusal). within_figure x < figure_limit) (sym h.answer) (omega (arith, within-most m s, steps-most m ok))

-- ---- a step

pub stepped-small : (n : ℕ) (m r e : List ℤ) → stepped_figure (step_answer n m r e) < figure_limit
stepped-small n m r e = split (step_ok n m r e) refl
  where
    split : (t : Bool) → step_ok n m r e ≡ t → stepped_figure (cond t (Some (growth_sum n (vector (stepped_r n m r)) (magnitudes (stepped_e n m r e)))) None) < figure_limit
    split true ok = below (growth_sum-stepped-small n m r e ok)
      where
        below : {k : ℕ} → k ≤ 24 * growth_limit + 1 → k < figure_limit
        below h = omega arith
    split false ok = omega arith
