-- What the writer answers and leaves: of a model that is not accepted; where there is too little room; where the file was put; and the
-- same of a file. Assumes nothing.
use mathlib.Core.Path.{◌≡◌, refl, sym, ap, ap₂, ◌∙◌}
use mathlib.Core.Bool.{Bool, true, false, cond}
use mathlib.Core.List.{List, ◌++◌}
use Prim.Native.Nat.{ℕ, ◌+◌, ◌≤◌, ◌<◌}
use native.Mathlib.Omega.{arith}
use borrow.Author.Tests.{le-leb, lt-leb, ne_eqb}
use lib.Dec.{eqb, leb}
use lib.ListN.{length, take, drop, length-append}
use lib.Seq.{take_at}
use Rattle.reachability.specs.declared.model.Model.{Model}
use Rattle.reachability.specs.Limits.{accepted}
use Rattle.text.specs.Put.{Put}
use Rattle.reader.specs.FileNumbers.{file_number}
use Rattle.reader.specs.declared.refusals.Refused.{Refused}
use Rattle.reader.specs.Reading.{read_model, read_as}
use Rattle.reader.proofs.Answers.{read_model-told}
use Rattle.reader.proofs.ReadModels.{read_model-accepted}
use Rattle.writer.specs.declared.WriteRefusal.{WriteRefusal}
use Rattle.writer.specs.declared.WriteRefusal.TheVariants.{Invalid, Short}
use Rattle.writer.specs.declared.RewriteRefusal.{RewriteRefusal}
use Rattle.writer.specs.declared.RewriteRefusal.TheVariants as R
use Rattle.std.specs.Prelude.{Result, Ok, Err}
use Rattle.std.specs.Result.{result_or}
use Rattle.writer.specs.Writing.{file_of}
use Rattle.writer.specs.OneForm.{Stored}
use Rattle.writer.specs.Answers.{written_number, written_length, write_answer, write_number, write_length, Writes, rewritten_number, rewritten_figure, model_file, rewritten_as, Rewrites}
use Rattle.writer.proofs.ReadBack.{read_model-file_of}

-- ---- of a model

module _ (m : Model) (b : List ℕ) where
  abbrev size : ℕ
  size = length (file_of m)

  -- by the two tests
  told : (a : Result ℕ WriteRefusal) (ok fits : Bool) → accepted m ≡ ok → leb size (length b) ≡ fits → a ≡ cond ok (cond fits (Ok size) (Err Short)) (Err Invalid) → (a ≡ write_answer m (length b)) × (written_number a ≡ write_number m (length b)) × (written_length a ≡ write_length m (length b))
  told a ok fits e f is =
      let same : a ≡ write_answer m (length b) = is ∙ sym (ap₂ (λ (x y : Bool). cond x (cond y (Ok size) (Err Short)) (Err Invalid)) e f) in
      (same, ap written_number same ∙ numbers (accepted m) (leb size (length b)), ap written_length same ∙ lengths (accepted m) (leb size (length b)))
    where
      numbers : (x y : Bool) → written_number (cond x (cond y (Ok size) (Err Short)) (Err Invalid)) ≡ cond x (cond y 0 22) 11
      numbers true true = refl
      numbers true false = refl
      numbers false y = refl

      lengths : (x y : Bool) → written_length (cond x (cond y (Ok size) (Err Short)) (Err Invalid)) ≡ cond (eqb (cond x (cond y 0 22) 11) 0) size 0
      lengths true true = refl
      lengths true false = refl
      lengths false y = refl

  pub writes-invalid : accepted m ≡ false → Writes m b (Err Invalid) b
  writes-invalid e =
      let t = told (Err Invalid) false (leb size (length b)) e refl refl in
      record { answer = t.0; number = t.1; length-is = t.2; bytes = refl; restored = λ z. absurd (omega arith) }

  pub writes_short : accepted m ≡ true → length b < size → Writes m b (Err Short) b
  writes_short e h =
      let t = told (Err Short) true false e (lt-leb size (length b) h) refl in
      record { answer = t.0; number = t.1; length-is = t.2; bytes = refl; restored = λ z. absurd (omega arith) }

  pub writes-all : {c : List ℕ} {r : ℕ} → Stored m → accepted m ≡ true → size ≤ length b → Put size 0 (file_of m) b c r → Writes m b (Ok r) c
  writes-all {c} {r} st e h p =
      let end : r ≡ size = omega (arith, p.end) in
      let behind : 0 + size ≡ size = omega arith in
      let bytes : c ≡ file_of m ++ drop size b = p.text ∙ ap (λ (k : ℕ). file_of m ++ drop k b) behind in
      let t = told (Ok r) true true e (le-leb size (length b) h) (ap Ok end) in
      record {
        answer = t.0;
        number = t.1;
        length-is = t.2;
        bytes = bytes;
        restored = λ z. ap read_model (ap (take r) bytes ∙ take_at (file_of m) (drop size b) r (sym end)) ∙ read_model-file_of m st e;
      }

-- ---- of a file

-- The answer to a file, from that to its model.
abbrev pub of_written : Result ℕ WriteRefusal → Result ℕ RewriteRefusal
of_written w = result_or w (Err R.Short)

module _ (file b : List ℕ) where
  pub rewrites-refused : {e : Refused} → read_model file ≡ Err e → Rewrites file b (Err (R.File e)) b
  rewrites-refused {e} is =
      let least = (read_model-told file e is).least in
      record {
        answer = sym (ap (λ (r : Result Model Refused). rewritten_as r (length b)) is);
        bytes = sym (ap (λ (t : Bool). cond t (model_file (read_model file) ++ drop (length (model_file (read_model file))) b) b) (ne_eqb (file_number e.refusal) 0 (λ z. omega arith)));
        restored = λ z. absurd (omega arith);
      }

  pub rewrites-read : {m : Model} {w : Result ℕ WriteRefusal} {c : List ℕ} → read_model file ≡ Ok m → Writes m b w c → Rewrites file b (of_written w) c
  rewrites-read {m} {w} {c} is writes =
      record {
        answer = ap of_written (writes.answer ∙ ap (λ (t : Bool). cond t (cond (leb (length (file_of m)) (length b)) (Ok (length (file_of m))) (Err Short)) (Err Invalid)) (read_model-accepted file is)) ∙ either (leb (length (file_of m)) (length b)) ∙ sym (ap (λ (r : Result Model Refused). rewritten_as r (length b)) is);
        bytes = writes.bytes ∙ ap (λ (t : Bool). cond t (file_of m ++ drop (length (file_of m)) b) b) (alike w) ∙ sym (ap (λ (r : Result Model Refused). cond (eqb (rewritten_number (of_written w)) 0) (model_file r ++ drop (length (model_file r)) b) b) is);
        restored = restored w writes.restored;
      }
    where
      either : (t : Bool) → of_written (cond t (Ok (length (file_of m))) (Err Short)) ≡ cond t (Ok (length (file_of m))) (Err R.Short)
      either true = refl
      either false = refl

      alike : (a : Result ℕ WriteRefusal) → eqb (written_number a) 0 ≡ eqb (rewritten_number (of_written a)) 0
      alike (Ok k) = refl
      alike (Err Invalid) = refl
      alike (Err Short) = refl

      restored : (a : Result ℕ WriteRefusal) → (written_number a ≡ 0 → read_model (take (written_length a) c) ≡ read_as m) → rewritten_number (of_written a) ≡ 0 → read_model (take (rewritten_figure (of_written a)) c) ≡ read_model file
      restored (Ok k) h z = h refl ∙ sym is
      restored (Err e) h z = absurd (omega arith)

-- What was written lies in the slice.
pub rewritten-inside : (file b : List ℕ) {k : ℕ} (a : Result ℕ RewriteRefusal) {c : List ℕ} → Rewrites file b a c → a ≡ Ok k → k ≤ length c
rewritten-inside file b {k} a {c} r is =
    let all : c ≡ all_of = r.bytes ∙ ap (λ (x : Result ℕ RewriteRefusal). cond (eqb (rewritten_number x) 0) all_of b) is in
    omega (arith, by (read_model file) (sym is ∙ r.answer), ap length all, length-append (model_file (read_model file)) (drop (length (model_file (read_model file))) b))
  where
    all_of : List ℕ
    all_of = model_file (read_model file) ++ drop (length (model_file (read_model file))) b

    fits : (size : ℕ) (t : Bool) → Ok k ≡ cond t (Ok size) (Err R.Short) → k ≡ size
    fits size true f = ap rewritten_figure f
    fits size false f = absurd (omega (arith, ap rewritten_number f))

    by : (s : Result Model Refused) → Ok k ≡ rewritten_as s (length b) → k ≡ length (model_file s)
    by (Ok m) f = fits (length (file_of m)) (leb (length (file_of m)) (length b)) f
    by (Err e) f = let z : ◌≡◌ {A = ℕ} 0 1 = cc in absurd (omega arith)
