-- The text of a file's reading at the start of the buffer is what `reply` should leave; a head that says 0 and one that says
-- the default get the same reply, and so do a file without an input set and one with zero corners, and a file without a drift and
-- one with a drift of zeros. Assumes nothing.
use mathlib.Core.Path.{◌≡◌, sym, ap, ◌∙◌}
use mathlib.Core.Bool.{Bool, true, false, cond}
use mathlib.Core.List.{List, ◌∷◌, ◌++◌}
use Prim.Native.Nat.{ℕ, ◌≤◌}
use native.Mathlib.Nat.{zero-add}
use native.Mathlib.Omega.{arith}
use borrow.Author.Tests.{le-leb}
use lib.Dec.{leb}
use lib.ListN.{length, drop, length-append}
use Rattle.std.specs.Prelude.{Result}
use Rattle.reachability.specs.declared.model.Model.{Model}
use Rattle.reader.specs.Models.{usual_steps, start}
use Rattle.records.specs.Records.{record_at}
use Rattle.records.proofs.RecordAt.{Reaches}
use Rattle.reader.specs.Refusals.{refusal}
use Rattle.reader.specs.Reading.{stop_for, read_model}
use Rattle.reader.specs.LeftOut.{put_in, moved}
use Rattle.reader.specs.NoInput.{NoInputAt, zero_corners}
use Rattle.reader.specs.NoDrift.{NoDriftAt, zero_drift}
use Rattle.reader.specs.declared.refusals.Refused.{Refused}
use Rattle.reader.proofs.DefaultSteps.{read_model-default}
use Rattle.reader.proofs.NoInput.{read_model-no-input, read_model-refused-before}
use Rattle.reader.proofs.NoDrift.{read_model-no-drift}
use Rattle.text.specs.Put.{Put}
use Rattle.listing.specs.Listing.{status_text, reply_text, reply_room, ReplyLeaves}

module _ (file out₀ : List ℕ) where
  -- from the text of what was read
  pub reply-told : reply_room ≤ length out₀ → (reading : Result Model Refused) → reading ≡ read_model file → (most r : ℕ) (out : List ℕ) → Put most 0 (status_text reading) out₀ out r → ReplyLeaves file out₀ out r
  unfolding reply_text
  reply-told room reading is most r out p =
      record {
        count = p.end ∙ zero-add (length t) ∙ ap length text-is ∙ sym (ap (λ (b : Bool). cond b (length (reply_text file)) 0) large);
        text = p.text ∙ ap (λ (k : ℕ). t ++ drop k out₀) (zero-add (length t)) ∙ ap (λ (x : List ℕ). x ++ drop (length x) out₀) text-is ∙ sym (ap (λ (b : Bool). cond b (reply_text file ++ drop (length (reply_text file)) out₀) out₀) large);
      }
    where
      t : List ℕ
      t = status_text reading

      text-is : t ≡ reply_text file
      text-is = ap status_text is

      large : leb reply_room (length out₀) ≡ true
      large = le-leb reply_room (length out₀) room

-- what was written lies in the buffer
pub reply-inside : (file out₀ out : List ℕ) (r : ℕ) → ReplyLeaves file out₀ out r → r ≤ length out
reply-inside file out₀ out r p = cases (leb reply_room (length out₀)) p.count p.text
  where
    t : List ℕ
    t = reply_text file

    cases : (b : Bool) → r ≡ cond b (length t) 0 → out ≡ cond b (t ++ drop (length t) out₀) out₀ → r ≤ length out
    cases true e f = omega (arith, e, ap length f, length-append t (drop (length t) out₀))
    cases false e f = omega (arith, e)

-- File 4: a file whose head says 0 gets the reply that it gets with the default there.
pub reply_text-default : (n : ℕ) (rest : List ℕ) → reply_text (0x01 ∷ n ∷ 0 ∷ 0 ∷ rest) ≡ reply_text (0x01 ∷ n ∷ usual_steps ∷ 0 ∷ rest)
unfolding reply_text
reply_text-default n rest = ap status_text (read_model-default n rest)

-- File 10: a file in which a direction stands straight after a complete initial set gets, with two records of zero corners before that
-- direction, the same listing, or the same number with the offset 50 higher.
pub reply_text-no-input : (file : List ℕ) (turns : ℕ) → NoInputAt file (stop_for turns file 0 start) → reply_text (put_in zero_corners (stop_for turns file 0 start).at file) ≡ status_text (moved 50 (read_model file))
unfolding reply_text
reply_text-no-input file turns place = ap status_text (read_model-no-input file turns place)

-- File 15: a file whose last row no drift follows gets, with a drift of zeros put in there, the same listing, or the same number with
-- the offset 25 higher.
pub reply_text-no-drift : (file : List ℕ) (turns : ℕ) → NoDriftAt file (stop_for turns file 0 start) → reply_text (put_in zero_drift (stop_for turns file 0 start).at file) ≡ status_text (moved 25 (read_model file))
unfolding reply_text
reply_text-no-drift file turns place = ap status_text (read_model-no-drift file turns place)

-- File 10, File 15: refused before, a file gets the same reply with any bytes put in behind.
pub reply_text-refused-before : (file more : List ℕ) (turns m : ℕ) → m ≤ length file → Reaches m file (stop_for turns file 0 start).at → (refusal (stop_for turns file 0 start).state (record_at file (stop_for turns file 0 start).at) ≡ 0 → ⊥) → reply_text (put_in more m file) ≡ reply_text file
unfolding reply_text
reply_text-refused-before file more turns m inside reach ne = ap status_text (read_model-refused-before file more turns m inside reach ne)
