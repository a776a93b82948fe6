-- Listing 1 to 7 and Routines 15: the whole text that the program `envelope` writes for a file. Definitions only. Assumes nothing.
use Rattle.std.specs.Prelude.{cond, List, [], ◌++◌, ◌≡◌, ℕ, suc, leb, ℤ, pos, length, drop, Ok, Err, Result}
use Rattle.reachability.specs.Recurrence.{bound, slack}
use Rattle.reachability.specs.Answers.{Swept, sweep_answer}
use Rattle.reachability.specs.declared.model.Model.{Model}
use Rattle.reachability.specs.declared.refusals.CallRefusal.TheVariants.{Invalid, Missing, WrongLength, Growth}
use Rattle.reachability.specs.declared.verdicts.Verdict.TheVariants.{Hit, Unknown, Clear}
use Rattle.judge.specs.Answers.{Judged, judge_answer}
use Rattle.reader.specs.Reading.{read_model}
use Rattle.reader.specs.FileNumbers.{file_number}
use Rattle.reader.specs.declared.refusals.Refused.{Refused}
use Rattle.text.specs.Text.{word, decimal, signed_decimal, line, each}

-- Listing 4: the line of a step.
abbrev pub row_text : ℕ → ℤ → ℤ → List ℕ
row_text k b s = decimal k ++ word " " ++ signed_decimal b ++ word " " ++ signed_decimal s ++ word "\n"

-- Listing 4, and Listing 5 for growth. A direction of an accepted model has no other refusal with lists of K + 1.
abbrev pub swept_text : Model → ℕ → Swept → List ℕ
swept_text m d (Ok h) = line (word "dir ") d (word " spare ") h ++ each (suc m.steps) (λ k. row_text k (bound m d k) (pos (slack m d k)))
swept_text m d (Err (Growth k)) = line (word "dir ") d (word " growth ") k
swept_text m d (Err Invalid) = []
swept_text m d (Err Missing) = []
swept_text m d (Err WrongLength) = []

-- The answer of a sweep into two lists of K + 1.
abbrev pub sweep_of : Model → ℕ → Swept
sweep_of m d = sweep_answer m d (suc m.steps) (suc m.steps)

unfoldable pub direction_text : Model → ℕ → List ℕ
direction_text m d = swept_text m d (sweep_of m d)

-- Listing 6, and Listing 5 for growth. A guard of an accepted model has no other refusal.
abbrev pub judged_text : ℕ → Judged → List ℕ
judged_text g (Ok (Hit k)) = line (word "guard ") g (word " HIT ") k
judged_text g (Ok (Unknown k)) = line (word "guard ") g (word " UNKNOWN ") k
judged_text g (Ok Clear) = word "guard " ++ decimal g ++ word " CLEAR\n"
judged_text g (Err (Growth k)) = line (word "guard ") g (word " GROWTH ") k
judged_text g (Err Invalid) = []
judged_text g (Err Missing) = []
judged_text g (Err WrongLength) = []

-- The answer of a judge with two lists of K + 1.
abbrev pub judge_of : Model → ℕ → Judged
judge_of m g = judge_answer m g (suc m.steps) (suc m.steps)

unfoldable pub guard_text : Model → ℕ → List ℕ
guard_text m g = judged_text g (judge_of m g)

-- Listing 3, then the directions (Listing 4), then the guards (Listing 6).
unfoldable pub listing_text : Model → List ℕ
listing_text m = line (word "model ") m.n (word " ") m.steps ++ each m.questions.directions (direction_text m) ++ each m.questions.guards (guard_text m)

-- Listing 7 for a refused file.
abbrev pub status_text : Result Model Refused → List ℕ
status_text (Ok m) = listing_text m
status_text (Err e) = line (word "refused ") (file_number e.refusal) (word " at ") e.offset

-- Listing 1: what the program writes for a file.
unfoldable pub reply_text : List ℕ → List ℕ
reply_text file = status_text (read_model file)

-- Routines 15: room for every reply.
abbrev pub reply_room : ℕ
reply_room = 270000

-- Routines 15: what `reply` leaves and answers, the text at the start of the buffer and its length, the rest as it was; 0 and the
-- whole buffer as it was where it has less than the room.
pub record ReplyLeaves (file out₀ out : List ℕ) (r : ℕ) : Type 0 where
  pub count : r ≡ cond (leb reply_room (length out₀)) (length (reply_text file)) 0
  pub text : out ≡ cond (leb reply_room (length out₀)) (reply_text file ++ drop (length (reply_text file)) out₀) out₀
