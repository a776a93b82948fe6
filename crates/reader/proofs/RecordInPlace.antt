-- A record that stands anywhere in a file is read there, and reading goes on after it; an end record ends the reading. What a
-- writer of files rests on. Assumes nothing.
use mathlib.Core.Path.{◌≡◌, refl, sym, ap₂, ◌∙◌}
use mathlib.Core.Bool.{false}
use mathlib.Core.List.{List, ◌∷◌, ◌++◌, append_assoc, []}
use Prim.Native.Nat.{ℕ, ◌+◌}
use native.Mathlib.Omega.{arith}
use lib.ListN.{length, length-append}
use Rattle.records.specs.Kinds.{body_bytes, body_length, layout_of, part_of}
use Rattle.records.proofs.RecordAt.{record_at-stands}
use Rattle.reader.specs.declared.state.State.{State}
use Rattle.columns.proofs.ColumnLaws.{unused_zero-none}
use Rattle.reader.specs.Values.{body_number}
use Rattle.reader.specs.Refusals.{kind_number, stored}
use Rattle.reader.specs.Reading.{is_end, read_as, read_from}
use Rattle.reader.proofs.BodyNumbers.{body_number-value}
use Rattle.reader.proofs.ReadingOn.{refusal-whole, read_from-next, read_from-end}

-- A record with anything before it and anything behind it.
pub read_from-stands : (prefix : List ℕ) (kind : ℕ) (body rest : List ℕ) (s : State) → body_length kind ≡ body_bytes (length body) → kind_number s kind ≡ 0 → body_number s kind body ≡ 0 → is_end (part_of kind) ≡ false → read_from (prefix ++ kind ∷ (body ++ rest)) (length prefix) s ≡ read_from (prefix ++ kind ∷ (body ++ rest)) (length prefix + 1 + length body) (stored s kind body)
read_from-stands prefix kind body rest s known fits z ne =
    read_from-next (prefix ++ kind ∷ (body ++ rest)) (length prefix) s (record { stands = record_at-stands prefix kind body rest known; allowed = fits; passes = z; other = ne })

-- The end record at the end of a file.
pub read_from-stands-end : (prefix : List ℕ) (s : State) → kind_number s 0xFF ≡ 0 → read_from (prefix ++ 0xFF ∷ []) (length prefix) s ≡ read_as s.model
unfolding body_length layout_of
read_from-stands-end prefix s fits =
    read_from-end (prefix ++ 0xFF ∷ []) (length prefix) s (record_at-stands prefix 0xFF [] [] refl) (refusal-whole s 0xFF [] fits ∙ body_number-value s 0xFF [] (unused_zero-none s.model.n (layout_of 0xFF) [] refl)) refl (simp length-append (omega arith))

-- The same, so that the next record can stand behind it: what was read joins what stands before.
pub read_from-behind : (prefix : List ℕ) (kind : ℕ) (body rest : List ℕ) (s : State) → body_length kind ≡ body_bytes (length body) → kind_number s kind ≡ 0 → body_number s kind body ≡ 0 → is_end (part_of kind) ≡ false → read_from (prefix ++ ((kind ∷ body) ++ rest)) (length prefix) s ≡ read_from ((prefix ++ (kind ∷ body)) ++ rest) (length (prefix ++ (kind ∷ body))) (stored s kind body)
read_from-behind prefix kind body rest s known fits z ne =
    read_from-stands prefix kind body rest s known fits z ne
    ∙ ap₂ (λ (f : List ℕ) (a : ℕ). read_from f a (stored s kind body)) (sym (append_assoc prefix (kind ∷ body) rest)) size
  where
    size : length prefix + 1 + length body ≡ length (prefix ++ (kind ∷ body))
    size = simp length-append (omega arith)
