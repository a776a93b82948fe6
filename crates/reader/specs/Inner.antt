-- What the inner functions promise to each other. Definitions only; no public contract cites them. Assumes nothing.
use Rattle.std.specs.Prelude.{◌≡◌, true, false, List, ℕ, Option, Result, MatchOption, MatchResult}
use Rattle.arrays.specs.Tests.{first_of}
use Rattle.records.specs.declared.kinds.Layout.{Layout}
use Rattle.records.specs.Kinds.{layout_of, part_of}
use Rattle.records.specs.Records.{Record, record_at, record_kind}
use Rattle.columns.specs.Columns.{unused_zero}
use Rattle.reader.specs.declared.refusals.FileRefusal.{FileRefusal}
use Rattle.reader.specs.declared.state.State.{State}
use Rattle.reader.specs.FileNumbers.{file_number}
use Rattle.reader.specs.Values.{unless, value_number}
use Rattle.reader.specs.Refusals.{kind_number, refusal}
use Rattle.reader.specs.Reading.{is_end, behind, stored_record}

-- What a test with this number gives: it passes where the number is 0, and else refuses by it.
abbrev pub Tested : ℕ → Result (Unit {0}) FileRefusal → Type 0
Tested number r = MatchResult r (λ _. number ≡ 0) (λ e. number ≡ file_number e)

-- What admitting a kind gives: its layout, or the kind's number.
abbrev pub Admits : State → ℕ → Result Layout FileRefusal → Type 0
Admits s kind r = MatchResult r (λ l. (kind_number s kind ≡ 0) × (l ≡ layout_of kind)) (λ e. kind_number s kind ≡ file_number e)

-- The number of a body by its layout: `body_number` of a kind is that of its own.
abbrev pub layout_number : State → Layout → List ℕ → ℕ
layout_number s l body = first_of (unless (unused_zero s.model.n l body) 16) (value_number l.part s l body)

-- What taking a record gives: its number and, where that is 0, the state behind it.
abbrev pub Takes : ℕ → State → Result (Unit {0}) FileRefusal → State → Type 0
Takes number next r t = MatchResult r (λ _. (number ≡ 0) × (t ≡ next)) (λ e. number ≡ file_number e)

-- What advancing over a record at an offset gives: its number; where that is 0, the state behind it, and the offset there, none behind
-- the end.
abbrev pub AdvancesOver : Record → ℕ → State → Result (Option ℕ) FileRefusal → State → Type 0
AdvancesOver r at s answer t =
    MatchResult answer
    (λ o. (refusal s r ≡ 0) × (t ≡ stored_record s r) × MatchOption o (is_end (part_of (record_kind r)) ≡ true) (λ next. (is_end (part_of (record_kind r)) ≡ false) × (next ≡ behind at r)))
    (λ e. refusal s r ≡ file_number e)

abbrev pub Advances : List ℕ → ℕ → State → Result (Option ℕ) FileRefusal → State → Type 0
Advances file at s answer t = AdvancesOver (record_at file at) at s answer t
