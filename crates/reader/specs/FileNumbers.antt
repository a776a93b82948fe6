-- Forms 7: the number of each refusal of a file, and the refusal of each number; Listing 7: the line of a refusal. Definitions only.
-- Assumes nothing.
use Rattle.std.specs.Prelude.{ℕ, cond, eqb, List, codes, ◌++◌}
use Rattle.std.specs.Fmt.{decimal}
use Rattle.coefficients.specs.declared.EntryRefusal.{EntryRefusal}
use Rattle.reader.specs.declared.refusals.FileRefusal.{FileRefusal}
use Rattle.reader.specs.declared.refusals.Refused.{Refused}
use Rattle.reader.specs.declared.refusals.FileRefusal.TheVariants.{Ends, UnknownKind, WrongPlace, Head, Row, Point, Direction, Guard, OneTooMany, BehindEnd, FittedRow, BeyondN, Drift}

abbrev pub file_number : FileRefusal → ℕ
file_number Ends = 1
file_number UnknownKind = 2
file_number WrongPlace = 3
file_number Head = 4
file_number Row = 5
file_number Point = 6
file_number Direction = 7
file_number Guard = 8
file_number OneTooMany = 9
file_number BehindEnd = 10
file_number FittedRow = 15
file_number BeyondN = 16
file_number Drift = 17

-- Back. No file has any other number, and what stands for one says nothing.
unfoldable pub refusal_of : ℕ → FileRefusal
refusal_of number =
    cond (eqb number 1) Ends
    (cond (eqb number 2) UnknownKind
    (cond (eqb number 3) WrongPlace
    (cond (eqb number 4) Head
    (cond (eqb number 5) Row
    (cond (eqb number 6) Point
    (cond (eqb number 7) Direction
    (cond (eqb number 8) Guard
    (cond (eqb number 9) OneTooMany
    (cond (eqb number 10) BehindEnd
    (cond (eqb number 15) FittedRow
    (cond (eqb number 16) BeyondN Drift)))))))))))

-- Refusals 5 and 15, of an entry of a row.
abbrev pub of_entry : EntryRefusal → FileRefusal
of_entry EntryRefusal.Scaled = Row
of_entry EntryRefusal.Fitted = FittedRow

-- Listing 7: the line of a refusal, without its line feed.
abbrev pub refused_text : Refused → List ℕ
refused_text refused = codes "refused " ++ decimal (file_number refused.refusal) ++ codes " at " ++ decimal refused.offset
