-- Limits 9, Refusals 5 and 15: what the six entries of a row come to. A row is told as the answers to its entries. Definitions only.
-- Assumes nothing.
use Rattle.std.specs.Prelude.{ℕ, zero, suc, cond, List, ℤ, pos, nat_lt, slice_index_or, Float, Option, Some, None, Result, Ok, Err}
use Rattle.std.specs.Option.{option_or}
use Rattle.std.specs.Result.{result_err}
use Rattle.std.specs.Float.{nan}
use Rattle.integers.specs.Sums.{vector, tabulate}
use Rattle.arrays.specs.Tests.{first_of}
use Rattle.coefficients.specs.declared.Coefficient.{Coefficient}
use Rattle.coefficients.specs.declared.Coefficient.TheVariants.{Scaled, Fitted}
use Rattle.coefficients.specs.declared.EntryRefusal.{EntryRefusal}
use Rattle.coefficients.specs.declared.rows.RefusedRow.{RefusedRow}
use Rattle.coefficients.specs.Entries.{entry_refusal_number, entry_number, entry_value, entry_of}

-- The number of the first of so many entries that is refused, 0 where none is.
unfoldable pub first_number : ℕ → (ℕ → Result ℤ EntryRefusal) → ℕ
first_number zero row = 0
first_number (suc k) row = first_of (first_number k row) (entry_number (row k))

-- Limits 9: an entry beyond n is not looked at here, and zero is stored for it. In a row that is read it is zero (Refusals 16,
-- `columns`).
abbrev pub answer_at : ℕ → (ℕ → Result ℤ EntryRefusal) → ℕ → Result ℤ EntryRefusal
answer_at n row i = cond (nat_lt i n) (row i) (Ok (pos 0))

-- Refusals 5 and 15 of the first n entries.
abbrev pub entries_number : ℕ → (ℕ → Result ℤ EntryRefusal) → ℕ
entries_number n row = first_number 6 (answer_at n row)

-- Limits 9, File 12: the stored row.
abbrev pub stored_six : ℕ → (ℕ → Result ℤ EntryRefusal) → List ℤ
stored_six n row = tabulate 6 (λ i. entry_value (answer_at n row i))

-- Refusals 5 and 15: the first of so many entries that is refused.
unfoldable pub first_refused : ℕ → (ℕ → Result ℤ EntryRefusal) → Option EntryRefusal
first_refused zero row = None
first_refused (suc k) row = option_or (first_refused k row) (result_err (row k))

-- A stored row; where an entry is refused, with the refusal beside it.
abbrev pub unless_refused : Option EntryRefusal → List ℤ → Result (List ℤ) RefusedRow
unless_refused None six = Ok six
unless_refused (Some first) stored = Err (record { refusal = first; six = stored })

-- Routines 18: the stored row; where some of the first n entries are refused, with why the first of these is.
unfoldable pub entries_of : ℕ → (ℕ → Result ℤ EntryRefusal) → Result (List ℤ) RefusedRow
entries_of n row = unless_refused (first_refused 6 (answer_at n row)) (stored_six n row)

-- Forms 7: the number of an answer, 0 where the row is stored, and its six stored entries.
abbrev pub row_refused : Result (List ℤ) RefusedRow → ℕ
row_refused (Ok six) = 0
row_refused (Err row) = entry_refusal_number row.refusal

abbrev pub row_six : Result (List ℤ) RefusedRow → List ℤ
row_six (Ok six) = six
row_six (Err row) = row.six

-- The answers to six entries of either kind, to six scaled ones, and to six fitted ones.
abbrev pub mixed_row : List Coefficient → ℕ → Result ℤ EntryRefusal
mixed_row coefficients i = entry_of (slice_index_or coefficients i (Scaled (pos 0)))

abbrev pub scaled_row : List ℤ → ℕ → Result ℤ EntryRefusal
scaled_row six i = entry_of (Scaled (vector six i))

abbrev pub fitted_row : List Float → ℕ → Result ℤ EntryRefusal
fitted_row values i = entry_of (Fitted (slice_index_or values i nan))
