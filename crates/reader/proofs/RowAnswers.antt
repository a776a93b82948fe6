-- What holds of each answer to a scaled entry and of each to a fitted one holds of every answer of a row. Assumes nothing.
use mathlib.Core.Bool.{Bool, true, false, cond}
use mathlib.Core.List.{List}
use Prim.Native.Nat.{ℕ}
use lib.Dec.{eqb}
use lib.IntN.{ℤ}
use Rattle.std.specs.Prelude.{Result}
use Rattle.coefficients.specs.declared.EntryRefusal.{EntryRefusal}
use Rattle.coefficients.specs.Entries.{entry_of_bits, scaled_entry}
use Rattle.records.specs.declared.kinds.Layout.{Layout}
use Rattle.columns.specs.Columns.{entry_at, fitted_width, bits_at}
use Rattle.reader.specs.Models.{row_answer}

pub row_answer-ind : (P : Result ℤ EntryRefusal → Type 0) → ((bits : ℕ) → P (entry_of_bits bits)) → ((entry : ℤ) → P (scaled_entry entry)) → (l : Layout) (body : List ℕ) (i : ℕ) → P (row_answer l body i)
row_answer-ind P fitted scaled l body i = split (eqb l.width fitted_width)
  where
    split : (b : Bool) → P (cond b (entry_of_bits (bits_at body l.first i)) (scaled_entry (entry_at body l.first i)))
    split true = fitted (bits_at body l.first i)
    split false = scaled (entry_at body l.first i)
