-- Rows as they are held, and as the specification has them: the same entries, and so the same number and state. Assumes nothing.
use mathlib.Core.Path.{◌≡◌, sym, ap, ◌∙◌}
use mathlib.Core.Bool.{Bool, cond}
use mathlib.Core.List.{List}
use Prim.Native.Nat.{ℕ, ◌+◌, ◌*◌, ◌<◌}
use Rattle.std.proofs.Common.{subst, Result, eqb}
use borrow.Author.Tests.{eq-eqb, ne_eqb}
use lib.IntN.{ℤ, pos}
use Rattle.integers.proofs.Machine.{get_or-tabulate, AllBytes}
use Rattle.coefficients.specs.declared.Coefficient.TheVariants.{Fitted}
use Rattle.coefficients.specs.Entries.{entry_of_bits, scaled_entry, entry_of}
use Rattle.arrays.specs.Tests.{first_of}
use Rattle.coefficients.specs.declared.rows.RefusedRow.{RefusedRow}
use Rattle.coefficients.specs.Rows.{entries_number, entries_of, row_refused, row_six, scaled_row, fitted_row}
use Rattle.coefficients.proofs.Fitting.{entry_of-bits}
use Rattle.coefficients.proofs.RowLaws.{entries_of-cong, each-of-six, entries_of-number, entries_of-six}
use Rattle.numbers.proofs.LittleEndian.{little_endian-lt}
use Rattle.records.specs.declared.kinds.Layout.{Layout}
use Rattle.columns.specs.Columns.{first_byte, entry_at, fitted_width, bits_at, six_at, fitted_at, held_row}
use Rattle.reader.specs.declared.state.State.{State}
use Rattle.reader.specs.declared.refusals.FileRefusal.{FileRefusal}
use Rattle.reader.specs.Models.{row_answer, row_stored, with_row}
use Rattle.reader.specs.Values.{unless, row_number}
use Rattle.reader.specs.Inner.{Takes}

module _ (n : ℕ) (l : Layout) (body : List ℕ) where
  -- with entries of 8 bytes
  fitted-answer : AllBytes body → l.width ≡ fitted_width → (i : ℕ) → entry_of (Fitted (fitted_at body l.first i)) ≡ row_answer l body i
  fitted-answer bytes e i =
      entry_of-bits (bits_at body l.first i) (little_endian-lt 8 body (l.first + 8 * i) bytes)
      ∙ sym (ap (λ (b : Bool). cond b (entry_of_bits (bits_at body l.first i)) (scaled_entry (entry_at body l.first i))) (eq-eqb l.width fitted_width e))

  pub fitted-taken : AllBytes body → l.width ≡ fitted_width → entries_of n (fitted_row (held_row body l.first).values) ≡ entries_of n (row_answer l body)
  fitted-taken bytes e =
      let at = fitted-answer bytes e in
      entries_of-cong n (each-of-six (λ i. fitted_row (held_row body l.first).values i ≡ row_answer l body i) (at 0) (at 1) (at 2) (at 3) (at 4) (at 5))

  -- with entries of 4
  scaled-answer : (l.width ≡ fitted_width → ⊥) → (i : ℕ) → i < 6 → scaled_row (six_at body l.first) i ≡ row_answer l body i
  unfolding six_at entry_of
  scaled-answer ne i k =
      ap scaled_entry (get_or-tabulate 6 (entry_at body l.first) i (pos 0) k)
      ∙ sym (ap (λ (b : Bool). cond b (entry_of_bits (bits_at body l.first i)) (scaled_entry (entry_at body l.first i))) (ne_eqb l.width fitted_width ne))

  pub scaled-taken : (l.width ≡ fitted_width → ⊥) → entries_of n (scaled_row (six_at body l.first)) ≡ entries_of n (row_answer l body)
  scaled-taken ne = entries_of-cong n (scaled-answer ne)

-- the number and the state
pub row-taken : (s : State) (l : Layout) (body : List ℕ) {row : ℕ} {entries : Result (List ℤ) RefusedRow} (r : Result (Unit {0}) FileRefusal) (t : State) → row ≡ first_byte body → entries ≡ entries_of s.model.n (row_answer l body)
    → Takes (first_of (unless (eqb row s.rows) 5) (row_refused entries)) (row_stored s l (row_six entries)) r t → Takes (row_number s l body) (with_row s l body) r t
unfolding row_number with_row
row-taken s l body {row} {entries} r t e f h =
    subst (λ (x : List ℤ). Takes (first_of (unless (eqb (first_byte body) s.rows) 5) (entries_number s.model.n (row_answer l body))) (row_stored s l x) r t) (ap row_six f ∙ entries_of-six s.model.n (row_answer l body))
    (subst (λ (k : ℕ). Takes (first_of (unless (eqb (first_byte body) s.rows) 5) k) (row_stored s l (row_six entries)) r t) (ap row_refused f ∙ entries_of-number s.model.n (row_answer l body))
    (subst (λ (k : ℕ). Takes (first_of (unless (eqb k s.rows) 5) (row_refused entries)) (row_stored s l (row_six entries)) r t) e h))
