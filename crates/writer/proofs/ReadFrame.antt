-- The head, the rows and the drift that were written, read again. In order: the head; a row, and all of them; the drift, or none.
-- Assumes nothing.
use mathlib.Core.Path.{◌≡◌, refl, sym, ap, ap₂, subst, ◌∙◌}
use mathlib.Core.Bool.{Bool, true, false, cond, ◌&&◌}
use mathlib.Core.List.{List, [], ◌∷◌, append-nil}
use Prim.Native.Nat.{ℕ, suc, ◌+◌, ◌*◌, ◌≤◌, ◌<◌}
use native.Mathlib.Decide.{dec_lt}
use native.Mathlib.Numerals.{add-one}
use native.Mathlib.Omega.{arith}
use borrow.Author.Tests.{lt-ltb, le-ltb, le-leb, ne_eqb, eq-eqb, eqb-true}
use lib.Dec.{leb, ltb, eqb}
use lib.IntN.{ℤ, pos, nat_abs}
use lib.ListN.{length, replicate, get_or-eq_default}
use lib.Seq.{ext_get_or}
use Rattle.integers.specs.Sums.{vector, matrix, tabulate}
use Rattle.integers.proofs.Machine.{get_or-tabulate, length-tabulate, zero-of-nat_abs}
use Rattle.integers.proofs.Sums.{all_below-at}
use Rattle.arrays.specs.Tests.{first_of}
use Rattle.arrays.proofs.Tests.{Small, all_between-of}
use Rattle.stepping.specs.Limits.{entry_limit}
use Rattle.stepping.specs.Refusals.{dimension_ok}
use Rattle.limits.specs.Limits.{all_zero}
use Rattle.reachability.specs.declared.model.Model.{Model}
use Rattle.reachability.specs.Sets.{reach_limit}
use Rattle.std.specs.Prelude.{Result, Ok}
use Rattle.coefficients.specs.declared.EntryRefusal.{EntryRefusal}
use Rattle.coefficients.specs.Entries.{entry_value, scaled_entry}
use Rattle.coefficients.specs.Rows.{answer_at, entries_number, stored_six}
use Rattle.coefficients.proofs.RowLaws.{entries_number-cong, entries_number-ind, stored_six-cong}
use Rattle.numbers.specs.Numbers.{little_endian, bytes_of}
use Rattle.numbers.proofs.Written.{little_endian-bytes_of}
use Rattle.records.specs.Kinds.{body_bytes, body_length, layout_of}
use Rattle.records.specs.Places.{rows_place, matrix_place, drift_place}
use Rattle.records.specs.Order.{may_follow}
use Rattle.text.specs.Text.{each}
use Rattle.columns.specs.Columns.{six_at}
use Rattle.columns.proofs.ColumnLaws.{unused_zero-none}
use Rattle.filling.specs.Models.{zeros, blank_model}
use Rattle.filling.proofs.FromTheFront.{kept-none, kept-all, kept_rows, put_row-kept}
use Rattle.reader.specs.declared.state.State.{State}
use Rattle.reader.specs.Models.{start, default_steps, set_head, set_matrix, set_drift, state_of, row_answer, row_place, with_head, with_row, with_drift}
use Rattle.reader.specs.Values.{within as all_within, unless, row_number, drift_ok}
use Rattle.reader.specs.Refusals.{kind_number, stored}
use Rattle.writer.specs.Writing.{six_bytes, row_records, drift_records}
use Rattle.writer.proofs.Bits.{length-six_bytes}
use Rattle.writer.proofs.Leading.{Leads, leads-none, leads-record, leads-each, leads-from, leads-to, Taken}
use Rattle.writer.proofs.Bodies.{Fits32, entry-written, six-written, unused-written}

-- ---- the head

module _ (n steps : ℕ) (dimension : dimension_ok n ≡ true) (least : 1 ≤ steps) (most : steps ≤ 256) where
  abbrev body : List ℕ
  body = n ∷ bytes_of 2 steps

  steps-read : little_endian 2 body 1 ≡ steps
  steps-read =
      ap (λ (l : List ℕ). little_endian 2 (n ∷ l) 1) (sym (append-nil (bytes_of 2 steps))) ∙ little_endian-bytes_of 2 steps (n ∷ []) [] (omega (arith, most))

  named : default_steps (little_endian 2 body 1) ≡ steps
  named = ap default_steps steps-read ∙ ap (λ (b : Bool). cond b 120 steps) (ne_eqb steps 0 (λ e. omega arith))

  head-taken : Taken start 0x01 body (state_of rows_place 0 (set_head blank_model n steps))
  unfolding body_length layout_of may_follow kind_number start stored with_head bytes_of
  head-taken =
      record {
        known = refl;
        allowed = refl;
        unused = unused_zero-none start.model.n (layout_of 0x01) body refl;
        passes = ap (λ (b : Bool). unless b 4) (ap₂ ◌&&◌ dimension (ap (λ (k : ℕ). leb k 256) steps-read ∙ le-leb steps 256 most));
        other = refl;
        then = ap (λ (k : ℕ). state_of rows_place 0 (set_head blank_model n k)) named;
      }

  pub head-leads : Leads (0x01 ∷ body) start (state_of rows_place 0 (set_head blank_model n steps))
  head-leads = leads-record 0x01 body head-taken

-- ---- the rows

entry-of : (z : ℤ) → nat_abs z ≤ entry_limit → scaled_entry z ≡ Ok z
unfolding scaled_entry
entry-of z h = simp (le-leb (nat_abs z) entry_limit h)

module _ (m : Model) (rows : List ℤ) (fits : Fits32 rows) (small : (p i : ℕ) → i < 6 → nat_abs (matrix rows p i) ≤ entry_limit) (beyond : (p i : ℕ) → i < 6 → m.n ≤ i → matrix rows p i ≡ pos 0) where
  -- with the first p rows in
  abbrev at : ℕ → ℕ → State
  at place p = state_of place p (set_matrix m (kept_rows p rows))

  abbrev place_at : ℕ → ℕ
  place_at p = cond (ltb p m.n) rows_place matrix_place

  module _ (p : ℕ) where
    abbrev row : List ℕ
    row = p ∷ six_bytes rows p

    abbrev entries : ℕ → Result ℤ EntryRefusal
    entries i = Ok (matrix rows p i)

    answers : (i : ℕ) → i < 6 → row_answer (layout_of 0x02) row i ≡ entries i
    unfolding layout_of
    answers i h = ap scaled_entry (entry-written rows fits p (p ∷ []) i h) ∙ entry-of (matrix rows p i) (small p i h)

    none-refused : entries_number m.n (row_answer (layout_of 0x02) row) ≡ 0
    none-refused =
        entries_number-cong m.n {f = row_answer (layout_of 0x02) row} {g = entries} answers
        ∙ entries_number-ind (λ k. k ≡ 0) m.n entries refl (λ i. refl)

    six-is : (i : ℕ) → i < 6 → vector (stored_six m.n (row_answer (layout_of 0x02) row)) i ≡ matrix rows p i
    six-is i h =
        ap (λ (six : List ℤ). vector six i) (stored_six-cong m.n {f = row_answer (layout_of 0x02) row} {g = entries} answers)
        ∙ get_or-tabulate 6 (λ j. entry_value (answer_at m.n entries j)) i (pos 0) h
        ∙ elim (dec_lt i m.n) [ yes l ↦ ap (λ (b : Bool). entry_value (cond b (entries i) (Ok (pos 0)))) (lt-ltb i m.n l) | no g ↦ ap (λ (b : Bool). entry_value (cond b (entries i) (Ok (pos 0)))) (le-ltb i m.n (omega (arith, g))) ∙ sym (beyond p i h (omega (arith, g))) ]

    row-taken : Taken (at rows_place p) 0x02 row (at (place_at (suc p)) (suc p))
    unfolding body_length layout_of may_follow kind_number stored with_row row_number
    row-taken =
        record {
          known = ap (λ (k : ℕ). body_bytes (suc k)) (sym (length-six_bytes rows p));
          allowed = refl;
          unused = unused-written rows fits p (p ∷ []) m.n (layout_of 0x02) refl refl (λ i h l. beyond p i l h);
          passes = ap₂ first_of (ap (λ (b : Bool). unless b 5) (eq-eqb p p refl)) none-refused;
          other = refl;
          then =
              ap (λ (xs : List ℤ). state_of (row_place (layout_of 0x02) (p + 1) m.n) (p + 1) (set_matrix m xs)) (put_row-kept p rows (stored_six m.n (row_answer (layout_of 0x02) row)) six-is)
              ∙ ap (λ (k : ℕ). state_of (place_at k) k (set_matrix m (kept_rows (suc p) rows))) (add-one p);
        }

  pub rows-lead : 1 ≤ m.n → length rows ≡ 36 → kept_rows m.n rows ≡ rows → Leads (row_records m.n rows) (state_of rows_place 0 (set_matrix m (zeros 36))) (state_of matrix_place m.n (set_matrix m rows))
  unfolding zeros
  rows-lead some long all =
      leads-from
      (ap₂ (λ (b : Bool) (xs : List ℤ). state_of (cond b rows_place matrix_place) 0 (set_matrix m xs)) (sym (lt-ltb 0 m.n some)) (sym (kept-none (pos 0) rows ∙ ap (λ (k : ℕ). replicate k (pos 0)) long)))
      (leads-to
      (leads-each m.n (λ p. 0x02 ∷ p ∷ six_bytes rows p) (λ p. at (place_at p) p) (λ p h. leads-from (ap (λ (b : Bool). at (cond b rows_place matrix_place) p) (lt-ltb p m.n h)) (leads-record 0x02 (row p) (row-taken p))))
      (ap₂ (λ (b : Bool) (xs : List ℤ). state_of (cond b rows_place matrix_place) m.n (set_matrix m xs)) (le-ltb m.n m.n (omega arith)) all))

-- ---- the drift

-- six numbers are their first row
pub row-of-six : (xs : List ℤ) → length xs ≡ 6 → tabulate 6 (matrix xs 0) ≡ xs
row-of-six xs e =
    ext_get_or (pos 0) (tabulate 6 (matrix xs 0)) xs (length-tabulate 6 (matrix xs 0) ∙ sym e)
    (λ i h. get_or-tabulate 6 (matrix xs 0) i (pos 0) (omega (arith, h, length-tabulate 6 (matrix xs 0))) ∙ ap (vector xs) (first i))
  where
    first : (i : ℕ) → 6 * 0 + i ≡ i
    first i = omega arith

zero-drift : (drift : List ℤ) → length drift ≡ 6 → all_zero drift 0 ≡ true → zeros 6 ≡ drift
unfolding zeros
zero-drift drift e z =
    sym (kept-none (pos 0) drift ∙ ap (λ (k : ℕ). replicate k (pos 0)) e) ∙ kept-all (pos 0) 0 drift (λ j h. elim (dec_lt j 6) [ yes l ↦ at j l | no g ↦ get_or-eq_default drift (pos 0) {n = j} (omega (arith, g)) ])
  where
    first : (i : ℕ) → i ≡ 6 * 0 + i
    first i = omega arith

    at : (j : ℕ) → j < 6 → vector drift j ≡ pos 0
    at j l =
        ap (vector drift) (first j)
        ∙ zero-of-nat_abs (matrix drift 0 j) (eqb-true (nat_abs (matrix drift 0 j)) 0 (all_below-at 6 (λ i. eqb (nat_abs (matrix drift 0 i)) 0) z j l))

module _ (m : Model) (rows : ℕ) (drift : List ℤ) (fits : Fits32 drift) (long : length drift ≡ 6) (small : (i : ℕ) → i < 6 → nat_abs (matrix drift 0 i) ≤ reach_limit) (beyond : (i : ℕ) → i < 6 → m.n ≤ i → matrix drift 0 i ≡ pos 0) where
  drift-read : six_at (six_bytes drift 0) 0 ≡ drift
  drift-read = six-written drift fits 0 [] ∙ row-of-six drift long

  within : Small reach_limit drift
  within = record { at = λ p i h. elim (dec_lt p 1) [ yes l ↦ first p i h (omega (arith, l)) | no g ↦ subst (λ (z : ℤ). nat_abs z ≤ reach_limit) (sym (get_or-eq_default drift (pos 0) {n = 6 * p + i} (omega (arith, g, long)))) (omega arith) ] }
    where
      first : (p i : ℕ) → i < 6 → 0 ≡ p → nat_abs (matrix drift p i) ≤ reach_limit
      first p i h e = subst (λ (q : ℕ). nat_abs (matrix drift q i) ≤ reach_limit) e (small i h)

  drift-taken : Taken (state_of matrix_place rows m) 0x05 (six_bytes drift 0) (state_of drift_place rows (set_drift m drift))
  unfolding body_length layout_of may_follow kind_number stored with_drift drift_ok
  drift-taken =
      record {
        known = ap body_bytes (sym (length-six_bytes drift 0));
        allowed = refl;
        unused = unused-written drift fits 0 [] m.n (layout_of 0x05) refl refl (λ i h l. beyond i l h);
        passes = ap (λ (b : Bool). unless b 17) (ap (all_within reach_limit) drift-read ∙ all_between-of reach_limit drift within);
        other = refl;
        then = ap (λ (xs : List ℤ). state_of drift_place rows (set_drift m xs)) drift-read;
      }

  -- The place behind the drift, or behind the rows where there is none.
  pub drift-leads : m.drift ≡ zeros 6 → Leads (drift_records drift) (state_of matrix_place rows m) (state_of (cond (all_zero drift 0) matrix_place drift_place) rows (set_drift m drift))
  drift-leads none = split (all_zero drift 0) refl
    where
      split : (b : Bool) → all_zero drift 0 ≡ b → Leads (each (cond b 0 1) (λ k. cond (eqb k 0) 0x05 0x05 ∷ six_bytes drift k)) (state_of matrix_place rows m) (state_of (cond b matrix_place drift_place) rows (set_drift m drift))
      split true e = leads-to (leads-none (state_of matrix_place rows m)) (ap (λ (xs : List ℤ). state_of matrix_place rows (set_drift m xs)) (none ∙ zero-drift drift long e))
      split false e = leads-record 0x05 (six_bytes drift 0) drift-taken
