-- Laws of `entries_of`. In order: rows with the same six answers are the same row; what holds of the number and of what is stored;
-- the answer to a row, by its number and what is stored; the two kinds of entry. Assumes nothing.
use Rattle.std.proofs.Common.{Option, Some, None, Result, Ok, Err, ◌≡◌, ℕ, zero, suc, ◌<◌, ◌≤◌, Bool, true, false, cond, ltb, leb, List, ℤ, pos, nat_abs, sym, refl, ap, ◌∙◌, subst, ap₂, arith, le-ltb, leb-true}
use native.Mathlib.Decide.{dec_lt}
use lib.ListN.{get_or-eq_default}
use Rattle.integers.specs.Sums.{vector}
use Rattle.integers.proofs.Machine.{tabulate-cong, get_or-tabulate}
use Rattle.arrays.specs.Tests.{first_of}
use Rattle.arrays.proofs.FirstOf.{first_of-ind}
use Rattle.std.specs.Option.{option_or}
use Rattle.std.specs.Result.{result_err}
use Rattle.stepping.specs.Limits.{entry_limit}
use Rattle.coefficients.specs.declared.EntryRefusal.{EntryRefusal}
use Rattle.coefficients.specs.declared.rows.RefusedRow.{RefusedRow}
use Rattle.coefficients.specs.Entries.{fitted_ok, fitted_entry, entry_of_bits, scaled_entry, entry_refusal_number, entry_number, entry_value}
use Rattle.coefficients.specs.Rows.{first_number, answer_at, entries_number, stored_six, first_refused, unless_refused, entries_of, row_refused, row_six}
use Rattle.coefficients.proofs.Fitting.{accepted-bits, refused-bits, fitted_entry-within}

first_number-cong : (k : ℕ) {f g : ℕ → Result ℤ EntryRefusal} → ((i : ℕ) → i < k → f i ≡ g i) → first_number k f ≡ first_number k g
unfolding first_number
first_number-cong zero e = refl
first_number-cong (suc k) e = ap₂ first_of (first_number-cong k (λ i l. e i (omega (arith, l)))) (ap entry_number (e k (omega arith)))

-- the same answer is the same within n and beyond
answer_at-cong : (n : ℕ) {f g : ℕ → Result ℤ EntryRefusal} → ((i : ℕ) → i < 6 → f i ≡ g i) → (i : ℕ) → i < 6 → answer_at n f i ≡ answer_at n g i
answer_at-cong n e i l = ap (λ (a : Result ℤ EntryRefusal). cond (ltb i n) a (Ok (pos 0))) (e i l)

pub entries_number-cong : (n : ℕ) {f g : ℕ → Result ℤ EntryRefusal} → ((i : ℕ) → i < 6 → f i ≡ g i) → entries_number n f ≡ entries_number n g
entries_number-cong n e = first_number-cong 6 (answer_at-cong n e)

pub stored_six-cong : (n : ℕ) {f g : ℕ → Result ℤ EntryRefusal} → ((i : ℕ) → i < 6 → f i ≡ g i) → stored_six n f ≡ stored_six n g
stored_six-cong n {f} {g} e = tabulate-cong 6 {f = λ i. entry_value (answer_at n f i)} {g = λ i. entry_value (answer_at n g i)} (λ i l. ap entry_value (answer_at-cong n {f = f} {g = g} e i l))

first_refused-cong : (k : ℕ) {f g : ℕ → Result ℤ EntryRefusal} → ((i : ℕ) → i < k → f i ≡ g i) → first_refused k f ≡ first_refused k g
unfolding first_refused
first_refused-cong zero e = refl
first_refused-cong (suc k) e = ap₂ option_or (first_refused-cong k (λ i l. e i (omega (arith, l)))) (ap result_err (e k (omega arith)))

pub entries_of-cong : (n : ℕ) {f g : ℕ → Result ℤ EntryRefusal} → ((i : ℕ) → i < 6 → f i ≡ g i) → entries_of n f ≡ entries_of n g
unfolding entries_of
entries_of-cong n e = ap₂ unless_refused (first_refused-cong 6 (answer_at-cong n e)) (stored_six-cong n e)

-- six facts are a fact of each place
pub each-of-six : (P : ℕ → Type 0) → P 0 → P 1 → P 2 → P 3 → P 4 → P 5 → (i : ℕ) → i < 6 → P i
each-of-six P a b c d e f zero l = a
each-of-six P a b c d e f (suc zero) l = b
each-of-six P a b c d e f (suc (suc zero)) l = c
each-of-six P a b c d e f (suc (suc (suc zero))) l = d
each-of-six P a b c d e f (suc (suc (suc (suc zero)))) l = e
each-of-six P a b c d e f (suc (suc (suc (suc (suc zero))))) l = f
each-of-six P a b c d e f (suc (suc (suc (suc (suc (suc i)))))) l = absurd (omega (arith, l))

-- ---- the number, and what is stored

-- what holds of 0 and of each answer's number holds of the first number
pub first_number-ind : (P : ℕ → Type 0) (row : ℕ → Result ℤ EntryRefusal) → P 0 → ((i : ℕ) → P (entry_number (row i))) → (k : ℕ) → P (first_number k row)
unfolding first_number
first_number-ind P row none each zero = none
first_number-ind P row none each (suc k) = first_of-ind P (first_number-ind P row none each k) (each k)

answer_at-ind : (P : Result ℤ EntryRefusal → Type 0) (n : ℕ) (row : ℕ → Result ℤ EntryRefusal) → P (Ok (pos 0)) → ((i : ℕ) → P (row i)) → (i : ℕ) → P (answer_at n row i)
answer_at-ind P n row none each i = either (ltb i n)
  where
    either : (b : Bool) → P (cond b (row i) (Ok (pos 0)))
    either true = each i
    either false = none

pub entries_number-ind : (P : ℕ → Type 0) (n : ℕ) (row : ℕ → Result ℤ EntryRefusal) → P 0 → ((i : ℕ) → P (entry_number (row i))) → P (entries_number n row)
entries_number-ind P n row none each = first_number-ind P (answer_at n row) none (answer_at-ind (λ a. P (entry_number a)) n row none each) 6

-- Limits 3
pub stored_six-within : (n : ℕ) (row : ℕ → Result ℤ EntryRefusal) → ((i : ℕ) → nat_abs (entry_value (row i)) ≤ entry_limit) → (i : ℕ) → i < 6 → nat_abs (vector (stored_six n row) i) ≤ entry_limit
stored_six-within n row each i l =
    subst (λ (z : ℤ). nat_abs z ≤ entry_limit) (sym (get_or-tabulate 6 (λ k. entry_value (answer_at n row k)) i (pos 0) l))
    (answer_at-ind (λ a. nat_abs (entry_value a) ≤ entry_limit) n row (omega arith) each i)

-- Limits 9
pub stored_six-beyond : (n : ℕ) (row : ℕ → Result ℤ EntryRefusal) (i : ℕ) → n ≤ i → vector (stored_six n row) i ≡ pos 0
stored_six-beyond n row i h =
    elim (dec_lt i 6) [
      | yes l ↦
          get_or-tabulate 6 (λ k. entry_value (answer_at n row k)) i (pos 0) l
          ∙ ap (λ (b : Bool). entry_value (cond b (row i) (Ok (pos 0)))) (le-ltb i n h)
      | no g ↦ get_or-eq_default (stored_six n row) (pos 0) {n = i} (omega (arith, g))
    ]

-- ---- the answer to a row: the number that it is refused by, and otherwise what is stored

abbrev number_of : Option EntryRefusal → ℕ
number_of None = 0
number_of (Some refusal) = entry_refusal_number refusal

first_number-more : (first : Option EntryRefusal) (next : Result ℤ EntryRefusal) → first_of (number_of first) (entry_number next) ≡ number_of (option_or first (result_err next))
first_number-more None (Ok entry) = refl
first_number-more None (Err refusal) = refl
first_number-more (Some EntryRefusal.Scaled) next = refl
first_number-more (Some EntryRefusal.Fitted) next = refl

first_number-is : (k : ℕ) (row : ℕ → Result ℤ EntryRefusal) → first_number k row ≡ number_of (first_refused k row)
unfolding first_number first_refused
first_number-is zero row = refl
first_number-is (suc k) row = ap (λ (n : ℕ). first_of n (entry_number (row k))) (first_number-is k row) ∙ first_number-more (first_refused k row) (row k)

module _ (n : ℕ) (row : ℕ → Result ℤ EntryRefusal) where
  pub entries_of-ok : {six : List ℤ} → entries_of n row ≡ Ok six → (entries_number n row ≡ 0) × (stored_six n row ≡ six)
  unfolding entries_of
  entries_of-ok {six} e = cases (first_refused 6 (answer_at n row)) refl
    where
      cases : (first : Option EntryRefusal) → first_refused 6 (answer_at n row) ≡ first → (entries_number n row ≡ 0) × (stored_six n row ≡ six)
      cases None f = (first_number-is 6 (answer_at n row) ∙ ap number_of f, cc)
      cases (Some refusal) f = absurd cc

  pub entries_of-err : {refused : RefusedRow} → entries_of n row ≡ Err refused → entries_number n row ≡ entry_refusal_number refused.refusal
  unfolding entries_of
  entries_of-err {refused} e = cases (first_refused 6 (answer_at n row)) refl
    where
      cases : (first : Option EntryRefusal) → first_refused 6 (answer_at n row) ≡ first → entries_number n row ≡ entry_refusal_number refused.refusal
      cases None f = absurd cc
      cases (Some r) f = first_number-is 6 (answer_at n row) ∙ ap number_of f ∙ ap entry_refusal_number cc

module _ (n : ℕ) (row : ℕ → Result ℤ EntryRefusal) where
  pub entries_of-number : row_refused (entries_of n row) ≡ entries_number n row
  unfolding entries_of
  entries_of-number = sym (first_number-is 6 (answer_at n row) ∙ same (first_refused 6 (answer_at n row)))
    where
      same : (first : Option EntryRefusal) → number_of first ≡ row_refused (unless_refused first (stored_six n row))
      same None = refl
      same (Some refusal) = refl

  pub entries_of-six : row_six (entries_of n row) ≡ stored_six n row
  unfolding entries_of
  entries_of-six = same (first_refused 6 (answer_at n row))
    where
      same : (first : Option EntryRefusal) → row_six (unless_refused first (stored_six n row)) ≡ stored_six n row
      same None = refl
      same (Some refusal) = refl

-- ---- the two kinds of entry: an entry within its limit, or the number

pub scaled_entry-ind : (P : Result ℤ EntryRefusal → Type 0) (entry : ℤ) → (nat_abs entry ≤ entry_limit → P (Ok entry)) → P (Err EntryRefusal.Scaled) → P (scaled_entry entry)
unfolding scaled_entry
scaled_entry-ind P entry within beyond = cases (leb (nat_abs entry) entry_limit) refl
  where
    cases : (b : Bool) → leb (nat_abs entry) entry_limit ≡ b → P (cond b (Ok entry) (Err EntryRefusal.Scaled))
    cases true e = within (leb-true (nat_abs entry) entry_limit e)
    cases false e = beyond

pub entry_of_bits-ind : (P : Result ℤ EntryRefusal → Type 0) (bits : ℕ) → (nat_abs (fitted_entry bits) ≤ entry_limit → P (Ok (fitted_entry bits))) → P (Err EntryRefusal.Fitted) → P (entry_of_bits bits)
entry_of_bits-ind P bits within beyond = cases (fitted_ok bits) refl
  where
    cases : (b : Bool) → fitted_ok bits ≡ b → P (entry_of_bits bits)
    cases true e = subst P (sym (accepted-bits bits e)) (within (fitted_entry-within bits e))
    cases false e = subst P (sym (refused-bits bits e)) beyond
