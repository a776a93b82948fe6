-- A row as it is gone through, entry by entry: before entry i, why the first that is refused is, and what is stored of those before it.
-- In order: at the start; an entry more; all of the first n; a refused one. Assumes nothing.
use Rattle.std.proofs.Common.{◌-◌, ap₂, add-one, ◌≡◌, ℕ, zero, suc, ◌+◌, ◌<◌, ◌≤◌, min, Bool, cond, ltb, List, ℤ, pos, Option, Some, None, Result, Ok, Err, get_or, set, replicate, sym, refl, ap, ◌∙◌, subst, arith, le-ltb, lt-ltb}
use native.Mathlib.Decide.{dec_lt}
use Rattle.std.specs.Option.{option_or}
use Rattle.std.specs.Result.{result_err, result_unwrap_or}
use Rattle.integers.proofs.Machine.{filled, filled_none, filled_more, filled-some, tabulate-cong}
use Rattle.coefficients.specs.declared.EntryRefusal.{EntryRefusal}
use Rattle.coefficients.specs.Entries.{entry_value}
use Rattle.coefficients.specs.Rows.{first_refused, answer_at, unless_refused, entries_of, stored_six}
use Rattle.coefficients.proofs.RowLaws.{each-of-six}

abbrev six_zeros : List ℤ
six_zeros = replicate 6 (pos 0)

zero_at : (i : ℕ) → i < 6 → get_or six_zeros i (pos 0) ≡ pos 0
zero_at = each-of-six (λ i. get_or six_zeros i (pos 0) ≡ pos 0) refl refl refl refl refl refl

-- what is stored of an answer
pub unwrap-is : (a : Result ℤ EntryRefusal) → result_unwrap_or a (pos 0) ≡ entry_value a
unwrap-is (Ok entry) = refl
unwrap-is (Err refusal) = refl

module _ (n : ℕ) (row : ℕ → Result ℤ EntryRefusal) where
  abbrev answers : ℕ → Result ℤ EntryRefusal
  answers i = answer_at n row i

  abbrev stored : ℕ → ℤ
  stored i = entry_value (answers i)

  pub record RowSoFar (i : ℕ) (first : Option EntryRefusal) (six : List ℤ) : Type 0 where
    pub first-is : first ≡ first_refused i answers
    pub six-is : six ≡ filled stored i six_zeros

  pub row-start : RowSoFar 0 None six_zeros
  unfolding first_refused
  row-start = record { first-is = refl; six-is = sym (filled_none stored six_zeros) }

  answer-within : (i : ℕ) → i < n → answers i ≡ row i
  answer-within i h = ap (λ (b : Bool). cond b (row i) (Ok (pos 0))) (lt-ltb i n h)

  answer-beyond : (i : ℕ) → n ≤ i → answers i ≡ Ok (pos 0)
  answer-beyond i h = ap (λ (b : Bool). cond b (row i) (Ok (pos 0))) (le-ltb i n h)

  -- the first that is refused so far stays the first, where no entry that follows changes it
  keeps : (d m i : ℕ) {o : Option EntryRefusal} → m ≡ d + i → ((j : ℕ) → i ≤ j → option_or o (result_err (answers j)) ≡ o) → first_refused i answers ≡ o → first_refused m answers ≡ o
  unfolding first_refused
  keeps zero m i {o} e same is = let at : i ≡ m = omega arith in subst (λ (j : ℕ). first_refused j answers ≡ o) at is
  keeps (suc d) zero i e same is = absurd (omega arith)
  keeps (suc d) (suc m) i e same is =
      ap (λ (first : Option EntryRefusal). option_or first (result_err (answers m))) (keeps d m i (omega arith) same is) ∙ same m (omega arith)

  module _ {i : ℕ} {first : Option EntryRefusal} {six : List ℤ} (so_far : RowSoFar i first six) where
    pub row-more : i < n → i < 6 → RowSoFar (i + 1) (option_or first (result_err (row i))) (set six i (entry_value (row i)))
    unfolding first_refused
    row-more h k =
        let is = sym (answer-within i h) in
        record {
          first-is =
              ap₂ option_or so_far.first-is (ap result_err is)
              ∙ sym (ap (λ (m : ℕ). first_refused m answers) (add-one i));
          six-is = ap₂ (λ (l : List ℤ) (z : ℤ). set l i z) so_far.six-is (ap entry_value is) ∙ filled_more stored i six_zeros k;
        }

    -- none of those beyond n is refused
    stays : (d m : ℕ) → m ≡ d + i → n ≤ i → first ≡ first_refused m answers
    stays d m e h = sym (keeps d m i e (λ j l. ap (λ (a : Result ℤ EntryRefusal). option_or first (result_err a)) (answer-beyond j (omega (arith, h))) ∙ none-more first) (sym so_far.first-is))
      where
        none-more : (o : Option EntryRefusal) → option_or o None ≡ o
        none-more None = refl
        none-more (Some r) = refl

    pub row-done : i ≡ min n 6 → unless_refused first six ≡ entries_of n row
    unfolding entries_of
    row-done e = ap₂ unless_refused all-first all-stored
      where
        all-first : first ≡ first_refused 6 answers
        all-first =
            elim (dec_lt i n) [
              | yes h ↦ let at : i ≡ 6 = omega (arith, h) in subst (λ (j : ℕ). first ≡ first_refused j answers) at so_far.first-is
              | no g ↦ stays (6 - i) 6 (omega arith) (omega (arith, g))
            ]

        place : (k : ℕ) → k < 6 → cond (ltb k i) (stored k) (get_or six_zeros k (pos 0)) ≡ stored k
        place k h =
            elim (dec_lt k i) [
              | yes l ↦ ap (λ (b : Bool). cond b (stored k) (get_or six_zeros k (pos 0))) (lt-ltb k i l)
              | no g ↦
                  ap (λ (b : Bool). cond b (stored k) (get_or six_zeros k (pos 0))) (le-ltb k i (omega (arith, g)))
                  ∙ zero_at k h
                  ∙ sym (ap entry_value (answer-beyond k (omega (arith, g))))
            ]

        all-stored : six ≡ stored_six n row
        all-stored = so_far.six-is ∙ filled-some stored i six_zeros (omega arith) ∙ tabulate-cong 6 {f = λ k. cond (ltb k i) (stored k) (get_or six_zeros k (pos 0))} {g = stored} place

  module _ {i : ℕ} {six : List ℤ} (so_far : RowSoFar i None six) where
    pub row-refused : {refusal : EntryRefusal} → i < n → i < 6 → row i ≡ Err refusal → Err (record { refusal = refusal; six = stored_six n row }) ≡ entries_of n row
    unfolding entries_of first_refused
    row-refused {refusal} h k r = sym (ap (λ (first : Option EntryRefusal). unless_refused first (stored_six n row)) (keeps (5 - i) 6 (suc i) (omega arith) (λ j l. refl) this))
      where
        this : first_refused (suc i) answers ≡ Some refusal
        this = ap₂ (λ (o : Option EntryRefusal) (a : Result ℤ EntryRefusal). option_or o (result_err a)) (sym so_far.first-is) (answer-within i h ∙ r)
