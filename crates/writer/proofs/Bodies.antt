-- What a body that was written holds when it is read: each of its six entries, all of them, and that nothing stands beyond n. A row has
-- its number before its entries, all else has them alone. Assumes nothing.
use mathlib.Core.Path.{◌≡◌, sym, ap, ap₂, ◌∙◌}
use mathlib.Core.Bool.{Bool, true, ◌||◌}
use mathlib.Core.List.{List, ◌++◌, append_assoc}
use Prim.Native.Nat.{ℕ, ◌+◌, ◌*◌, ◌≤◌, ◌<◌}
use native.Mathlib.Decide.{dec_lt}
use native.Mathlib.Omega.{arith}
use borrow.Author.Tests.{lt-ltb, eq-eqb}
use lib.Dec.{eqb, ltb}
use lib.IntN.{ℤ, pos, nat_abs}
use lib.ListN.{length, length-append}
use mir.Syntax.{w32}
use mir.Val.{SFits}
use Rattle.integers.specs.Sums.{matrix, tabulate}
use Rattle.integers.proofs.Booleans.{or-true}
use Rattle.integers.proofs.Machine.{tabulate-cong}
use Rattle.integers.proofs.Sums.{all_below-intro}
use Rattle.numbers.specs.Numbers.{signed_at, signed_bytes}
use Rattle.numbers.proofs.Written.{length-signed_bytes, signed_at-signed_bytes}
use Rattle.records.specs.declared.kinds.Layout.{Layout}
use Rattle.text.specs.Text.{each}
use Rattle.text.proofs.Each.{length-each, behind, each_at}
use Rattle.columns.specs.Columns.{entry_at, six_at, column_zero, unused_zero}
use Rattle.columns.proofs.ColumnLaws.{passes, column_zero-whole}
use Rattle.writer.specs.Writing.{six_bytes}

-- ---- six entries

-- A stored number fits 32 bits.
pub record Fits32 (xs : List ℤ) : Type 0 where
  pub at : (p i : ℕ) → i < 6 → SFits w32 (matrix xs p i)

module _ (xs : List ℤ) (fits : Fits32 xs) (k : ℕ) (before : List ℕ) where
  pub entry-written : (i : ℕ) → i < 6 → entry_at (before ++ six_bytes xs k) (length before) i ≡ matrix xs k i
  unfolding six_bytes
  entry-written i h =
      let f : ℕ → List ℕ = λ i. signed_bytes 4 (matrix xs k i) in
      let place : length before + 4 * i ≡ length (before ++ each i f) = omega (arith, length-append before (each i f), length-each i 4 f (λ i. length-signed_bytes 4 (matrix xs k i))) in
      ap₂ (signed_at 4) (ap (λ (t : List ℕ). before ++ t) (each_at 6 f i h) ∙ sym (append_assoc before (each i f) (f i ++ behind 6 f i))) place
      ∙ signed_at-signed_bytes w32 (matrix xs k i) (before ++ each i f) (behind 6 f i) (fits.at k i h)

  pub six-written : six_at (before ++ six_bytes xs k) (length before) ≡ tabulate 6 (matrix xs k)
  unfolding six_at
  six-written = tabulate-cong 6 {f = entry_at (before ++ six_bytes xs k) (length before)} {g = matrix xs k} entry-written

  pub unused-written : (n : ℕ) (l : Layout) → l.width ≡ 4 → l.first ≡ length before → ((i : ℕ) → n ≤ i → i < 6 → matrix xs k i ≡ pos 0) → unused_zero n l (before ++ six_bytes xs k) ≡ true
  unfolding unused_zero
  unused-written n l four first beyond =
      ap (λ (b : Bool). eqb l.width 0 || b) (all_below-intro 6 (passes l.first n l.width (before ++ six_bytes xs k)) each-passes)
      ∙ or-true (eqb l.width 0)
    where
      body : List ℕ
      body = before ++ six_bytes xs k

      zero-there : (i : ℕ) → n ≤ i → i < 6 → column_zero l.first l.width body i ≡ true
      zero-there i h k' =
          column_zero-whole l.first l.width body i (λ e. omega arith)
          ∙ eq-eqb (nat_abs (entry_at body l.first i)) 0 (ap nat_abs (ap (λ (at : ℕ). entry_at body at i) first ∙ entry-written i k' ∙ beyond i h k'))

      each-passes : (i : ℕ) → i < 6 → passes l.first n l.width body i ≡ true
      each-passes i h = elim (dec_lt i n) [ yes b ↦ ap (λ (t : Bool). t || column_zero l.first l.width body i) (lt-ltb i n b) | no g ↦ ap (λ (t : Bool). ltb i n || t) (zero-there i (omega (arith, g)) h) ∙ or-true (ltb i n) ]
