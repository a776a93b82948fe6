-- Laws of `unused_zero`. In order: one entry; what a body that passes has beyond n; bodies that pass. Assumes nothing.
use mathlib.Core.Path.{◌≡◌, sym, ap, ◌∙◌}
use mathlib.Core.Bool.{Bool, true, cond, ◌||◌}
use mathlib.Core.List.{List}
use Prim.Native.Nat.{ℕ, ◌≤◌, ◌<◌}
use native.Mathlib.Omega.{arith}
use borrow.Author.Tests.{le-ltb, eqb-true, eq-eqb, ne_eqb}
use lib.Dec.{eqb, ltb}
use lib.IntN.{pos, nat_abs}
use Rattle.integers.specs.Sums.{all_below}
use Rattle.integers.proofs.Booleans.{or-true}
use Rattle.integers.proofs.Machine.{zero-of-nat_abs}
use Rattle.integers.proofs.Sums.{all_below-at, all_below-intro}
use Rattle.coefficients.specs.Binary64.{is_zero}
use Rattle.records.specs.declared.kinds.Layout.{Layout}
use Rattle.columns.specs.Columns.{entry_at, fitted_width, bits_at, entry_zero, column_zero, unused_zero}

-- Entry i is one of the first n, or zero.
abbrev pub passes : ℕ → ℕ → ℕ → List ℕ → ℕ → Bool
passes at n width body i = ltb i n || column_zero at width body i

pub passes-beyond : (at n width : ℕ) (body : List ℕ) (i : ℕ) → n ≤ i → passes at n width body i ≡ column_zero at width body i
passes-beyond at n width body i h = ap (λ (b : Bool). b || column_zero at width body i) (le-ltb i n h)

pub entry_zero-is : (body : List ℕ) (at i : ℕ) → entry_zero body at i ≡ true → entry_at body at i ≡ pos 0
entry_zero-is body at i z = zero-of-nat_abs (entry_at body at i) (eqb-true (nat_abs (entry_at body at i)) 0 z)

-- by the bytes of an entry
pub column_zero-fitted : (at width : ℕ) (body : List ℕ) (i : ℕ) → width ≡ fitted_width → column_zero at width body i ≡ is_zero (bits_at body at i)
column_zero-fitted at width body i e = ap (λ (b : Bool). cond b (is_zero (bits_at body at i)) (entry_zero body at i)) (eq-eqb width fitted_width e)

pub column_zero-whole : (at width : ℕ) (body : List ℕ) (i : ℕ) → (width ≡ fitted_width → ⊥) → column_zero at width body i ≡ entry_zero body at i
column_zero-whole at width body i ne = ap (λ (b : Bool). cond b (is_zero (bits_at body at i)) (entry_zero body at i)) (ne_eqb width fitted_width ne)

module _ (n : ℕ) (l : Layout) (body : List ℕ) where
  -- with entries
  pub unused_zero-some : (l.width ≡ 0 → ⊥) → unused_zero n l body ≡ all_below 6 (passes l.first n l.width body)
  unfolding unused_zero
  unused_zero-some ne = ap (λ (b : Bool). b || all_below 6 (passes l.first n l.width body)) (ne_eqb l.width 0 ne)

  -- ---- a body that passes

  pub unused_zero-at : unused_zero n l body ≡ true → 0 < l.width → (i : ℕ) → n ≤ i → i < 6 → column_zero l.first l.width body i ≡ true
  unfolding unused_zero
  unused_zero-at z some i h k =
      sym (passes-beyond l.first n l.width body i h)
      ∙ all_below-at 6 (passes l.first n l.width body) (sym (unused_zero-some (λ e. omega arith)) ∙ z) i k

  -- ---- bodies that pass

  -- without entries
  pub unused_zero-none : l.width ≡ 0 → unused_zero n l body ≡ true
  unfolding unused_zero
  unused_zero-none e = ap (λ (b : Bool). b || all_below 6 (passes l.first n l.width body)) (eq-eqb l.width 0 e)

  -- with zeros alone
  pub unused_zero-of : ((i : ℕ) → i < 6 → column_zero l.first l.width body i ≡ true) → unused_zero n l body ≡ true
  unfolding unused_zero
  unused_zero-of each =
      ap (λ (b : Bool). eqb l.width 0 || b)
      (all_below-intro 6 (passes l.first n l.width body) (λ i h. ap (λ (b : Bool). ltb i n || b) (each i h) ∙ or-true (ltb i n)))
      ∙ or-true (eqb l.width 0)
