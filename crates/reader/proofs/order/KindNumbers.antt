-- Laws of `kind_number`: 3 where the order does not allow the kind, 9 where its part is full, and what a kind that passes both is
-- known to satisfy. Assumes nothing.
use mathlib.Core.Path.{◌≡◌, refl, sym, ap, ap₂, ◌∙◌}
use mathlib.Core.Bool.{Bool, true, false, cond}
use Prim.Native.Nat.{ℕ, ◌≤◌, ◌<◌}
use native.Mathlib.Omega.{arith}
use borrow.Author.Tests.{leb-false}
use lib.Dec.{leb}
use Rattle.arrays.specs.Tests.{first_of}
use Rattle.records.specs.declared.kinds.Layout.{Layout}
use Rattle.records.specs.declared.kinds.Part.{Part}
use Rattle.reader.specs.declared.state.State.{State}
use Rattle.records.specs.Kinds.{layout_of}
use Rattle.records.specs.Order.{may_follow}
use Rattle.reader.specs.Refusals.{count_of, one_too_many, kind_number_of, kind_number}

-- a part that is not full
pub count-few : (s : State) (l : Layout) → one_too_many s l ≡ false → count_of l.part s < l.most
count-few s l few = fewer (count_of l.part s) l.most few
  where
    fewer : (a b : ℕ) → leb b a ≡ false → a < b
    fewer a b e = omega (arith, leb-false b a e)

pub count-lt : (s : State) (l : Layout) {p : Part} → one_too_many s l ≡ false → l.most ≤ 16 → l.part ≡ p → count_of p s < 16
count-lt s l {p} few most e = within (count_of p s) l.most most (ap (λ (q : Part). leb l.most (count_of q s)) (sym e) ∙ few)
  where
    within : (n m : ℕ) → m ≤ 16 → leb m n ≡ false → n < 16
    within n m h f = omega (arith, leb-false m n f)

module _ (s : State) (kind : ℕ) where
  -- by the two tests of a program, each a number
  pub kind_number-first : (l : Layout) {misplaced many : ℕ} → misplaced ≡ cond (may_follow s.place kind) 0 3 → many ≡ cond (one_too_many s l) 9 0 → first_of misplaced many ≡ kind_number_of s kind l
  kind_number-first l e m = ap₂ first_of e m ∙ by (may_follow s.place kind) (one_too_many s l)
    where
      by : (a b : Bool) → first_of (cond a 0 3) (cond b 9 0) ≡ cond a (cond b 9 0) 3
      by true b = refl
      by false b = refl

  pub kind_number-le : kind_number s kind ≤ 9
  unfolding kind_number
  kind_number-le = by (may_follow s.place kind) (one_too_many s (layout_of kind))
    where
      by : (a b : Bool) → cond a (cond b 9 0) 3 ≤ 9
      by true true = omega arith
      by true false = omega arith
      by false b = omega arith

  -- back
  pub kind_number-zero : kind_number s kind ≡ 0 → (may_follow s.place kind ≡ true) × (one_too_many s (layout_of kind) ≡ false)
  unfolding kind_number
  kind_number-zero z = by (may_follow s.place kind) (one_too_many s (layout_of kind)) z
    where
      by : (a b : Bool) → ◌≡◌ {A = ℕ} (cond a (cond b 9 0) 3) 0 → (a ≡ true) × (b ≡ false)
      by true true e = absurd (omega arith)
      by true false e = (refl, refl)
      by false b e = absurd (omega arith)
