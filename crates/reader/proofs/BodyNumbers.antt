-- The number of a whole body: a test that passes; a body that passes; a body with nothing beyond n. Assumes nothing.
use mathlib.Core.Path.{◌≡◌, refl, ap}
use mathlib.Core.Bool.{Bool, true, false}
use mathlib.Core.List.{List}
use Prim.Native.Nat.{ℕ, ◌<◌}
use native.Mathlib.Omega.{arith}
use Rattle.arrays.specs.Tests.{first_of}
use Rattle.arrays.proofs.FirstOf.{first_of-zero}
use Rattle.records.specs.Kinds.{layout_of, part_of}
use Rattle.columns.specs.Columns.{unused_zero}
use Rattle.reader.specs.declared.state.State.{State}
use Rattle.reader.specs.Values.{unless, value_number, body_number}

pub passed : (ok : Bool) (number : ℕ) → 0 < number → unless ok number ≡ 0 → ok ≡ true
passed true number h e = refl
passed false number h e = absurd (omega arith)

module _ (s : State) (kind : ℕ) (body : List ℕ) where
  pub body_number-zero : body_number s kind body ≡ 0 → (unused_zero s.model.n (layout_of kind) body ≡ true) × (value_number (part_of kind) s (layout_of kind) body ≡ 0)
  unfolding body_number
  body_number-zero z =
      let both = first_of-zero (unless (unused_zero s.model.n (layout_of kind) body) 16) (value_number (part_of kind) s (layout_of kind) body) z in
      (passed (unused_zero s.model.n (layout_of kind) body) 16 (omega arith) both.0, both.1)

  -- with nothing beyond n it is that of the other values
  pub body_number-value : unused_zero s.model.n (layout_of kind) body ≡ true → body_number s kind body ≡ value_number (part_of kind) s (layout_of kind) body
  unfolding body_number
  body_number-value z = ap (λ (b : Bool). first_of (unless b 16) (value_number (part_of kind) s (layout_of kind) body)) z
