-- What the inner functions promise to each other. Definitions only; no public contract cites them. Assumes nothing.
use Rattle.std.specs.Prelude.{◌≡◌, ◌*◌, false, T, ℤ, pos, Float}
use Rattle.std.specs.Float.{fin}
use Rattle.std.specs.Float.Ieee.{lt, le}
use Rattle.std.specs.Float.Ieee.Positive.{num, den}
use Rattle.stepping.specs.Limits.{matrix_unit}
use Rattle.integers.specs.Whole.{nearest_even}

-- A number from 0 to 2. Either zero is one.
pub record InRange (x : Float) : Type 0 where
  pub low : lt x (fin false 0 (pos 0)) ≡ false
  pub high : T (le x (fin false 1 (pos 1)))

-- The entry of such a number.
abbrev pub magnitude_entry : Float → ℤ
magnitude_entry x = pos (nearest_even (matrix_unit * num x) (den x))
