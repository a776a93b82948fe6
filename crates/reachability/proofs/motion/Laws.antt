-- Laws of `matrix_at` and `motion_ok`, by which everything about a move is known: its matrix is a stored one, and the same at every move
-- where nothing switches; entries within their limit, and zero beyond n. No other law reads the stored matrix. Assumes nothing.
use mathlib.Core.Path.{◌≡◌, refl, ap₂}
use mathlib.Core.Bool.{true, ◌&&◌}
use Prim.Native.Nat.{ℕ}
use Rattle.integers.proofs.Booleans.{and-true}
use Rattle.stepping.specs.Refusals.{dimension_ok, matrix_ok}
use Rattle.limits.specs.Limits.{steps_ok}
use Rattle.reachability.specs.Motion.{rows_of, matrix_at, motion_ok}
use Rattle.reachability.specs.declared.motion.Motion.{Motion}

-- The matrix of a move is the stored one.
pub matrix_at-stored : (motion : Motion) (t : ℕ) → matrix_at motion t ≡ rows_of motion
unfolding matrix_at
matrix_at-stored motion t = refl

-- Nothing switches.
pub matrix_at-same : (motion : Motion) (t u : ℕ) → matrix_at motion t ≡ matrix_at motion u
unfolding matrix_at
matrix_at-same motion t u = refl

-- What passes: an n and steps within their limits, and a stored matrix of n by n with entries within theirs.
pub motion_ok-of : (n steps : ℕ) (motion : Motion) → dimension_ok n ≡ true → steps_ok steps ≡ true → matrix_ok n (rows_of motion) ≡ true → motion_ok n steps motion ≡ true
unfolding motion_ok
motion_ok-of n steps motion p q r = ap₂ ◌&&◌ p (ap₂ ◌&&◌ q r)

-- And what is then known, of every move.
pub record MotionFacts (n steps : ℕ) (motion : Motion) : Type 0 where
  pub dimension : dimension_ok n ≡ true
  pub steps-pass : steps_ok steps ≡ true
  pub move-passes : (t : ℕ) → matrix_ok n (matrix_at motion t) ≡ true

pub motion-facts : (n steps : ℕ) (motion : Motion) → motion_ok n steps motion ≡ true → MotionFacts n steps motion
unfolding matrix_at motion_ok
motion-facts n steps motion t =
    let own = and-true (dimension_ok n) (steps_ok steps && matrix_ok n (rows_of motion)) t in
    let rest = and-true (steps_ok steps) (matrix_ok n (rows_of motion)) own.1 in
    record { dimension = own.0; steps-pass = rest.0; move-passes = λ t. rest.1 }
