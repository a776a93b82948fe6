-- Ranges of what a walk adds up: a support and what has entered, and an error term. Assumes nothing.
use mathlib.Core.Path.{◌≡◌, sym, subst}
use mathlib.Core.List.{List}
use Prim.Native.Nat.{ℕ, ◌+◌, ◌*◌, ◌≤◌}
use native.Mathlib.Nat.{mul-le-mul}
use native.Mathlib.Omega.{arith}
use lib.Dec.{lit<}
use lib.IntN.{ℤ, nat_abs, ◌+ℤ◌}
use mir.Syntax.{w64}
use mir.Val.{SFits}
use Rattle.integers.proofs.Order.{nat_abs-add}
use Rattle.integers.proofs.Sums.{sum_ℕ-bound}
use Rattle.integers.proofs.Machine.{sfits-of-nat_abs}
use Rattle.stepping.specs.Limits.{error_limit}
use Rattle.reachability.specs.Sets.{reach_limit}
use Rattle.reachability.specs.SetsInner.{term_limit}
use Rattle.reachability.specs.WalkInner.{errors_limit, ErrorsWithReach, term_errors}

pub errors-small : {e reaches : List ℤ} {k : ℕ} → k ≡ term_errors e reaches → ErrorsWithReach e reaches → k ≤ errors_limit
errors-small is t = subst (λ (k : ℕ). k ≤ errors_limit) (sym is) (sum_ℕ-bound 6 (error_limit * reach_limit) (λ i h. mul-le-mul (t.small i h) (t.reach-small i h)))

-- a support and what has entered, in either order
pub sum_fits : (x y : ℤ) → nat_abs x + nat_abs y ≤ 258 * term_limit → SFits w64 (x +ℤ y)
sum_fits x y h = sfits-of-nat_abs w64 {b = 258 * term_limit} (omega (arith, nat_abs-add x y, h)) (lit< tt)
