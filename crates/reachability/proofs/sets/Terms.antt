-- One term of r · point, as a loop adds it to a sum: a tested value of r times a tested coordinate. Assumes nothing.
use mathlib.Core.Path.{◌≡◌, sym, ap, ap₂, subst, ◌∙◌}
use Prim.Native.Nat.{ℕ, ◌+◌, ◌≤◌, ◌<◌}
use native.Mathlib.Omega.{arith}
use lib.Dec.{lit<}
use lib.IntN.{ℤ, nat_abs, ◌+ℤ◌, ◌*ℤ◌}
use mir.Syntax.{w32, w64}
use mir.Val.{SFits, to_z, of_z}
use mir.Facts.{to_z-of_z}
use Rattle.integers.proofs.Order.{nat_abs-add, nat_abs-mul-le}
use Rattle.integers.proofs.Machine.{sfits-of-nat_abs}
use Rattle.integers.proofs.RunningSum.{RunningSum, running_more}
use Rattle.stepping.specs.Limits.{growth_limit}
use Rattle.reachability.specs.Sets.{reach_limit}
use Rattle.reachability.specs.SetsInner.{product_limit, term_limit}

-- s + a × b, b being an i32 that was read as an i64
pub record TermAdded (f : ℕ → ℤ) (k : ℕ) (s a b : ℤ) : Type 0 where
  pub product-fits : SFits w64 (to_z w64 (of_z w64 a) *ℤ to_z w64 (of_z w64 b))
  pub sum-fits : SFits w64 (s +ℤ to_z w64 (of_z w64 (to_z w64 (of_z w64 a) *ℤ to_z w64 (of_z w64 b))))
  pub more : RunningSum 6 f product_limit (k + 1) (to_z w64 (of_z w64 (s +ℤ to_z w64 (of_z w64 (to_z w64 (of_z w64 a) *ℤ to_z w64 (of_z w64 b))))))

pub term-added : {f : ℕ → ℤ} {k : ℕ} {s a b : ℤ} (y : ℤ) → RunningSum 6 f product_limit k s → k < 6 → f k ≡ a *ℤ y → b ≡ to_z w32 (of_z w32 y) → nat_abs a ≤ growth_limit → nat_abs y ≤ reach_limit → TermAdded f k s a b
term-added {f} {k} {s} {a} {b} y so_far inside term read a-small y-small =
    record {
      product-fits = subst (SFits w64) (sym product_is) product;
      sum-fits = subst (SFits w64) (sym sum_is) total;
      more = running_more so_far inside (subst (λ (z : ℤ). nat_abs z ≤ product_limit) (sym term) small) (ap (λ (z : ℤ). to_z w64 (of_z w64 z)) sum_is ∙ to_z-of_z total ∙ ap (λ (z : ℤ). s +ℤ z) (sym term));
    }
  where
    b-is : b ≡ y
    b-is = read ∙ to_z-of_z (sfits-of-nat_abs w32 y-small (lit< tt))

    small : nat_abs (a *ℤ y) ≤ product_limit
    small = nat_abs-mul-le a y a-small y-small

    product : SFits w64 (a *ℤ y)
    product = sfits-of-nat_abs w64 small (lit< tt)

    read-a : to_z w64 (of_z w64 a) ≡ a
    read-a = to_z-of_z (sfits-of-nat_abs w64 a-small (lit< tt))

    read-b : to_z w64 (of_z w64 b) ≡ y
    read-b = ap (λ (z : ℤ). to_z w64 (of_z w64 z)) b-is ∙ to_z-of_z (sfits-of-nat_abs w64 y-small (lit< tt))

    product_is : to_z w64 (of_z w64 a) *ℤ to_z w64 (of_z w64 b) ≡ a *ℤ y
    product_is = ap₂ ◌*ℤ◌ read-a read-b

    total : SFits w64 (s +ℤ a *ℤ y)
    total = sfits-of-nat_abs w64 {b = term_limit} (omega (arith, nat_abs-add s (a *ℤ y), small, so_far.small)) (lit< tt)

    sum_is : s +ℤ to_z w64 (of_z w64 (to_z w64 (of_z w64 a) *ℤ to_z w64 (of_z w64 b))) ≡ s +ℤ a *ℤ y
    sum_is = ap (λ (z : ℤ). s +ℤ z) (ap (λ (z : ℤ). to_z w64 (of_z w64 z)) product_is ∙ to_z-of_z product)
