-- A sum that a loop keeps: what it is after k of n terms, none of which is above b in magnitude.
-- In order: the record; its start; one term more; its end, for terms in ℤ and in ℕ. A sum of natural numbers s is kept as `pos s`.
-- Assumes nothing.
use mathlib.Core.Path.{◌≡◌, sym, ap, subst, ◌∙◌}
use Prim.Native.Nat.{ℕ, ◌+◌, ◌*◌, ◌≤◌, ◌<◌}
use native.Mathlib.Numerals.{add-one}
use native.Mathlib.Omega.{arith}
use lib.IntN.{ℤ, pos, nat_abs, ◌+ℤ◌}
use Rattle.integers.specs.Sums.{sum, sum_ℕ}
use Rattle.integers.proofs.Order.{nat_abs-add}
use Rattle.integers.proofs.Sums.{sum-zero, sum-suc, pos-sum_ℕ}

pub record RunningSum (n : ℕ) (f : ℕ → ℤ) (b k : ℕ) (s : ℤ) : Type 0 where
  pub inside : k ≤ n
  pub is : s ≡ sum k f
  pub small : nat_abs s ≤ k * b

pub running-start : (n : ℕ) (f : ℕ → ℤ) (b : ℕ) → RunningSum n f b 0 (pos 0)
running-start n f b = record { inside = omega arith; is = sym (sum-zero f); small = omega arith }

pub running_more : {n : ℕ} {f : ℕ → ℤ} {b k : ℕ} {s t : ℤ} → RunningSum n f b k s → k < n → nat_abs (f k) ≤ b → t ≡ s +ℤ f k → RunningSum n f b (k + 1) t
running_more {n} {f} {b} {k} {s} {t} so h small e =
    record {
      inside = omega arith;
      is = e ∙ ap (λ (z : ℤ). z +ℤ f k) so.is ∙ sym (ap (λ (j : ℕ). sum j f) (add-one k) ∙ sum-suc k f);
      small = subst (λ (z : ℤ). nat_abs z ≤ (k + 1) * b) (sym e) (omega (arith, nat_abs-add s (f k), so.small));
    }

pub running-done : {n : ℕ} {f : ℕ → ℤ} {b k : ℕ} {s : ℤ} → RunningSum n f b k s → n ≤ k → s ≡ sum n f
running-done {n} {f} {b} {k} {s} so h = so.is ∙ ap (λ (j : ℕ). sum j f) (same so.inside)
  where
    same : k ≤ n → k ≡ n
    same l = omega arith

pub running-done_ℕ : {n : ℕ} {f : ℕ → ℕ} {b k s : ℕ} → RunningSum n (λ i. pos (f i)) b k (pos s) → n ≤ k → s ≡ sum_ℕ n f
running-done_ℕ {n} {f} so h = ap nat_abs (running-done so h ∙ sym (pos-sum_ℕ n f))
