-- Answers of the stepping arithmetic: what one says of its tests, and what `growth`, `step` and `spare_bits` promise from the
-- answer, since the document's number follows from it. Assumes nothing.
use mathlib.Core.Path.{◌≡◌, refl, sym, ap, ◌∙◌}
use mathlib.Core.Bool.{Bool, true, false, cond}
use mathlib.Core.List.{List}
use Rattle.std.specs.Prelude.{Option, Some, None}
use Prim.Native.Nat.{ℕ}
use native.Mathlib.Omega.{arith}
use lib.IntN.{ℤ}
use Rattle.integers.specs.Sums.{vector, magnitudes}
use Rattle.integers.proofs.Booleans.{number-cond}
use Rattle.stepping.specs.Recurrence.{growth_sum, spare}
use Rattle.stepping.specs.Refusals.{stepped_number, spare_number, working_ok, growth_answer, Grows, step_ok, stepped_r, stepped_e, Steps, spare_ok, spare_answer, Spares}

-- ---- what an answer says of its tests

pub sum-only : (b : Bool) (s x : ℕ) → Some x ≡ cond b (Some s) None → (b ≡ true) × (x ≡ s)
sum-only true s x e = (refl, cc)
sum-only false s x e = let z : ◌≡◌ {A = ℕ} 0 1 = cc in absurd (omega arith)

-- ---- promises

pub grows : (n : ℕ) (r e : List ℤ) (a : Option ℕ) → a ≡ growth_answer n r e → Grows n r e a
grows n r e a h =
    record { answer = h; number = ap stepped_number h ∙ number-cond stepped_number (working_ok n r e) (Some (growth_sum n (vector r) (magnitudes e))) None }

-- a step whose tests pass, or fail: what it left and answered is that case of the promise
pub steps : (n : ℕ) (m r e : List ℤ) (t : Bool) → step_ok n m r e ≡ t → (a : Option ℕ) (r' e' : List ℤ) → a ≡ cond t (Some (growth_sum n (vector r') (magnitudes e'))) None → r' ≡ cond t (stepped_r n m r) r → e' ≡ cond t (stepped_e n m r e) e → Steps n m r e a r' e'
steps n m r e t ok a r' e' p q s =
    let answer = p ∙ sym (ap (λ (b : Bool). cond b (Some (growth_sum n (vector r') (magnitudes e'))) None) ok) in
    record {
      answer = answer;
      number = ap stepped_number answer ∙ number-cond stepped_number (step_ok n m r e) (Some (growth_sum n (vector r') (magnitudes e'))) None;
      direction = q ∙ sym (ap (λ (b : Bool). cond b (stepped_r n m r) r) ok);
      errors = s ∙ sym (ap (λ (b : Bool). cond b (stepped_e n m r e) e) ok);
    }

pub spares : (s : ℕ) (a : Option ℕ) → a ≡ spare_answer s → Spares s a
spares s a h = record { answer = h; number = ap spare_number h ∙ number-cond spare_number (spare_ok s) (Some (spare s)) None }
