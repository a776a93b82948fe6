-- An array that `array::from_fn` made of a closure that leaves what it holds as it is: the element at each place is the closure's answer
-- there. Assumes nothing.
use Rattle.std.proofs.Common.{◌≡◌, ℕ, zero, suc, ◌+◌, ◌<◌, List, get_or, sym, subst, ◌∙◌, arith}
use Rattle.std.specs.Fn.{Mut, Called}
use Rattle.std.specs.Array.{IsFromFnResultFrom, IsFromFnResult}

module _ {F B : Type 0} (g : Mut F (ℕ × Unit {0}) B) (f : F) (answer : ℕ → B) (same : (i : ℕ) (y : B) (q : F) → Called g f (i, tt) y q → (y ≡ answer i) × (q ≡ f)) where
  each_from : (ys : List B) (i n k : ℕ) (d : B) → IsFromFnResultFrom g f ys i n → i + k < i + n → get_or ys (i + k) d ≡ answer (i + k)
  each_from ys i zero k d made h = absurd (omega arith)
  each_from ys i (suc n) zero d made h =
      let at : i + 0 ≡ i = omega arith in
      subst (λ (j : ℕ). get_or ys j d ≡ answer j) (sym at) (made.2.1 d ∙ (same i made.1 made.0 made.3).0)
  each_from ys i (suc n) (suc k) d made h =
      let at : i + 1 + k ≡ i + suc k = omega arith in
      subst (λ (j : ℕ). get_or ys j d ≡ answer j) at
      (each_from ys (i + 1) n k d (subst (λ (p : F). IsFromFnResultFrom g p ys (i + 1) n) (same i made.1 made.0 made.3).1 made.4) (omega arith))

  pub from_fn-each : {n : ℕ} (ys : List B) → IsFromFnResult g f ys n → (d : B) (i : ℕ) → i < n → get_or ys i d ≡ answer i
  from_fn-each {n} ys made d i h =
      let at : 0 + i ≡ i = omega arith in
      subst (λ (j : ℕ). get_or ys j d ≡ answer j) at (each_from ys 0 n i d made.each (omega arith))
