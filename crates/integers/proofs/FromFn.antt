-- What `array::from_fn` makes, and `map` of an array: the list of what the closure gives at each number, or of each element, where
-- the closure stays as it was. Assumes nothing.
use Prim.Native.Nat.{ℕ, zero, suc, ◌+◌, ◌≤◌, ◌<◌}
use mathlib.Core.Path.{◌≡◌, sym, ap, subst, ◌∙◌}
use mathlib.Core.List.{List}
use native.Mathlib.Decide.{dec_lt}
use native.Mathlib.Omega.{arith}
use denote.Param.Members.{Mut, Called}
use lib.ListN.{get_or}
use lib.Seq.{ext_get_or}
use lib.IntN.{ℤ, pos}
use Rattle.std.specs.Array.{IsFromFnResult, IsFromFnResultFrom, IsMapOf, MapsFrom}
use Rattle.integers.specs.Sums.{tabulate}
use Rattle.integers.proofs.Machine.{length-tabulate, get_or-tabulate}

module _ {F B : Type 0} (g : Mut F (ℕ × Unit {0}) B) (f : F) (P : ℕ → B → Type 0) (ys : List B) where
  has-from : (i n : ℕ) → ((j : ℕ) (y : B) (q : F) → j < i + n → Called g f (j, tt) y q → (q ≡ f) × P j y) → IsFromFnResultFrom g f ys i n → (d : B) (k : ℕ) → i ≤ k → k < i + n → P k (get_or ys k d)
  has-from i zero calls r d k l u = absurd (omega arith)
  has-from i (suc n) calls r d k l u =
      let here = calls i r.1 r.0 (omega arith) r.3 in
      elim (dec_lt i k) [ yes b ↦ has-from (i + 1) n (λ j y q m. calls j y q (omega arith)) (subst (λ (q : F). IsFromFnResultFrom g q ys (i + 1) n) here.0 r.4) d k (omega arith) (omega arith) | no c ↦ first (omega (arith, c)) (r.2.1 d) here.1 ]
    where
      first : {y : B} → i ≡ k → get_or ys i d ≡ y → P i y → P k (get_or ys k d)
      first is at p = subst (λ (m : ℕ). P m (get_or ys m d)) is (subst (P i) (sym at) p)

  -- each element has what the calls give
  pub from_fn-has : {n : ℕ} → ((j : ℕ) (y : B) (q : F) → j < n → Called g f (j, tt) y q → (q ≡ f) × P j y) → IsFromFnResult g f ys n → (d : B) (k : ℕ) → k < n → P k (get_or ys k d)
  from_fn-has {n} calls r d k l = has-from 0 n (λ j y q m. calls j y q (omega arith)) r.each d k (omega arith) (omega arith)

module _ {F : Type 0} (g : Mut F (ℕ × Unit {0}) ℤ) (f : F) (h : ℕ → ℤ) (ys : List ℤ) where
  pub from_fn-tabulate : (n : ℕ) → IsFromFnResult g f ys n → ((j : ℕ) (y : ℤ) (q : F) → j < n → Called g f (j, tt) y q → (q ≡ f) × (y ≡ h j)) → ys ≡ tabulate n h
  from_fn-tabulate n r calls =
      ext_get_or (pos 0) ys (tabulate n h) (r.long ∙ sym (length-tabulate n h)) (λ k l. at k (subst (λ (m : ℕ). k < m) r.long l))
    where
      at : (k : ℕ) → k < n → get_or ys k (pos 0) ≡ get_or (tabulate n h) k (pos 0)
      at k l = from_fn-has g f (λ j y. y ≡ h j) ys calls r (pos 0) k l ∙ sym (get_or-tabulate n h k (pos 0) l)

module _ {F A : Type 0} (g : Mut F (A × Unit {0}) ℤ) (f : F) (h : A → ℤ) (d : A) (xs : List A) (ys : List ℤ) (calls : (x : A) (y : ℤ) (q : F) → Called g f (x, tt) y q → (q ≡ f) × (y ≡ h x)) where
  map-at : (i n : ℕ) → MapsFrom g f xs ys i n → (k : ℕ) → i ≤ k → k < i + n → get_or ys k (pos 0) ≡ h (get_or xs k d)
  map-at i zero r k l u = absurd (omega arith)
  map-at i (suc n) r k l u =
      let here = calls r.1 r.2 r.0 r.5 in
      elim (dec_lt i k) [ yes b ↦ map-at (i + 1) n (subst (λ (q : F). MapsFrom g q xs ys (i + 1) n) here.0 r.6) k (omega arith) (omega arith) | no c ↦ first here.1 r.3.1 r.4.1 (omega (arith, c)) ]
    where
      first : {x : A} {y : ℤ} → y ≡ h x → ((e : A) → get_or xs i e ≡ x) → ((e : ℤ) → get_or ys i e ≡ y) → k ≡ i → get_or ys k (pos 0) ≡ h (get_or xs k d)
      first e of at is = ap (λ (m : ℕ). get_or ys m (pos 0)) is ∙ at (pos 0) ∙ e ∙ ap h (sym (of d)) ∙ ap (λ (m : ℕ). h (get_or xs m d)) (sym is)

  pub map-tabulate : (n : ℕ) → IsMapOf g f xs ys n → ys ≡ tabulate n (λ i. h (get_or xs i d))
  map-tabulate n r =
      ext_get_or (pos 0) ys (tabulate n (λ i. h (get_or xs i d))) (r.long ∙ sym (length-tabulate n (λ i. h (get_or xs i d))))
      (λ k l. at k (subst (λ (m : ℕ). k < m) r.long l))
    where
      at : (k : ℕ) → k < n → get_or ys k (pos 0) ≡ get_or (tabulate n (λ i. h (get_or xs i d))) k (pos 0)
      at k l = map-at 0 n r.each k (omega arith) (omega arith) ∙ sym (get_or-tabulate n (λ i. h (get_or xs i d)) k (pos 0) l)
