-- The law of a set that is moved by a vector: from the laws of a set follow those of its points with v added to each, whose support
-- at r is the set's and r · v, and whose reach is at most the set's and |v|. Assumes nothing.
use mathlib.Core.Path.{◌≡◌, refl, ap, ap₂, subst, sym, ◌∙◌}
use Prim.Native.Nat.{ℕ, ◌+◌, ◌*◌, ◌≤◌, ◌<◌}
use native.Mathlib.Omega.{arith}
use lib.IntN.{ℤ, pos, nat_abs, ◌+ℤ◌, ◌*ℤ◌}
use Rattle.integers.specs.Whole.{◌⩽◌}
use Rattle.integers.specs.Sums.{dot}
use Rattle.integers.proofs.SignedParts.{v, #, ◌⊕◌, ◌⊗◌, eq! }
use Rattle.integers.proofs.Order.{⩽-of-eq, ⩽-trans, ⩽-add, ⩽-refl, nat_abs-add, nat_abs_mul}
use Rattle.integers.proofs.Sums.{dot-add, dot-scale}
use Rattle.reachability.proofs.sets.Laws.{SetLaws}

-- y, in q-ths, is a point of the set with `by` added.
pub record Shifted (member : ℕ → (ℕ → ℤ) → Type 0) (by : ℕ → ℤ) (q : ℕ) (y : ℕ → ℤ) : Type 0 where
  pub point : ℕ → ℤ
  pub inside : member q point
  pub is : y ≡ (λ i. point i +ℤ pos q *ℤ by i)

module _ {n : ℕ} {member : ℕ → (ℕ → ℤ) → Type 0} {support : (ℕ → ℤ) → ℤ} {reach : ℕ → ℕ} (laws : SetLaws n member support reach) (by : ℕ → ℤ) where
  -- r · (x + q × by)
  dot-shifted : (q : ℕ) (r x : ℕ → ℤ) → dot n r (λ i. x i +ℤ pos q *ℤ by i) ≡ dot n r x +ℤ pos q *ℤ dot n r by
  dot-shifted q r x = dot-add n r x (λ i. pos q *ℤ by i) ∙ ap (λ (z : ℤ). dot n r x +ℤ z) (dot-scale n (pos q) r by)

  above : (q : ℕ) (y : ℕ → ℤ) → Shifted member by q y → (r : ℕ → ℤ) → dot n r y ⩽ pos q *ℤ (support r +ℤ dot n r by)
  above q y s r =
      ⩽-trans (⩽-of-eq (ap (dot n r) s.is ∙ dot-shifted q r s.point))
      (⩽-trans (⩽-add (laws.above q s.point s.inside r) (⩽-refl (pos q *ℤ dot n r by)))
      (⩽-of-eq (eq! (# q ⊗ v (support r) ⊕ # q ⊗ v (dot n r by)) (# q ⊗ (v (support r) ⊕ v (dot n r by))) (omega arith))))

  attained : (r : ℕ → ℤ) → (y : ℕ → ℤ) × Shifted member by 1 y × (dot n r y ≡ support r +ℤ dot n r by)
  attained r =
      let a = laws.attained r in (
        (λ i. a.0 i +ℤ pos 1 *ℤ by i),
        record { point = a.0; inside = a.1; is = refl },
        dot-shifted 1 r a.0 ∙ ap₂ ◌+ℤ◌ a.2 (eq! (# 1 ⊗ v (dot n r by)) (v (dot n r by)) (omega arith)),
      )

  within : (q : ℕ) (y : ℕ → ℤ) → Shifted member by q y → (i : ℕ) → i < n → nat_abs (y i) ≤ q * (reach i + nat_abs (by i))
  within q y s i h =
      subst (λ (f : ℕ → ℤ). nat_abs (f i) ≤ q * (reach i + nat_abs (by i))) (sym s.is)
      (together (reach i) (nat_abs (by i)) (nat_abs-add (s.point i) (pos q *ℤ by i)) (laws.within q s.point s.inside i h) (nat_abs_mul (pos q) (by i)))
    where
      together : (r w : ℕ) {a b c : ℕ} → a ≤ b + c → b ≤ q * r → c ≡ q * w → a ≤ q * (r + w)
      together r w p l e = omega arith

  pub shifted-laws : SetLaws n (Shifted member by) (λ r. support r +ℤ dot n r by) (λ i. reach i + nat_abs (by i))
  shifted-laws = record { above = above; attained = attained; within = within }
