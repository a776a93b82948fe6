-- A support point by point: what a loop over the points keeps, the figure of those passed (`PointByPoint`). In order: the products;
-- the loop; how large a zonotope's sum gets; one point more, as machine numbers. Assumes nothing.
use mathlib.Core.Path.{◌≡◌, refl, sym, ap, subst, ◌∙◌}
use mathlib.Core.List.{List}
use mathlib.Core.Logic.{◌⊎◌, inl, inr}
use Prim.Native.Nat.{ℕ, suc, ◌+◌, ◌*◌, ◌-◌, ◌≤◌, ◌<◌}
use native.Mathlib.Omega.{arith}
use lib.Dec.{lit<}
use lib.IntN.{ℤ, pos, nat_abs, ◌+ℤ◌}
use mir.Syntax.{w64}
use mir.Val.{SFits, to_z, of_z}
use mir.Facts.{to_z-of_z, to_z_pos}
use Rattle.std.specs.Int.{int_max}
use Rattle.std.proofs.lemmas.Int.{ints}
use Rattle.integers.specs.Sums.{vector, sum_ℕ, dot}
use Rattle.integers.proofs.Order.{nat_abs-add}
use Rattle.integers.proofs.Sums.{sum_ℕ-bound}
use Rattle.integers.proofs.Machine.{sfits-of-nat_abs}
use Rattle.reachability.specs.Sets.{points, larger, support_of}
use Rattle.reachability.specs.SetsInner.{Pointwise, Tested, term_limit}
use Rattle.reachability.specs.declared.sets.Shape.{Shape}
use Rattle.reachability.specs.declared.sets.Shape.TheVariants.{Box, Zonotope}
use Rattle.reachability.proofs.sets.Bounds.{dot-small}
use Rattle.reachability.proofs.sets.PointByPoint.{figure, with_one_more, figure-one, figure-more, support-figure}

-- r · point k
abbrev pub product : List ℤ → List ℤ → ℕ → ℤ
product xs r k = dot 6 (vector r) (points xs k)

-- ---- a loop over the points

pub record SupportSoFar (shape : Shape) (count : ℕ) (xs r : List ℤ) (k : ℕ) (s : ℤ) : Type 0 where
  pub some : 1 ≤ k
  pub inside : k ≤ count
  pub is : s ≡ figure shape k (product xs r)

pub support-first : {shape : Shape} {count : ℕ} {xs r : List ℤ} {s : ℤ} → 1 ≤ count → s ≡ product xs r 0 → SupportSoFar shape count xs r 1 s
support-first {shape} {count} {xs} {r} h e = record { some = omega arith; inside = h; is = e ∙ sym (figure-one shape (product xs r)) }

pub support-more : {shape : Shape} {count : ℕ} {xs r : List ℤ} {k : ℕ} {s t : ℤ} → SupportSoFar shape count xs r k s → k < count → t ≡ with_one_more shape s (product xs r k) → SupportSoFar shape count xs r (k + 1) t
support-more {shape} {count} {xs} {r} {k} so_far h e =
    record {
      some = omega arith;
      inside = omega arith;
      is = e ∙ ap (λ (z : ℤ). with_one_more shape z (product xs r k)) so_far.is ∙ sym (figure-more shape k {f = product xs r} {g = product xs r} so_far.some (λ j l. refl));
    }

pub support-done : {shape : Shape} {count : ℕ} {xs r : List ℤ} {k : ℕ} {s : ℤ} → Pointwise shape → SupportSoFar shape count xs r k s → count ≤ k → s ≡ support_of 6 shape count (points xs) (vector r)
support-done {shape} {count} {xs} {r} {k} w so_far h =
    so_far.is ∙ ap (λ (j : ℕ). figure shape j (product xs r)) (same so_far.inside) ∙ sym (support-figure 6 shape count (points xs) (vector r) w)
  where
    same : k ≤ count → k ≡ count
    same l = omega arith

-- ---- a zonotope of k tested points

pub zonotope-small : (xs r : List ℤ) (k : ℕ) → 1 ≤ k → Tested xs r → nat_abs (figure Zonotope k (product xs r)) ≤ k * term_limit
zonotope-small xs r k h t =
    omega (arith, nat_abs-add (product xs r 0) (pos (sum_ℕ (k - 1) (λ j. nat_abs (product xs r (suc j))))), dot-small xs r 0 t, sum_ℕ-bound (k - 1) term_limit {f = λ j. nat_abs (product xs r (suc j))} (λ j l. dot-small xs r (suc j) t))

-- ---- one point more, as the code has it

-- the larger of two, as the library has it
pub larger_max : (a b : ℤ) → int_max a b ≡ larger a b
larger_max a b = grind (arith, ints)

-- a shape of this kind that is no vertex list
pub zonotope_of : (shape : Shape) → Pointwise shape → (shape ≡ Box) ⊎ (shape ≡ Zonotope) → shape ≡ Zonotope
zonotope_of shape w (inl e) = absurd (subst Pointwise e w)
zonotope_of shape w (inr e) = e

-- a zonotope's figure so far, and the magnitude m of one product more; the range of a sum is that of any number of such a size
pub record MagnitudeAdded (s : ℤ) (m : ℕ) : Type 0 where
  pub fits : SFits w64 (pos m)
  pub sum-fits : (x : ℤ) → nat_abs x ≤ term_limit → SFits w64 (s +ℤ x)
  pub small : m ≤ term_limit
  pub read : to_z w64 m ≡ pos m
  pub is : to_z w64 (of_z w64 (s +ℤ to_z w64 m)) ≡ s +ℤ pos m

pub magnitude-added : {shape : Shape} {count : ℕ} {xs r : List ℤ} {k : ℕ} {s : ℤ} {m : ℕ} → SupportSoFar shape count xs r k s → shape ≡ Zonotope → Tested xs r → count ≤ 16 → m ≡ nat_abs (product xs r k) → MagnitudeAdded s m
magnitude-added {shape} {count} {xs} {r} {k} {s} {m} so_far z t most e = record { fits = sfits-of-nat_abs w64 small (lit< tt); sum-fits = fit; small = small; read = read; is = ap (λ (x : ℤ). to_z w64 (of_z w64 (s +ℤ x))) read ∙ to_z-of_z (fit (pos m) small) }
  where
    small : m ≤ term_limit
    small = omega (arith, e, dot-small xs r k t)

    figure-is : s ≡ figure Zonotope k (product xs r)
    figure-is = so_far.is ∙ ap (λ (x : Shape). figure x k (product xs r)) z

    figure-small : nat_abs s ≤ k * term_limit
    figure-small = subst (λ (x : ℤ). nat_abs x ≤ k * term_limit) (sym figure-is) (zonotope-small xs r k so_far.some t)

    read : to_z w64 m ≡ pos m
    read = to_z_pos w64 {n = m} (omega (arith, small))

    fit : (x : ℤ) → nat_abs x ≤ term_limit → SFits w64 (s +ℤ x)
    fit x h = sfits-of-nat_abs w64 {b = 17 * term_limit} (omega (arith, nat_abs-add s x, figure-small, so_far.inside, most)) (lit< tt)
