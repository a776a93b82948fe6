-- X and Y (Calm 2) from the reaches that `reach` answers. In order: the reaches of an accepted set; the sum of the initial reaches, and
-- that of what enters; how large both are, and the limit with them. Assumes nothing.
use mathlib.Core.Path.{◌≡◌, sym, ap, ap₂, subst, ◌∙◌}
use mathlib.Core.Bool.{Bool, true, cond, ◌&&◌}
use mathlib.Core.List.{List}
use Rattle.std.specs.Prelude.{Option, Some, None, unwrap_or}
use Prim.Native.Nat.{ℕ, ◌+◌, ◌*◌, ◌-◌, ◌/◌, ◌≤◌, ◌<◌}
use native.Mathlib.Nat.{le_refl, le_trans, lt_of_lt_of_le, mul-le-mul}
use native.Mathlib.Omega.{arith}
use lib.IntN.{ℤ, pos, nat_abs}
use Rattle.integers.specs.Sums.{magnitudes, sum_ℕ, tabulate}
use Rattle.integers.proofs.Sums.{sum_ℕ-cong, sum_ℕ-bound}
use Rattle.integers.proofs.Machine.{get_or-tabulate}
use Rattle.stepping.specs.Refusals.{dimension_ok}
use Rattle.reachability.specs.Sets.{points, reach_of, reach_limit, ReachAnswer}
use Rattle.reachability.specs.Limits.{accepted, set_accepted}
use Rattle.reachability.specs.Recurrence.{initial_reach, entering_reach_of}
use Rattle.reachability.specs.declared.sets.Set.{Set}
use Rattle.reachability.specs.declared.model.Model.{Model}
use Rattle.reachability.proofs.model.Facts.{ModelFacts, model-facts, AcceptedParts, accepted-parts}
use Rattle.calm.specs.Calm.{initial_total, entering_total, limit_of}
use Rattle.calm.specs.Inner.{SmallReaches, SmallTotals}

-- what `reach` answers of a set that breaks no rule, number by number
reach-at : (n : ℕ) (s : Set) {a : Option (List ℤ)} → ReachAnswer n s a → dimension_ok n ≡ true → set_accepted n s ≡ true → (d : List ℤ) (i : ℕ) → i < 6 → magnitudes (unwrap_or a d) i ≡ reach_of s.shape s.count (points s.points) i
reach-at n s {a} r d t xs i h =
    ap (λ (o : Option (List ℤ)). magnitudes (unwrap_or o xs) i) (r.answer ∙ ap (λ (b : Bool). cond b (Some (tabulate 6 (λ j. pos (reach_of s.shape s.count (points s.points) j)))) None) (ap₂ ◌&&◌ d t))
    ∙ ap nat_abs (get_or-tabulate 6 (λ j. pos (reach_of s.shape s.count (points s.points) j)) i (pos 0) h)

-- no drift
abbrev pub none : List ℤ
none = tabulate 6 (λ i. pos 0)

none-at : (i : ℕ) → i < 6 → magnitudes none i ≡ 0
none-at i h = ap nat_abs (get_or-tabulate 6 (λ j. pos 0) i (pos 0) h)

module _ (m : Model) (ok : accepted m ≡ true) where
  facts : ModelFacts m
  facts = model-facts m ok

  parts : AcceptedParts m
  parts = accepted-parts m ok

  below : (i : ℕ) → i < m.n → i < 6
  below i h = lt_of_lt_of_le h facts.n-most

  -- ---- the initial set

  module _ {o : Option (List ℤ)} (a : ReachAnswer m.n m.initial o) (d : List ℤ) where
    abbrev reaches : List ℤ
    reaches = unwrap_or o d

    initial-at : (i : ℕ) → i < 6 → magnitudes reaches i + magnitudes none i ≡ initial_reach m i
    initial-at i h = ap₂ ◌+◌ (reach-at m.n m.initial a facts.dimension parts.initial d i h) (none-at i h) ∙ plus-zero (initial_reach m i)
      where
        plus-zero : (x : ℕ) → x + 0 ≡ x
        plus-zero x = omega arith

    pub initial-small : SmallReaches m.n reaches none
    initial-small = record { most = facts.n-most; small = λ i h. subst (λ (x : ℕ). x ≤ reach_limit) (sym (initial-at i h)) (facts.initial.reach-small.small i h) }

    pub initial-is : sum_ℕ m.n (λ i. magnitudes reaches i + magnitudes none i) ≡ initial_total m
    initial-is = sum_ℕ-cong m.n (λ i h. initial-at i (below i h))

  -- ---- what enters

  module _ {o : Option (List ℤ)} (a : ReachAnswer m.n m.input o) (d : List ℤ) where
    abbrev reached : List ℤ
    reached = unwrap_or o d

    entering-at : (i : ℕ) → i < 6 → magnitudes reached i + magnitudes m.drift i ≡ entering_reach_of m i
    entering-at i h = ap (λ (x : ℕ). x + magnitudes m.drift i) (reach-at m.n m.input a facts.dimension parts.input d i h)

    pub entering-small : SmallReaches m.n reached m.drift
    entering-small = record { most = facts.n-most; small = λ i h. subst (λ (x : ℕ). x ≤ reach_limit) (sym (entering-at i h)) (facts.entering.small i h) }

    pub entering-is : sum_ℕ m.n (λ i. magnitudes reached i + magnitudes m.drift i) ≡ entering_total m
    entering-is = sum_ℕ-cong m.n (λ i h. entering-at i (below i h))

  -- ---- how large the sums are

  pub small-totals : {x y : ℕ} → x ≡ initial_total m → y ≡ entering_total m → SmallTotals x y
  small-totals p q =
      record {
        initial = six p (sum_ℕ-bound m.n reach_limit (λ i h. facts.initial.reach-small.small i (below i h)));
        entering = six q (sum_ℕ-bound m.n reach_limit (λ i h. facts.entering.small i (below i h)));
      }
    where
      six : {x y : ℕ} → x ≡ y → y ≤ m.n * reach_limit → x ≤ 6 * reach_limit
      six e h = subst (λ (z : ℕ). z ≤ 6 * reach_limit) (sym e) (le_trans h (mul-le-mul facts.n-most (le_refl reach_limit)))

-- no limit is above 197,378, which sums of 6 × 1,048,576 have at step 256
pub limit-most : {x y k : ℕ} → SmallTotals x y → k ≤ 256 → limit_of x y k ≤ 197378
limit-most {x} {y} {k} small h =
    omega (arith, mul-le-mul {n₁ = k} {m₁ = x} h small.initial, mul-le-mul {n₁ = k * (k - 1) / 2} {m₁ = y} {n₂ = 32640} {m₂ = 6 * reach_limit} (halved (mul-le-mul {n₁ = k} {m₁ = k - 1} {n₂ = 256} {m₂ = 255} h (less h))) small.entering)
  where
    less : {k : ℕ} → k ≤ 256 → k - 1 ≤ 255
    less l = omega arith

    halved : {a : ℕ} → a ≤ 256 * 255 → a / 2 ≤ 32640
    halved l = omega arith
