-- What lies beyond n is zero, so the loops, which run to six, give what the definitions, which run to n, say.
-- In order: the growth sum; one step; a working direction's six coordinates within their limits; a step that is taken with six
-- for n. Assumes nothing.
use mathlib.Core.Path.{◌≡◌, refl, sym, ap, ap₂, subst, ◌∙◌}
use mathlib.Core.Bool.{Bool, true, cond, ◌&&◌}
use mathlib.Core.List.{List}
use Rattle.std.specs.Prelude.{Option, Some, None}
use Prim.Native.Nat.{ℕ, ◌+◌, ◌*◌, ◌-◌, ◌≤◌, ◌<◌}
use native.Mathlib.Omega.{arith}
use lib.IntN.{ℤ, pos, neg_ℤ, nat_abs, ◌*ℤ◌, zero-*ℤ}
use Rattle.integers.specs.Whole.{nearest_div, ceil_div_ℕ, fraction}
use Rattle.integers.specs.Sums.{vector, magnitudes, matrix, transposed, tabulate}
use Rattle.integers.proofs.Sums.{sum-cong, sum-none, sum-beyond, sum_ℕ-cong, sum_ℕ-none, sum_ℕ-beyond, max_ℕ-beyond}
use Rattle.integers.proofs.Machine.{tabulate-cong, get_or-tabulate}
use Rattle.arrays.specs.Tests.{all_between, zero_outside}
use Rattle.integers.proofs.Booleans.{and-true}
use Rattle.arrays.proofs.Tests.{zero_outside-row, zero_outside-column, zero_outside-wider}
use Rattle.stepping.specs.Limits.{matrix_unit, entry_limit, growth_limit, error_limit}
use Rattle.stepping.specs.Recurrence.{next_r, next_e, error_sum, half_up, growth_sum}
use Rattle.stepping.specs.Refusals.{matrix_ok, working_ok, step_ok, stepped_r, stepped_e, Steps}
use Rattle.stepping.proofs.Numbers.{steps}
use Rattle.stepping.proofs.Recurrence.{growth_sum-cong, value-le-limit, error-le-limit}
use Rattle.stepping.proofs.Working.{WorkingFacts, working-facts, working-ok, dimension-most}

zero-times : (k : ℕ) → 0 * k ≡ 0
zero-times k = omega arith

six : (n : ℕ) → n ≤ 6 → n + (6 - n) ≡ 6
six n h = omega arith

below-six : (n i : ℕ) → n ≤ 6 → i < n + (6 - n) → i < 6
below-six n i h k = omega arith

module _ (n : ℕ) (n≤6 : n ≤ 6) where
  pub growth_sum-six : (r : ℕ → ℤ) (e : ℕ → ℕ) → ((i : ℕ) → n ≤ i → i < 6 → nat_abs (r i) ≡ 0) → ((i : ℕ) → n ≤ i → i < 6 → e i ≡ 0) → growth_sum 6 r e ≡ growth_sum n r e
  growth_sum-six r e zr ze =
      ap (λ (k : ℕ). growth_sum k r e) (sym (six n n≤6))
      ∙ max_ℕ-beyond n (6 - n) (λ i. nat_abs (r i) + half_up (e i)) (λ i l h. ap₂ (λ (a b : ℕ). a + half_up b) (zr i l (below-six n i n≤6 h)) (ze i l (below-six n i n≤6 h)))

  module _ (m : List ℤ) (around : zero_outside n n m ≡ true) where
    transposed-six : (r : ℕ → ℤ) (i : ℕ) → i < 6 → transposed 6 (matrix m) r i ≡ transposed n (matrix m) r i
    transposed-six r i hi =
        ap (λ (k : ℕ). transposed k (matrix m) r i) (sym (six n n≤6))
        ∙ sum-beyond n (6 - n) (λ p. matrix m p i *ℤ r p) (λ p l h. ap (λ (z : ℤ). z *ℤ r p) (zero_outside-row n n m around p i hi l) ∙ zero-*ℤ (r p))

    error_sum-six : (e : ℕ → ℕ) (i : ℕ) → i < 6 → error_sum 6 (matrix m) e i ≡ error_sum n (matrix m) e i
    error_sum-six e i hi =
        ap (λ (k : ℕ). error_sum k (matrix m) e i) (sym (six n n≤6))
        ∙ sum_ℕ-beyond n (6 - n) (λ p. nat_abs (matrix m p i) * e p) (λ p l h. ap (λ (z : ℤ). nat_abs z * e p) (zero_outside-row n n m around p i hi l) ∙ zero-times (e p))

    next_r-six : (r : ℕ → ℤ) (i : ℕ) → i < 6 → next_r 6 (matrix m) r i ≡ next_r n (matrix m) r i
    next_r-six r i h = ap (λ (z : ℤ). nearest_div z matrix_unit) (transposed-six r i h)

    next_e-six : (r : ℕ → ℤ) (e : ℕ → ℕ) (i : ℕ) → i < 6 → next_e 6 (matrix m) r e i ≡ next_e n (matrix m) r e i
    next_e-six r e i h = ap₂ (λ (s : ℕ) (z : ℤ). ceil_div_ℕ s matrix_unit + fraction z matrix_unit) (error_sum-six e i h) (transposed-six r i h)

    pub stepped_r-six : (r : List ℤ) → tabulate 6 (next_r 6 (matrix m) (vector r)) ≡ stepped_r n m r
    stepped_r-six r = tabulate-cong 6 (next_r-six (vector r))

    pub stepped_e-six : (r e : List ℤ) → tabulate 6 (λ i. pos (next_e 6 (matrix m) (vector r) (magnitudes e) i)) ≡ stepped_e n m r e
    stepped_e-six r e = tabulate-cong 6 (λ i h. ap pos (next_e-six (vector r) (magnitudes e) i h))

    transposed-beyond : (r : ℕ → ℤ) (i : ℕ) → n ≤ i → i < 6 → transposed n (matrix m) r i ≡ pos 0
    transposed-beyond r i l h =
        sum-cong n (λ p hp. ap (λ (z : ℤ). z *ℤ r p) (zero_outside-column n n m around p i h l) ∙ zero-*ℤ (r p)) ∙ sum-none n

    error_sum-beyond : (e : ℕ → ℕ) (i : ℕ) → n ≤ i → i < 6 → error_sum n (matrix m) e i ≡ 0
    error_sum-beyond e i l h =
        sum_ℕ-cong n (λ p hp. ap (λ (z : ℤ). nat_abs z * e p) (zero_outside-column n n m around p i h l) ∙ zero-times (e p)) ∙ sum_ℕ-none n

    pub next_r-beyond : (r : ℕ → ℤ) (i : ℕ) → n ≤ i → i < 6 → next_r n (matrix m) r i ≡ pos 0
    next_r-beyond r i l h = ap (λ (z : ℤ). nearest_div z matrix_unit) (transposed-beyond r i l h)

    pub next_e-beyond : (r : ℕ → ℤ) (e : ℕ → ℕ) (i : ℕ) → n ≤ i → i < 6 → next_e n (matrix m) r e i ≡ 0
    next_e-beyond r e i l h = ap₂ (λ (s : ℕ) (z : ℤ). ceil_div_ℕ s matrix_unit + fraction z matrix_unit) (error_sum-beyond e i l h) (transposed-beyond r i l h)

    -- The growth sum of a stepped direction is that of its n coordinates.
    growth_sum-stepped : (r e : List ℤ) → growth_sum 6 (vector (stepped_r n m r)) (magnitudes (stepped_e n m r e)) ≡ growth_sum n (vector (stepped_r n m r)) (magnitudes (stepped_e n m r e))
    growth_sum-stepped r e =
        growth_sum-six (vector (stepped_r n m r)) (magnitudes (stepped_e n m r e))
        (λ i l h. ap nat_abs (get_or-tabulate 6 (next_r n (matrix m) (vector r)) i (pos 0) h ∙ next_r-beyond (vector r) i l h))
        (λ i l h. ap nat_abs (get_or-tabulate 6 (λ j. pos (next_e n (matrix m) (vector r) (magnitudes e) j)) i (pos 0) h) ∙ next_e-beyond (vector r) (magnitudes e) i l h)

    -- The same, where the six columns were made with six for n.
    pub growth_sum-advanced : (r e : List ℤ) → growth_sum 6 (next_r 6 (matrix m) (vector r)) (next_e 6 (matrix m) (vector r) (magnitudes e)) ≡ growth_sum n (vector (stepped_r n m r)) (magnitudes (stepped_e n m r e))
    growth_sum-advanced r e =
        growth_sum-cong 6
        (λ i h. next_r-six (vector r) i h ∙ sym (get_or-tabulate 6 (next_r n (matrix m) (vector r)) i (pos 0) h))
        (λ i h. next_e-six (vector r) (magnitudes e) i h ∙ sym (ap nat_abs (get_or-tabulate 6 (λ j. pos (next_e n (matrix m) (vector r) (magnitudes e) j)) i (pos 0) h)))
        ∙ growth_sum-stepped r e

-- ---- a working direction within its limits, all six coordinates

module _ (n : ℕ) (r e : List ℤ) (facts : WorkingFacts n r e) where
  pub in-limit-six : growth_sum 6 (vector r) (magnitudes e) ≤ growth_limit
  in-limit-six = subst (λ (s : ℕ). s ≤ growth_limit) (sym (growth_sum-six n (dimension-most facts.dimension) (vector r) (magnitudes e) facts.zero-r facts.zero-e)) facts.in-limit

  pub values-six : (i : ℕ) → i < 6 → nat_abs (vector r i) ≤ growth_limit
  values-six = value-le-limit 6 (vector r) (magnitudes e) in-limit-six

  pub errors-six : (i : ℕ) → i < 6 → magnitudes e i ≤ error_limit
  errors-six = error-le-limit 6 (vector r) (magnitudes e) in-limit-six

-- ---- a step of n coordinates may be taken with six

-- Where a step of n coordinates is not refused, a step that is told six coordinates does the same.
pub steps-six : (n : ℕ) (m r e : List ℤ) → step_ok n m r e ≡ true → {a : Option ℕ} {r' e' : List ℤ} → Steps 6 m r e a r' e' → Steps n m r e a r' e'
steps-six n m r e ok {a} {r'} {e'} st =
    let same = ap₂ (λ (x y : List ℤ). Some (growth_sum 6 (vector x) (magnitudes y))) in-r in_e ∙ ap Some (growth_sum-stepped n n≤6 m entries.1 r e) ∙ sym (ap₂ (λ (x y : List ℤ). Some (growth_sum n (vector x) (magnitudes y))) in-r in_e) in
    steps n m r e true ok a r' e' (st.answer ∙ ap (λ (t : Bool). cond t (Some (growth_sum 6 (vector r') (magnitudes e'))) None) six-ok ∙ same) in-r in_e
  where
    tests : (working_ok n r e ≡ true) × (matrix_ok n m ≡ true)
    tests = and-true (working_ok n r e) (matrix_ok n m) ok

    facts : WorkingFacts n r e
    facts = working-facts n r e tests.0

    n≤6 : n ≤ 6
    n≤6 = dimension-most facts.dimension

    entries : (all_between (neg_ℤ (pos entry_limit)) (pos entry_limit) m ≡ true) × (zero_outside n n m ≡ true)
    entries = and-true (all_between (neg_ℤ (pos entry_limit)) (pos entry_limit) m) (zero_outside n n m) tests.1

    six-facts : WorkingFacts 6 r e
    six-facts =
        record {
          dimension = refl;
          zero-r = λ i l h. absurd (omega arith);
          zero-e = λ i l h. absurd (omega arith);
          natural = facts.natural;
          in-limit = in-limit-six n r e facts;
        }

    six-ok : step_ok 6 m r e ≡ true
    six-ok = ap₂ ◌&&◌ (working-ok six-facts) (ap₂ ◌&&◌ entries.0 (zero_outside-wider m n≤6 entries.1))

    in-r : r' ≡ stepped_r n m r
    in-r = st.direction ∙ ap (λ (t : Bool). cond t (stepped_r 6 m r) r) six-ok ∙ stepped_r-six n n≤6 m entries.1 r

    in_e : e' ≡ stepped_e n m r e
    in_e = st.errors ∙ ap (λ (t : Bool). cond t (stepped_e 6 m r e) e) six-ok ∙ stepped_e-six n n≤6 m entries.1 r e
