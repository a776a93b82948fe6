-- A working direction as the code stores it: six elements of r and six of e, zero beyond n. In order: its elements; what the
-- stepping arithmetic tests of it, and the next one; a set's terms at it. Assumes nothing.
use mathlib.Core.Path.{◌≡◌, refl, sym, ap, ap₂, subst, ◌∙◌}
use mathlib.Core.Bool.{Bool, true, cond}
use mathlib.Core.List.{List}
use Prim.Native.Nat.{ℕ, ◌+◌, ◌*◌, ◌-◌, ◌≤◌, ◌<◌}
use native.Mathlib.Nat.{lt_of_lt_of_le}
use native.Mathlib.Decide.{dec_lt}
use native.Mathlib.Omega.{arith}
use lib.Dec.{T}
use lib.IntN.{ℤ, pos, nat_abs}
use lib.Signed.{non_neg}
use Rattle.std.specs.Prelude.{Option}
use Rattle.integers.specs.Sums.{vector, magnitudes, matrix, dot_ℕ, tabulate}
use Rattle.integers.proofs.Sums.{sum_ℕ-cong, sum_ℕ-beyond}
use Rattle.integers.proofs.Machine.{get_or-tabulate, tabulate-cong}
use Rattle.arrays.specs.Tests.{zero_outside}
use Rattle.stepping.specs.Limits.{growth_limit, error_limit}
use Rattle.stepping.specs.Recurrence.{next_r, next_e, growth_sum}
use Rattle.stepping.specs.Refusals.{dimension_ok, working_ok, step_ok, stepped_r, stepped_e, Steps}
use Rattle.stepping.proofs.Recurrence.{next_r-cong, next_e-cong, growth_sum-cong, value-le-limit, error-le-limit}
use Rattle.stepping.proofs.Working.{working-ok}
use Rattle.stepping.proofs.Beyond.{next_r-beyond, next_e-beyond}
use Rattle.reachability.specs.Sets.{points, support_of, reach_limit}
use Rattle.reachability.specs.Recurrence.{Working, next, error_at}
use Rattle.reachability.specs.SetsInner.{term_limit}
use Rattle.reachability.specs.WalkInner.{term_support, term_errors, TermsAsk, stored_reaches}
use Rattle.reachability.specs.declared.sets.Shape.{Shape}
use Rattle.reachability.proofs.sets.Bounds.{support_of-six, support_of-same}
use Rattle.reachability.proofs.sets.Facts.{SetFacts}
use Rattle.reachability.proofs.SmallTerms.{support-small}

pub record Stored (n : ℕ) (w : Working) (r e : List ℤ) : Type 0 where
  pub r-is : r ≡ tabulate 6 w.r
  pub e-is : e ≡ tabulate 6 (λ i. pos (w.e i))
  pub r-zero : (i : ℕ) → n ≤ i → i < 6 → w.r i ≡ pos 0
  pub e-zero : (i : ℕ) → n ≤ i → i < 6 → w.e i ≡ 0

module _ {n : ℕ} (n≤6 : n ≤ 6) {w : Working} {r e : List ℤ} (stored : Stored n w r e) where
  r-at : (i : ℕ) → i < 6 → vector r i ≡ w.r i
  r-at i h = ap (λ (l : List ℤ). vector l i) stored.r-is ∙ get_or-tabulate 6 w.r i (pos 0) h

  e-value : (i : ℕ) → i < 6 → vector e i ≡ pos (w.e i)
  e-value i h = ap (λ (l : List ℤ). vector l i) stored.e-is ∙ get_or-tabulate 6 (λ j. pos (w.e j)) i (pos 0) h

  e-at : (i : ℕ) → i < 6 → magnitudes e i ≡ w.e i
  e-at i h = ap nat_abs (e-value i h)

  inside : {i : ℕ} → i < n → i < 6
  inside h = lt_of_lt_of_le h n≤6

  -- ---- the stepping arithmetic

  pub sum-stored : growth_sum n (vector r) (magnitudes e) ≡ growth_sum n w.r w.e
  sum-stored = growth_sum-cong n (λ i h. r-at i (inside h)) (λ i h. e-at i (inside h))

  pub working-passes : dimension_ok n ≡ true → growth_sum n w.r w.e ≤ growth_limit → working_ok n r e ≡ true
  working-passes dimension in-limit =
      working-ok {r = r} {e = e} (record {
        dimension = dimension;
        zero-r = λ i l h. ap nat_abs (r-at i h ∙ stored.r-zero i l h);
        zero-e = λ i l h. e-at i h ∙ stored.e-zero i l h;
        natural = λ i h. ap non_neg (e-value i h);
        in-limit = subst (λ (s : ℕ). s ≤ growth_limit) (sym sum-stored) in-limit;
      })

  pub stored_next : (m : List ℤ) → zero_outside n n m ≡ true → step_ok n m r e ≡ true → {a : Option ℕ} {r' e' : List ℤ} → Steps n m r e a r' e' → Stored n (next n (matrix m) w) r' e'
  stored_next m around passes st =
      record {
        r-is = st.direction ∙ ap (λ (t : Bool). cond t (stepped_r n m r) r) passes ∙ tabulate-cong 6 (λ i h. r-same i);
        e-is = st.errors ∙ ap (λ (t : Bool). cond t (stepped_e n m r e) e) passes ∙ tabulate-cong 6 (λ i h. ap pos (e-same i));
        r-zero = next_r-beyond n n≤6 m around w.r;
        e-zero = next_e-beyond n n≤6 m around w.r w.e;
      }
    where
      r-same : (i : ℕ) → next_r n (matrix m) (vector r) i ≡ next_r n (matrix m) w.r i
      r-same = next_r-cong n {m = matrix m} {m' = matrix m} (λ p j l. refl) (λ p l. r-at p (inside l))

      e-same : (i : ℕ) → next_e n (matrix m) (vector r) (magnitudes e) i ≡ next_e n (matrix m) w.r w.e i
      e-same = next_e-cong n {m = matrix m} {m' = matrix m} (λ p j l. refl) (λ p l. r-at p (inside l)) (λ p l. e-at p (inside l))

  -- ---- a set's terms, below the growth limit: its support, the error term of a reach, and what both are asked for

  module _ (in-limit : growth_sum n w.r w.e ≤ growth_limit) where
    -- what holds below n holds of all six, since the rest is zero
    r_small : (i : ℕ) → i < 6 → nat_abs (vector r i) ≤ growth_limit
    r_small i h = subst (λ (z : ℤ). nat_abs z ≤ growth_limit) (sym (r-at i h)) (elim (dec_lt i n) [ yes l ↦ value-le-limit n w.r w.e in-limit i l | no f ↦ subst (λ (z : ℤ). nat_abs z ≤ growth_limit) (sym (stored.r-zero i (omega (arith, f)) h)) (omega arith) ])

    e-small : (i : ℕ) → i < 6 → nat_abs (vector e i) ≤ error_limit
    e-small i h = subst (λ (k : ℕ). k ≤ error_limit) (sym (e-at i h)) (elim (dec_lt i n) [ yes l ↦ error-le-limit n w.r w.e in-limit i l | no f ↦ subst (λ (k : ℕ). k ≤ error_limit) (sym (stored.e-zero i (omega (arith, f)) h)) (omega arith) ])

    module _ {shape : Shape} {count : ℕ} {xs : List ℤ} (facts : SetFacts n shape count xs) where
      pub support-stored : term_support shape count xs r ≡ support_of n shape count (points xs) w.r
      support-stored = support_of-six n n≤6 count xs facts.outside shape (vector r) ∙ support_of-same n shape count (points xs) (λ i h. r-at i (inside h))

    module _ {reach : ℕ → ℕ} (small : (i : ℕ) → i < 6 → reach i ≤ reach_limit) where
      abbrev reaches : List ℤ
      reaches = stored_reaches reach

      reach-at : (i : ℕ) → i < 6 → vector reaches i ≡ pos (reach i)
      reach-at i h = get_or-tabulate 6 (λ j. pos (reach j)) i (pos 0) h

      pub errors-stored : term_errors e reaches ≡ error_at n reach w
      errors-stored =
          ap (λ (m : ℕ). dot_ℕ m (magnitudes e) (magnitudes reaches)) (sym (six n n≤6))
          ∙ sum_ℕ-beyond n (6 - n) (λ i. magnitudes e i * magnitudes reaches i) (λ i l h. ap (λ (k : ℕ). k * magnitudes reaches i) (e-at i (below i h) ∙ stored.e-zero i l (below i h)) ∙ zero-times (magnitudes reaches i))
          ∙ sum_ℕ-cong n (λ i h. ap₂ ◌*◌ (e-at i (inside h)) (ap nat_abs (reach-at i (inside h))))
        where
          six : (n : ℕ) → n ≤ 6 → n + (6 - n) ≡ 6
          six n h = omega arith

          below : (i : ℕ) → i < n + (6 - n) → i < 6
          below i h = subst (λ (k : ℕ). i < k) (six n n≤6) h

          zero-times : (k : ℕ) → 0 * k ≡ 0
          zero-times k = omega arith

      pub terms-ask : {shape : Shape} {count : ℕ} {xs : List ℤ} → SetFacts n shape count xs → TermsAsk shape count xs reaches r e
      terms-ask facts =
          record {
            counted = facts.counted;
            tested = record { coordinates = facts.coordinates; values = r_small };
            errors = record {
              natural = λ i h. subst (λ (z : ℤ). T (non_neg z)) (sym (e-value i h)) tt;
              small = e-small;
              reach-natural = λ i h. subst (λ (z : ℤ). T (non_neg z)) (sym (reach-at i h)) tt;
              reach-small = λ i h. subst (λ (z : ℤ). nat_abs z ≤ reach_limit) (sym (reach-at i h)) (small i h);
            };
            support-small = subst (λ (z : ℤ). nat_abs z ≤ term_limit) (sym (support-stored facts)) (support-small n≤6 w in-limit facts);
          }
