-- Report 2: figures of a direction that is multiplied by a whole number of at least 1 hold, divided by it, of the direction itself.
-- The runs are the same, since no direction has a part in them, and each value in the multiplied direction is the factor times the
-- value in the direction. So what the accuracy rule says of the multiplied model it says of the model. In order: facts of numbers;
-- runs and values; the exact largest values; verdicts; the rule. Assumes nothing.
use mathlib.Core.Path.{◌≡◌, sym, ap, subst, ◌∙◌}
use mathlib.Core.Bool.{true}
use mathlib.Core.List.{List}
use Prim.Native.Nat.{ℕ, zero, suc, ◌*◌, ◌^◌, ◌≤◌, ◌<◌}
use native.Mathlib.Omega.{arith}
use lib.IntN.{ℤ, pos, ◌*ℤ◌}
use Rattle.integers.specs.Whole.{◌⩽◌, Near}
use Rattle.integers.specs.Sums.{dot}
use Rattle.integers.proofs.SignedParts.{v, ◌⊗◌, eq!, le?}
use Rattle.integers.proofs.Order.{mul_ℤ-left-comm, ⩽-of-eq, ⩽-trans, ⩽-scale, ⩽-unscale}
use Rattle.integers.proofs.Sums.{sum-cong, sum-scale}
use Rattle.stepping.specs.Limits.{matrix_unit}
use Rattle.reachability.specs.Limits.{accepted}
use Rattle.reachability.specs.Runs.{Run, state, value, direction, denominator, Largest}
use Rattle.reachability.specs.Recurrence.{slack}
use Rattle.reachability.specs.Verdicts.{reaches, verdict}
use Rattle.reachability.specs.Accuracy.{ReachedBy, WithinSlackOf, VerdictHolds, AccuracyRule}
use Rattle.reachability.specs.declared.model.Model.{Model}
use Rattle.reachability.specs.declared.verdicts.Verdict.{Verdict}
use Rattle.reachability.specs.declared.verdicts.Verdict.TheVariants.{Hit, Unknown, Clear}
use Rattle.reachability.proofs.model.Facts.{model-facts}
use Rattle.reachability.proofs.VerdictLaws.{reaches-lower, reaches-scale, reaches-unscale}
use Rattle.reachability.proofs.AccuracyRule.{largest-there, accuracy-rule}
use Rattle.multiples.specs.Report.{with_entries, Multiplied, MultipleWithinSlackOf, MultipliedVerdictHolds, MultipliedRule}

-- ---- facts of numbers

dot-multiple : (n : ℕ) (c : ℤ) (a b x : ℕ → ℤ) → ((i : ℕ) → i < n → b i ≡ c *ℤ a i) → dot n b x ≡ c *ℤ dot n a x
dot-multiple n c a b x e =
    sum-cong n (λ i h. ap (λ (z : ℤ). z *ℤ x i) (e i h) ∙ eq! ((v c ⊗ v (a i)) ⊗ v (x i)) (v c ⊗ (v (a i) ⊗ v (x i))) (omega arith))
    ∙ sum-scale n c (λ i. a i *ℤ x i)

cancel : (q : ℕ) {a b : ℤ} → 1 ≤ q → pos q *ℤ a ⩽ pos q *ℤ b → a ⩽ b
cancel zero l h = absurd (omega arith)
cancel (suc q) l h = ⩽-unscale q h

antisym : (a b : ℤ) → a ⩽ b → b ⩽ a → a ≡ b
antisym a b h l = eq! (v a) (v b) (omega (arith, le? (v a) (v b) h, le? (v b) (v a) l))

module _ (m : Model) (entries levels : List ℤ) (d factor : ℕ) (least : 1 ≤ factor) (multiplied : Multiplied m entries d factor) where
  abbrev m' : Model
  m' = with_entries m entries levels

  -- ---- runs and values

  abbrev forth : {q : ℕ} → Run m q → Run m' q
  forth run = record { positive = run.positive; start = run.start; inputs = run.inputs; starts = run.starts; permitted = run.permitted }

  abbrev back : {q : ℕ} → Run m' q → Run m q
  back run = record { positive = run.positive; start = run.start; inputs = run.inputs; starts = run.starts; permitted = run.permitted }

  -- the value of a run, and of the same run of the multiplied model
  abbrev own : {q : ℕ} → Run m q → ℕ → ℤ
  own run k = value m (direction m d) run k

  abbrev theirs : {q : ℕ} → Run m' q → ℕ → ℤ
  theirs run k = value m' (direction m' d) run k

  forth-value : {q : ℕ} (run : Run m q) (k : ℕ) → theirs (forth run) k ≡ pos factor *ℤ own run k
  forth-value run k = dot-multiple m.n (pos factor) (direction m d) (direction m' d) (state m run k) multiplied

  back-value : {q : ℕ} (run : Run m' q) (k : ℕ) → theirs run k ≡ pos factor *ℤ own (back run) k
  back-value run k = dot-multiple m.n (pos factor) (direction m d) (direction m' d) (state m' run k) multiplied

  -- ---- the exact largest values

  -- in the model's own direction, from the multiplied model, whose runs are the same
  largest-back : (k : ℕ) → (x : ℤ) × Largest m' (direction m d) k x → (x : ℤ) × Largest m (direction m d) k x
  largest-back k w =
      let l = w.1 in (
        w.0,
        record { above = λ q run. l.above q (forth run); attained = (l.attained.0, back l.attained.1, l.attained.2) },
      )

  largest-multiple : (k : ℕ) (x w : ℤ) → Largest m (direction m d) k x → Largest m' (direction m' d) k w → w ≡ pos factor *ℤ x
  largest-multiple k x w l l' = antisym w (pos factor *ℤ x) (at_most l'.attained.0 l'.attained.1 l'.attained.2) (at_least l.attained.0 l.attained.1 l.attained.2)
    where
      at_most : (q : ℕ) (run : Run m' q) → theirs run k ≡ pos q *ℤ w → w ⩽ pos factor *ℤ x
      at_most q run e =
          cancel q run.positive
          (⩽-trans (⩽-of-eq (sym e ∙ back-value run k))
          (⩽-trans (⩽-scale factor (l.above q (back run))) (⩽-of-eq (mul_ℤ-left-comm (pos factor) (pos q) x))))

      at_least : (q : ℕ) (run : Run m q) → own run k ≡ pos q *ℤ x → pos factor *ℤ x ⩽ w
      at_least q run e =
          cancel q run.positive
          (⩽-trans (⩽-of-eq (mul_ℤ-left-comm (pos q) (pos factor) x ∙ ap (λ (z : ℤ). pos factor *ℤ z) (sym e) ∙ sym (forth-value run k)))
          (l'.above q (forth run)))

  -- ---- verdicts

  module _ (level : ℤ) where
    reached-back : (k : ℕ) → ReachedBy m' d (pos factor *ℤ level) k → ReachedBy m d level k
    reached-back k w =
        record {
          q = w.q;
          run = back w.run;
          there = reaches-unscale factor (pos (denominator w.q k) *ℤ level) (own (back w.run) k) (subst (λ (z : ℤ). reaches z (pos factor *ℤ own (back w.run) k) ≡ true) (mul_ℤ-left-comm (pos (denominator w.q k)) (pos factor) level) (subst (λ (z : ℤ). reaches (pos (denominator w.q k) *ℤ (pos factor *ℤ level)) z ≡ true) (back-value w.run k) w.there));
        }

    reached-forth : (k : ℕ) → ReachedBy m d level k → ReachedBy m' d (pos factor *ℤ level) k
    reached-forth k w =
        record {
          q = w.q;
          run = forth w.run;
          there = subst (λ (z : ℤ). reaches (pos (denominator w.q k) *ℤ (pos factor *ℤ level)) z ≡ true) (sym (forth-value w.run k)) (subst (λ (z : ℤ). reaches z (pos factor *ℤ own w.run k) ≡ true) (mul_ℤ-left-comm (pos factor) (pos (denominator w.q k)) level) (reaches-scale factor (pos (denominator w.q k) *ℤ level) (own w.run k) least w.there));
        }

    -- a lower level is reached where a higher one is
    reached-lower : (k : ℕ) (lower higher : ℤ) → lower ⩽ higher → ReachedBy m' d higher k → ReachedBy m' d lower k
    reached-lower k lower higher h w =
        record {
          q = w.q;
          run = w.run;
          there = reaches-lower (pos (denominator w.q k) *ℤ lower) (pos (denominator w.q k) *ℤ higher) (theirs w.run k) (⩽-scale (denominator w.q k) h) w.there;
        }

    within-back : (k s : ℕ) → (x : ℤ) × Largest m (direction m d) k x → WithinSlackOf m' d (pos factor *ℤ level) k (pos s) → MultipleWithinSlackOf m d factor level k s
    within-back k s x w =
        record {
          exact = x.0;
          largest = x.1;
          near = subst (λ (z : ℤ). Near z (pos (matrix_unit ^ k) *ℤ (pos factor *ℤ level)) (matrix_unit ^ k * s)) (largest-multiple k x.0 w.exact x.1 w.largest) w.near;
        }

    verdict-back : ((k : ℕ) → k ≤ m.steps → (x : ℤ) × Largest m (direction m d) k x) → (judged : ℤ) (a : Verdict) → VerdictHolds m' d judged (λ k. pos (slack m' d k)) a → MultipliedVerdictHolds m d factor level judged (slack m' d) a
    verdict-back there judged (Hit k) h = λ low. (h.0, reached-back k (reached-lower k (pos factor *ℤ level) judged low h.1))
    verdict-back there judged (Unknown k) h = λ same. (h.0, within-back k (slack m' d k) (there k h.0) (subst (λ (z : ℤ). WithinSlackOf m' d z k (pos (slack m' d k))) same h.1))
    verdict-back there judged Clear h = λ high k l w. h k l (reached-lower k judged (pos factor *ℤ level) high (reached-forth k w))

  -- ---- the rule

  rule-back : ((k : ℕ) → k ≤ m.steps → (x : ℤ) × Largest m (direction m d) k x) → AccuracyRule m' → MultipliedRule m m' d factor
  rule-back there rule =
      let here = rule.accurate d in
      record {
        bounds = λ k h q run. ⩽-trans (⩽-of-eq (sym (forth-value run k))) (here.bounds k h q (forth run));
        slacks = λ k h. let w = here.slacks k h in record { q = w.q; run = back w.run; within = ⩽-trans w.within (⩽-of-eq (back-value w.run k)) };
        verdicts = λ level judged. verdict-back level there judged (verdict m' d judged) (rule.verdicts d judged);
      }

-- Report 2: of any model, where the one with the multiplied direction is accepted. What that one has in its other directions and as
-- levels doesn't matter.
pub multiplied-rule : (m : Model) (entries levels : List ℤ) (d factor : ℕ) → 1 ≤ factor → Multiplied m entries d factor → accepted (with_entries m entries levels) ≡ true → MultipliedRule m (with_entries m entries levels) d factor
multiplied-rule m entries levels d factor least multiplied ok =
    rule-back m entries levels d factor least multiplied
    (λ k h. largest-back m entries levels d factor least multiplied k (largest-there (with_entries m entries levels) (model-facts (with_entries m entries levels) ok) (direction m d) k h))
    (accuracy-rule (with_entries m entries levels) ok)
