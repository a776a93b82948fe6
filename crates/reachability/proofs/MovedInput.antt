-- Runs 10: the model without a drift whose input set is moved by the drift has the same states: of every run of the one there is a run
-- of the other. Assumes nothing.
use mathlib.Core.Path.{◌≡◌, sym, ap, ap₂, subst, fun_ext, ◌∙◌}
use mathlib.Core.Bool.{true, ◌&&◌}
use Prim.Native.Nat.{ℕ, ◌+◌, ◌*◌, ◌≤◌}
use native.Mathlib.Nat.{add-zero}
use native.Mathlib.Omega.{arith}
use borrow.Author.Tests.{le-leb}
use lib.Dec.{leb}
use lib.ListN.{replicate}
use lib.IntN.{ℤ, pos, nat_abs, ◌+ℤ◌, ◌-ℤ◌, ◌*ℤ◌}
use Rattle.integers.specs.Whole.{◌⩽◌}
use Rattle.integers.specs.Sums.{vector}
use Rattle.integers.proofs.SignedParts.{v, #, ◌⊕◌, ◌⊖◌, ◌⊗◌, eq! }
use Rattle.integers.proofs.Sums.{sum-cong, all_below-intro}
use Rattle.integers.proofs.Machine.{get_or-replicate-default}
use Rattle.arrays.proofs.Tests.{zero_outside-of}
use Rattle.reachability.specs.Sets.{points, reach_of, reach_limit}
use Rattle.reachability.specs.Entering.{entering_reach}
use Rattle.reachability.specs.Moved.{moved_set}
use Rattle.reachability.specs.MovedInput.{moved_model, MovedAgrees}
use Rattle.reachability.specs.Limits.{accepted, drift_accepted}
use Rattle.reachability.specs.Runs.{moves, InSet, Run, entering, state, value, Largest}
use Rattle.reachability.specs.SweepInner.{input_points}
use Rattle.reachability.specs.declared.model.Model.{Model}
use Rattle.reachability.proofs.sets.Moved.{member-moved, member_back}
use Rattle.reachability.proofs.model.Facts.{ModelFacts, accepted-parts, accepted-of, model-facts}
use Rattle.reachability.proofs.Walks.{state-same}

-- no drift adds nothing
nothing : (x : ℤ) (q i : ℕ) → x +ℤ pos q *ℤ vector (replicate 6 (pos 0)) i ≡ x
nothing x q i = ap (λ (z : ℤ). x +ℤ pos q *ℤ z) (get_or-replicate-default 6 i (pos 0)) ∙ eq! (v x ⊕ # q ⊗ # 0) (v x) (omega arith)

back-again : (x y : ℤ) → (x -ℤ y) +ℤ y ≡ x
back-again x y = eq! ((v x ⊖ v y) ⊕ v y) (v x) (omega arith)

module _ (m : Model) (facts : ModelFacts m) where
  abbrev by : ℕ → ℤ
  by = vector m.drift

  abbrev p : ℕ → ℕ → ℤ
  p = points m.input.points

  abbrev p' : ℕ → ℕ → ℤ
  p' = points (input_points m)

  -- ---- a run of the moved model, whose inputs are what enters

  forth : {q : ℕ} → Run m q → Run (moved_model m) q
  forth {q} run =
      record {
        positive = run.positive;
        start = run.start;
        inputs = entering m run;
        starts = run.starts;
        permitted = λ j h. member-moved m.n m.input.count p p' by q m.input.shape facts.moved_by (run.inputs j) (run.permitted j h);
      }

  forth-state : {q : ℕ} (run : Run m q) (k i : ℕ) → state (moved_model m) (forth run) k i ≡ state m run k i
  unfolding forth
  forth-state {q} run k i =
      state-same m.n (moves m) run.start (entering (moved_model m) (forth run)) (entering m run) k (λ j h. fun_ext (λ i. nothing (entering m run j i) q i)) i

  -- ---- and back

  back : {q : ℕ} → Run (moved_model m) q → Run m q
  back {q} run =
      record {
        positive = run.positive;
        start = run.start;
        inputs = λ j i. run.inputs j i -ℤ pos q *ℤ by i;
        starts = run.starts;
        permitted = λ j h. member_back m.n m.input.count p p' by q m.input.shape facts.moved_by (λ i. run.inputs j i -ℤ pos q *ℤ by i) (subst (InSet m.n (moved_set m.input m.drift) q) (sym (fun_ext (λ i. back-again (run.inputs j i) (pos q *ℤ by i)))) (run.permitted j h));
      }

  back-state : {q : ℕ} (run : Run (moved_model m) q) (k i : ℕ) → state m (back run) k i ≡ state (moved_model m) run k i
  unfolding back
  back-state {q} run k i =
      state-same m.n (moves m) run.start (entering m (back run)) (entering (moved_model m) run) k (λ j h. fun_ext (λ i. back-again (run.inputs j i) (pos q *ℤ by i) ∙ sym (nothing (run.inputs j i) q i))) i

  -- ---- values

  forth-value : (x : ℕ → ℤ) {q : ℕ} (run : Run m q) (k : ℕ) → value (moved_model m) x (forth run) k ≡ value m x run k
  forth-value x run k = sum-cong m.n (λ i h. ap (λ (z : ℤ). x i *ℤ z) (forth-state run k i))

  back-value : (x : ℕ → ℤ) {q : ℕ} (run : Run (moved_model m) q) (k : ℕ) → value m x (back run) k ≡ value (moved_model m) x run k
  back-value x run k = sum-cong m.n (λ i h. ap (λ (z : ℤ). x i *ℤ z) (back-state run k i))

  largest-forth : (x : ℕ → ℤ) (k : ℕ) (v : ℤ) → Largest m x k v → Largest (moved_model m) x k v
  largest-forth x k y l =
      record {
        above = λ q run. subst (λ (z : ℤ). z ⩽ pos q *ℤ y) (back-value x run k) (l.above q (back run));
        attained = (l.attained.0, forth l.attained.1, forth-value x l.attained.1 k ∙ l.attained.2);
      }

  largest-back : (x : ℕ → ℤ) (k : ℕ) (v : ℤ) → Largest (moved_model m) x k v → Largest m x k v
  largest-back x k y l =
      record {
        above = λ q run. subst (λ (z : ℤ). z ⩽ pos q *ℤ y) (forth-value x run k) (l.above q (forth run));
        attained = (l.attained.0, back l.attained.1, back-value x l.attained.1 k ∙ l.attained.2);
      }

-- ---- it is accepted

accepted-moved : (m : Model) → accepted m ≡ true → accepted (moved_model m) ≡ true
accepted-moved m t =
    let facts = model-facts m t in
    let parts = accepted-parts m t in
    accepted-of (moved_model m) (record {
      motion = parts.motion;
      initial = parts.initial;
      input = facts.moved_ok;
      drift = still m facts;
      questions = parts.questions;
    })
  where
    zero-at : (i : ℕ) → vector (replicate 6 (pos 0)) i ≡ pos 0
    zero-at i = get_or-replicate-default 6 i (pos 0)

    still : (m : Model) → ModelFacts m → drift_accepted m.n (moved_set m.input m.drift) (replicate 6 (pos 0)) ≡ true
    still m facts =
        ap₂ ◌&&◌ (zero_outside-of 1 m.n (replicate 6 (pos 0)) (record { row = λ k i h l. zero-at (6 * k + i); column = λ k i h l. zero-at (6 * k + i) }))
        (all_below-intro 6 (λ i. leb (entering_reach m.input.shape m.input.count (input_points m) (replicate 6 (pos 0)) i) reach_limit)
        (λ i h. le-leb _ reach_limit (subst (λ (k : ℕ). k ≤ reach_limit) (sym (ap (λ (z : ℤ). reach_of m.input.shape m.input.count (points (input_points m)) i + nat_abs z) (zero-at i) ∙ add-zero _)) (facts.moved.reach-small.small i h))))

pub moved-agrees : (m : Model) → accepted m ≡ true → MovedAgrees m
moved-agrees m t =
    let facts = model-facts m t in
    record { accepts = accepted-moved m t; largest = largest-forth m facts; largest-back = largest-back m facts }
