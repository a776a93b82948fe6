-- The loop of a sweep, with no code in sight: what holds before each turn, that it holds at the start and after a turn, and what
-- its two ends give. Assumes nothing.
use mathlib.Core.Path.{◌≡◌, sym, ap, ap₂, subst, ◌∙◌}
use mathlib.Core.Bool.{Bool, false, cond}
use mathlib.Core.List.{List}
use Prim.Native.Nat.{ℕ, suc, ◌+◌, ◌-◌, ◌≤◌, ◌<◌, suc-le-suc}
use native.Mathlib.Nat.{le_trans, lt_of_le_of_lt}
use native.Mathlib.Numerals.{add-one}
use native.Mathlib.Omega.{arith}
use borrow.Author.Count.{below_none, below_more}
use borrow.Author.Tests.{lt-ltb, le-ltb, le-leb, lt-leb}
use lib.Dec.{leb}
use lib.ListN.{length, set}
use lib.IntN.{ℤ, pos}
use Rattle.std.specs.Prelude.{Ok, Err}
use Rattle.integers.specs.Sums.{vector, matrix, max_ℕ, tabulate}
use Rattle.integers.proofs.Sums.{max_ℕ-zero}
use Rattle.integers.proofs.Machine.{filled, filled_none, filled_more, get_or-filled}
use Rattle.stepping.specs.Limits.{growth_limit}
use Rattle.reachability.specs.Motion.{matrix_at}
use Rattle.reachability.specs.Runs.{moves, direction}
use Rattle.reachability.specs.Recurrence.{Working, next, working, sum_at, grows_at, growth_step, initial_reach, entering_reach_of, bound, slack}
use Rattle.reachability.specs.WalkInner.{stored_reaches, WalkAsks, Begins, Backs, Ends}
use Rattle.reachability.specs.SweepInner.{Fills, moved_input}
use Rattle.reachability.specs.declared.refusals.CallRefusal.TheVariants.{Growth}
use Rattle.reachability.specs.declared.sets.Set.{Set}
use Rattle.reachability.specs.declared.walk.Walk.{Walk}
use Rattle.reachability.specs.declared.model.Model.{Model}
use Rattle.reachability.proofs.FirstPlace.{first_place-is, first_place-none}
use Rattle.reachability.proofs.OneMatrix.{one-matrix, working-same, sum-last}
use Rattle.reachability.proofs.model.Facts.{ModelFacts}
use Rattle.reachability.proofs.walk.Held.{working-start, working-back, Held, held-begin, held_back, bound-is, slack-is}

-- Steps 0 to k - 1 have no growth and stand in the rows; the walk of step k is at its end.
pub record SweptSoFar (m : Model) (d : ℕ) (b₀ s₀ : List ℤ) (w : Walk) (b s : List ℤ) (largest k : ℕ) : Type 0 where
  pub held : Held m (working m d k) k w
  pub in-limit : (j : ℕ) → j < k → grows_at m d j ≡ false
  pub largest-is : largest ≡ max_ℕ k (sum_at m d)
  pub bounds-are : b ≡ filled (bound m d) k b₀
  pub slacks-are : s ≡ filled (λ j. pos (slack m d j)) k s₀

pub swept_none : (m : Model) (facts : ModelFacts m) (d : ℕ) (b₀ s₀ : List ℤ) {w : Walk} → Begins m.n (tabulate 6 (direction m d)) w → SweptSoFar m d b₀ s₀ w b₀ s₀ 0 0
swept_none m facts d b₀ s₀ b =
    record {
      held = held-begin m facts (working m d 0) d (working-start m d 0) b;
      in-limit = below_none (λ j. grows_at m d j ≡ false);
      largest-is = sym (max_ℕ-zero (sum_at m d));
      bounds-are = sym (filled_none (bound m d) b₀);
      slacks-are = sym (filled_none (λ j. pos (slack m d j)) s₀);
    }

module _ (m : Model) (facts : ModelFacts m) (d : ℕ) {b₀ s₀ b s : List ℤ} {w : Walk} {largest k : ℕ} (so_far : SweptSoFar m d b₀ s₀ w b s largest k) where
  -- With one matrix the walk of step k is that of step k + 1 too, and its next move is move 0 of that.
  on-walk : Held m (working m d (k + 1)) k w
  on-walk = subst (λ (W : ℕ → Working). Held m W k w) (working-same m (one-matrix m) d k (k + 1)) so_far.held

  next-move : working m d (k + 1) (suc k) ≡ next m.n (matrix (matrix_at m.motion 0)) (working m d (k + 1) k)
  next-move = working-back m d (k + 1) k ∙ ap (λ (t : ℕ). next m.n (moves m t) (working m d (k + 1) k)) (last k)
    where
      last : (k : ℕ) → k + 1 - suc k ≡ 0
      last k = omega arith

  pub swept-more : k ≤ m.steps → w.largest ≤ growth_limit → {bv sv : ℤ} → Ends m.initial (stored_reaches (initial_reach m)) w bv sv → 257 ≡ length b₀ → 257 ≡ length s₀ → {w' : Walk} → Backs (matrix_at m.motion 0) (moved_input m) (stored_reaches (entering_reach_of m)) w w' → SweptSoFar m d b₀ s₀ w' (set b k bv) (set s k sv) w.largest (k + 1)
  swept-more inside small ends long-b long-s backs =
      let in-limit = subst (λ (x : ℕ). x ≤ growth_limit) so_far.held.largest-is small in
      let short : k < 257 = suc-le-suc (le_trans inside facts.steps-most) in
      record {
        held = held_back m facts (working m d (k + 1)) on-walk inside small (facts.move-passes 0) next-move backs;
        in-limit = below_more (λ j. grows_at m d j ≡ false) k so_far.in-limit (le-ltb growth_limit (sum_at m d k) in-limit);
        largest-is = so_far.held.largest-is ∙ sym (ap (λ (j : ℕ). max_ℕ j (sum_at m d)) (add-one k) ∙ sum-last m (one-matrix m) d k);
        bounds-are = ap₂ (λ l (z : ℤ). set l k z) so_far.bounds-are (bound-is m facts d so_far.held inside small ends) ∙ filled_more (bound m d) k b₀ (subst (λ (j : ℕ). k < j) long-b short);
        slacks-are = ap₂ (λ l (z : ℤ). set l k z) so_far.slacks-are (slack-is m facts d so_far.held inside small ends) ∙ filled_more (λ j. pos (slack m d j)) k s₀ (subst (λ (j : ℕ). k < j) long-s short);
      }

  -- ---- its two ends

  pub grown-fills : k ≤ m.steps → growth_limit < w.largest → Fills m d (Err (Growth k)) b s
  grown-fills inside grown =
      record {
        answer = sym (ap (λ (g : ℕ). cond (leb g m.steps) (Err (Growth g)) (Ok (max_ℕ (suc m.steps) (sum_at m d)))) at-growth ∙ ap (λ (t : Bool). cond t (Err (Growth k)) (Ok (max_ℕ (suc m.steps) (sum_at m d)))) (le-leb k m.steps inside));
        bounds = λ beyond. absurd (never beyond);
        slacks = λ beyond. absurd (never beyond);
      }
    where
      at-growth : growth_step m d ≡ k
      at-growth = first_place-is (suc m.steps) (grows_at m d) k (suc-le-suc inside) (lt-ltb growth_limit (sum_at m d k) (subst (λ (x : ℕ). growth_limit < x) so_far.held.largest-is grown)) so_far.in-limit

      never : m.steps < growth_step m d → ⊥
      never beyond = omega (arith, at-growth, beyond, inside)

  pub whole-fills : m.steps < k → Fills m d (Ok largest) b s
  whole-fills h =
      record {
        answer = ap Ok (so_far.largest-is ∙ ap (λ (j : ℕ). max_ℕ j (sum_at m d)) done) ∙ sym (ap (λ (t : Bool). cond t (Err (Growth (growth_step m d))) (Ok (max_ℕ (suc m.steps) (sum_at m d)))) (lt-leb (growth_step m d) m.steps (beyond none)));
        bounds = λ beyond j l. ap (λ (xs : List ℤ). vector xs j) so_far.bounds-are ∙ get_or-filled (bound m d) k b₀ j (pos 0) (lt_of_le_of_lt l h);
        slacks = λ beyond j l. ap (λ (xs : List ℤ). vector xs j) so_far.slacks-are ∙ get_or-filled (λ i. pos (slack m d i)) k s₀ j (pos 0) (lt_of_le_of_lt l h);
      }
    where
      done : k ≡ suc m.steps
      done = omega (arith, so_far.held.entered-run.inside, h)

      none : growth_step m d ≡ suc m.steps
      none = first_place-none (suc m.steps) (grows_at m d) (λ j l. so_far.in-limit j (subst (λ (x : ℕ). j < x) (sym done) l))

      beyond : growth_step m d ≡ suc m.steps → m.steps < growth_step m d
      beyond e = omega (arith, e)

-- ---- a move by what the code was handed is one by the model's own

pub own-backs : (m : Model) {mat reaches : List ℤ} {input : Set} {w w' : Walk} → mat ≡ matrix_at m.motion 0 → input ≡ moved_input m → reaches ≡ stored_reaches (entering_reach_of m) → Backs mat input reaches w w' → Backs (matrix_at m.motion 0) (moved_input m) (stored_reaches (entering_reach_of m)) w w'
own-backs m {mat} {reaches} {input} {w} {w'} p q r b =
    subst (λ (x : List ℤ). Backs (matrix_at m.motion 0) (moved_input m) x w w') r
    (subst (λ (s : Set). Backs (matrix_at m.motion 0) s reaches w w') q
    (subst (λ (x : List ℤ). Backs x input reaches w w') p b))

pub own-asks : (m : Model) {reaches : List ℤ} {input : Set} {w : Walk} → input ≡ moved_input m → reaches ≡ stored_reaches (entering_reach_of m) → WalkAsks (moved_input m) (stored_reaches (entering_reach_of m)) w → WalkAsks input reaches w
own-asks m {reaches} {input} {w} q r a =
    subst (λ (x : List ℤ). WalkAsks input x w) (sym r)
    (subst (λ (s : Set). WalkAsks s (stored_reaches (entering_reach_of m)) w) (sym q) a)
