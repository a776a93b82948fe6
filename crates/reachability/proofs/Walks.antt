-- The accuracy rule over a sequence of matrices, with no model and no code in sight: two sets known by their laws, moves, and a
-- direction of any size. In order: what errors say; the exact largest value `top`, which no run passes and a run attains; supports
-- of directions near each other; `top` near the sums that the recurrence adds up; those sums as the raw bound and slack have them.
-- Assumes nothing.
use mathlib.Core.Path.{◌≡◌, refl, sym, ap, ap₂, subst, ◌∙◌}
use mathlib.Core.Bool.{Bool, true, false, cond}
use Prim.Native.Nat.{ℕ, zero, suc, ◌+◌, ◌*◌, ◌-◌, ◌^◌, ◌≤◌, ◌<◌}
use native.Mathlib.Nat.{le_refl, pow-suc}
use native.Mathlib.Omega.{arith}
use borrow.Author.Tests.{lt-ltb, le-ltb}
use lib.Dec.{ltb}
use lib.IntN.{ℤ, pos, nat_abs, ◌+ℤ◌, ◌*ℤ◌}
use Rattle.integers.specs.Whole.{◌⩽◌, NearHalves}
use Rattle.integers.specs.Sums.{sum, sum_ℕ, dot, dot_ℕ, times, transposed}
use Rattle.integers.proofs.SignedParts.{v, #, ◌⊕◌, ◌⊗◌, eq!, le?, eq?, halves!, halves?}
use Rattle.integers.proofs.Order.{⩽-of-eq, ⩽-trans, ⩽-add, ⩽-scale, halves-add, halves-scale, halves-mono}
use Rattle.integers.proofs.Sums.{sum-cong, sum-zero, sum_first, sum_ℕ-zero, sum_ℕ-first, sum_ℕ-cong, sum_ℕ-scale, dot-times, dot-add, dot-scale, dot-cong, halves-dot}
use Rattle.stepping.specs.Limits.{matrix_unit}
use Rattle.stepping.specs.Recurrence.{Stands, first_r}
use Rattle.stepping.proofs.Stands.{stands-first, stands-step}
use Rattle.reachability.specs.Runs.{state_of}
use Rattle.reachability.specs.Recurrence.{Working, first, next, walk, unrounded}
use Rattle.reachability.proofs.sets.Laws.{SetLaws}

pub one-times : (z : ℤ) → pos 1 *ℤ z ≡ z
one-times z = eq! (# 1 ⊗ v z) (v z) (omega arith)

-- ---- what errors say

-- Recurrence 1: at every place of every walk, twice the distance of the working direction from the one without rounding is at most
-- its errors.
pub working-stands : (n : ℕ) (moves : ℕ → ℕ → ℕ → ℤ) (k : ℕ) (d : ℕ → ℤ) (j : ℕ) → Stands n (matrix_unit ^ j) (unrounded n moves k (first_r d) j) (walk n moves k (first d) j).r (walk n moves k (first d) j).e
unfolding walk unrounded
working-stands n moves k d zero = stands-first n d
working-stands n moves k d (suc j) =
    let w = walk n moves k (first d) j in
    let x = unrounded n moves k (first_r d) j in
    subst (λ (s : ℕ). Stands n s (transposed n (moves (k - suc j)) x) (next n (moves (k - suc j)) w).r (next n (moves (k - suc j)) w).e) (scaled j)
    (stands-step n (matrix_unit ^ j) (moves (k - suc j)) x w.r w.e (working-stands n moves k d j))
  where
    scaled : (j : ℕ) → matrix_unit * matrix_unit ^ j ≡ matrix_unit ^ suc j
    scaled j = turned (matrix_unit ^ j) ∙ sym (pow-suc matrix_unit j)
      where
        turned : (t : ℕ) → matrix_unit * t ≡ t * matrix_unit
        turned t = omega arith

-- ---- states

-- direction · next state
dot-next : (n : ℕ) (moves : ℕ → ℕ → ℕ → ℤ) (start : ℕ → ℤ) (inputs : ℕ → ℕ → ℤ) (k : ℕ) (r : ℕ → ℤ) → dot n r (state_of n moves start inputs (suc k)) ≡ dot n (transposed n (moves k) r) (state_of n moves start inputs k) +ℤ pos (matrix_unit ^ suc k) *ℤ dot n r (inputs k)
unfolding state_of
dot-next n moves start inputs k r =
    dot-add n r (times n (moves k) (state_of n moves start inputs k)) (λ i. pos (matrix_unit ^ suc k) *ℤ inputs k i)
    ∙ ap₂ ◌+ℤ◌ (dot-times n (moves k) r (state_of n moves start inputs k)) (dot-scale n (pos (matrix_unit ^ suc k)) r (inputs k))

-- a state looks only at what entered before it
pub state-same : (n : ℕ) (moves : ℕ → ℕ → ℕ → ℤ) (start : ℕ → ℤ) (u w : ℕ → ℕ → ℤ) (k : ℕ) → ((j : ℕ) → j < k → u j ≡ w j) → (i : ℕ) → state_of n moves start u k i ≡ state_of n moves start w k i
unfolding state_of
state-same n moves start u w zero e i = refl
state-same n moves start u w (suc k) e i =
    ap₂ ◌+ℤ◌ (sum-cong n (λ p h. ap (λ (z : ℤ). moves k i p *ℤ z) (state-same n moves start u w k (λ j l. e j (wider l)) p))) (ap (λ (f : ℕ → ℤ). pos (matrix_unit ^ suc k) *ℤ f i) (e k (le_refl (suc k))))
  where
    wider : {j : ℕ} → j < k → j < suc k
    wider l = omega arith

state-zero : (n : ℕ) (moves : ℕ → ℕ → ℕ → ℤ) (start : ℕ → ℤ) (u : ℕ → ℕ → ℤ) (i : ℕ) → state_of n moves start u 0 i ≡ start i
unfolding state_of
state-zero n moves start u i = refl

module _ (n : ℕ) (moves : ℕ → ℕ → ℕ → ℤ) {member_i member_u : ℕ → (ℕ → ℤ) → Type 0} {support_i support_u : (ℕ → ℤ) → ℤ} {reach_i reach_u : ℕ → ℕ} (laws_i : SetLaws n member_i support_i reach_i) (laws_u : SetLaws n member_u support_u reach_u) where
  -- ---- the exact largest value, in 1 / 65,536 ^ k

  pub top : ℕ → (ℕ → ℤ) → ℤ
  top zero x = support_i x
  top (suc k) x = top k (transposed n (moves k) x) +ℤ pos (matrix_unit ^ suc k) *ℤ support_u x

  pub value-le-top : (q : ℕ) (start : ℕ → ℤ) (inputs : ℕ → ℕ → ℤ) (k : ℕ) → member_i q start → ((j : ℕ) → j < k → member_u q (inputs j)) → (x : ℕ → ℤ) → dot n x (state_of n moves start inputs k) ⩽ pos q *ℤ top k x
  unfolding top
  value-le-top q start inputs zero s e x = ⩽-trans (⩽-of-eq (dot-cong n {a = x} {b = x} (λ i h. refl) (λ i h. state-zero n moves start inputs i))) (laws_i.above q start s x)
  value-le-top q start inputs (suc k) s e x =
      let before = value-le-top q start inputs k s (λ j l. e j (wider l)) (transposed n (moves k) x) in
      let here = ⩽-scale (matrix_unit ^ suc k) (laws_u.above q (inputs k) (e k (le_refl (suc k))) x) in
      ⩽-trans (⩽-of-eq (dot-next n moves start inputs k x))
      (⩽-trans (⩽-add before here)
      (⩽-of-eq (eq! (# q ⊗ v (top k (transposed n (moves k) x)) ⊕ # (matrix_unit ^ suc k) ⊗ (# q ⊗ v (support_u x))) (# q ⊗ (v (top k (transposed n (moves k) x)) ⊕ # (matrix_unit ^ suc k) ⊗ v (support_u x))) (omega arith))))
    where
      wider : {j : ℕ} → j < k → j < suc k
      wider l = omega arith

  -- A first state and inputs, with denominator 1, that attain it.
  pub record Attains (k : ℕ) (x : ℕ → ℤ) : Type 0 where
    pub start : ℕ → ℤ
    pub inputs : ℕ → ℕ → ℤ
    pub starts : member_i 1 start
    pub enters : (j : ℕ) → member_u 1 (inputs j)
    pub attains : dot n x (state_of n moves start inputs k) ≡ top k x

  pub attains : (k : ℕ) (x : ℕ → ℤ) → Attains k x
  unfolding top
  attains zero x =
      let p = laws_i.attained x in
      let u = laws_u.attained x in
      record {
        start = p.0;
        inputs = λ j. u.0;
        starts = p.1;
        enters = λ j. u.1;
        attains = dot-cong n {a = x} {b = x} (λ i h. refl) (λ i h. state-zero n moves p.0 (λ j. u.0) i) ∙ p.2;
      }
  attains (suc k) x = longer (attains k (transposed n (moves k) x)) (laws_u.attained x)
    where
      longer : Attains k (transposed n (moves k) x) → (u : ℕ → ℤ) × member_u 1 u × (dot n x u ≡ support_u x) → Attains (suc k) x
      longer w u =
          record {
            start = w.start;
            inputs = extended;
            starts = w.starts;
            enters = λ j. either (ltb j k) (w.inputs j) (w.enters j);
            attains = dot-next n moves w.start extended k x ∙ ap₂ ◌+ℤ◌ (dot-cong n {a = transposed n (moves k) x} {b = transposed n (moves k) x} (λ i h. refl) (λ i h. state-same n moves w.start extended w.inputs k before i) ∙ w.attains) (ap (λ (z : ℤ). pos (matrix_unit ^ suc k) *ℤ z) (ap (dot n x) here ∙ u.2));
          }
        where
          extended : ℕ → ℕ → ℤ
          extended j = cond (ltb j k) (w.inputs j) u.0

          before : (j : ℕ) → j < k → extended j ≡ w.inputs j
          before j l = ap (λ (b : Bool). cond b (w.inputs j) u.0) (lt-ltb j k l)

          here : extended k ≡ u.0
          here = ap (λ (b : Bool). cond b (w.inputs k) u.0) (le-ltb k k (le_refl k))

          either : (b : Bool) (y : ℕ → ℤ) → member_u 1 y → member_u 1 (cond b y u.0)
          either true y m = m
          either false y m = u.1

  -- ---- supports of directions near each other

  module _ {member : ℕ → (ℕ → ℤ) → Type 0} {support : (ℕ → ℤ) → ℤ} {reach : ℕ → ℕ} (laws : SetLaws n member support reach) where
    -- r · x, scaled, beside the exact direction's
    halves-at : (s : ℕ) (x r : ℕ → ℤ) (e : ℕ → ℕ) → Stands n s x r e → (p : ℕ → ℤ) → member 1 p → NearHalves (dot n x p) (pos s *ℤ dot n r p) (s * dot_ℕ n e reach)
    halves-at s x r e stands p m =
        subst (λ (z : ℤ). NearHalves (dot n x p) z (s * dot_ℕ n e reach)) scaled
        (halves-mono (native.Mathlib.Nat.le_of_eq errors) (halves-dot n x (λ i. pos s *ℤ r i) p (λ i. s * e i) reach stands.near small))
      where
        scaled : dot n (λ i. pos s *ℤ r i) p ≡ pos s *ℤ dot n r p
        scaled = sum-cong n (λ i h. eq! ((# s ⊗ v (r i)) ⊗ v (p i)) (# s ⊗ (v (r i) ⊗ v (p i))) (omega arith)) ∙ Rattle.integers.proofs.Sums.sum-scale n (pos s) (λ i. r i *ℤ p i)

        errors : sum_ℕ n (λ i. reach i * (s * e i)) ≡ s * dot_ℕ n e reach
        errors = sum_ℕ-cong n (λ i h. turned (reach i) (e i)) ∙ sum_ℕ-scale n s (λ i. e i * reach i)
          where
            turned : (a b : ℕ) → a * (s * b) ≡ s * (b * a)
            turned a b = omega arith

        small : (i : ℕ) → i < n → nat_abs (p i) ≤ reach i
        small i h = within i (laws.within 1 p m i h)
          where
            within : (i : ℕ) → nat_abs (p i) ≤ 1 * reach i → nat_abs (p i) ≤ reach i
            within i l = omega arith

    pub halves-support : (s : ℕ) (x r : ℕ → ℤ) (e : ℕ → ℕ) → Stands n s x r e → NearHalves (support x) (pos s *ℤ support r) (s * dot_ℕ n e reach)
    halves-support s x r e stands =
        let a = laws.attained x in
        let b = laws.attained r in
        let of-x = halves-at s x r e stands a.0 a.1 in
        let of-r = halves-at s x r e stands b.0 b.1 in
        let x-attains = eq? (v (dot n x a.0)) (v (support x)) a.2 in
        let r-attains = eq? (# s ⊗ v (dot n r b.0)) (# s ⊗ v (support r)) (ap (λ (z : ℤ). pos s *ℤ z) b.2) in
        let r-above = le? (# s ⊗ v (dot n r a.0)) (# s ⊗ v (support r)) (⩽-scale s (⩽-trans (laws.above 1 a.0 a.1 r) (⩽-of-eq (one-times (support r))))) in
        let x-above = le? (v (dot n x b.0)) (v (support x)) (⩽-trans (laws.above 1 b.0 b.1 x) (⩽-of-eq (one-times (support x)))) in
        let halves-a = halves? (v (dot n x a.0)) (# s ⊗ v (dot n r a.0)) (s * dot_ℕ n e reach) of-x in
        let halves-b = halves? (v (dot n x b.0)) (# s ⊗ v (dot n r b.0)) (s * dot_ℕ n e reach) of-r in
        halves! (v (support x)) (# s ⊗ v (support r)) (s * dot_ℕ n e reach) (omega arith) (omega arith)

  -- ---- what the recurrence adds up, from the first working direction on

  supports : ℕ → Working → ℤ
  supports zero w = support_i w.r
  supports (suc k) w = supports k (next n (moves k) w) +ℤ support_u w.r

  errors : ℕ → Working → ℕ
  errors zero w = dot_ℕ n w.e reach_i
  errors (suc k) w = errors k (next n (moves k) w) + dot_ℕ n w.e reach_u

  -- The exact value is near them, at the scale 65,536 ^ k.
  halves-top : (k s : ℕ) (x : ℕ → ℤ) (w : Working) → Stands n s x w.r w.e → NearHalves (top k x) (pos (matrix_unit ^ k * s) *ℤ supports k w) (matrix_unit ^ k * s * errors k w)
  unfolding top supports errors
  halves-top zero s x w stands = subst (λ (t : ℕ). NearHalves (support_i x) (pos t *ℤ support_i w.r) (t * dot_ℕ n w.e reach_i)) (alone s) (halves-support laws_i s x w.r w.e stands)
    where
      alone : (s : ℕ) → s ≡ 1 * s
      alone s = omega arith
  halves-top (suc k) s x w stands =
      let before = subst (λ (t : ℕ). NearHalves (top k (transposed n (moves k) x)) (pos t *ℤ supports k (next n (moves k) w)) (t * errors k (next n (moves k) w))) (scaled k) (halves-top k (matrix_unit * s) (transposed n (moves k) x) (next n (moves k) w) (stands-step n s (moves k) x w.r w.e stands)) in
      let here = halves-scale (matrix_unit ^ suc k) (halves-support laws_u s x w.r w.e stands) in
      subst (λ (z : ℤ). NearHalves (top k (transposed n (moves k) x) +ℤ pos (matrix_unit ^ suc k) *ℤ support_u x) z (matrix_unit ^ suc k * s * (errors k (next n (moves k) w) + dot_ℕ n w.e reach_u))) (regrouped (matrix_unit ^ suc k) (supports k (next n (moves k) w)) (support_u w.r))
      (subst (λ (t : ℕ). NearHalves (top k (transposed n (moves k) x) +ℤ pos (matrix_unit ^ suc k) *ℤ support_u x) (pos (matrix_unit ^ suc k * s) *ℤ supports k (next n (moves k) w) +ℤ pos (matrix_unit ^ suc k) *ℤ (pos s *ℤ support_u w.r)) t) (added (matrix_unit ^ suc k) (errors k (next n (moves k) w)) (dot_ℕ n w.e reach_u)) (halves-add before here))
    where
      scaled : (k : ℕ) → matrix_unit ^ k * (matrix_unit * s) ≡ matrix_unit ^ suc k * s
      scaled k = turned (matrix_unit ^ k) ∙ ap (λ (t : ℕ). t * s) (sym (pow-suc matrix_unit k))
        where
          turned : (t : ℕ) → t * (65536 * s) ≡ t * 65536 * s
          turned t = omega arith

      regrouped : (p : ℕ) (a b : ℤ) → pos (p * s) *ℤ a +ℤ pos p *ℤ (pos s *ℤ b) ≡ pos (p * s) *ℤ (a +ℤ b)
      regrouped p a b = eq! (# (p * s) ⊗ v a ⊕ # p ⊗ (# s ⊗ v b)) (# (p * s) ⊗ (v a ⊕ v b)) (omega arith)

      added : (p a b : ℕ) → p * s * a + p * (s * b) ≡ p * s * (a + b)
      added p a b = omega arith

  -- ---- the same as sums over the walk of step k

  walk-zero : (k : ℕ) (w : Working) → walk n moves k w 0 ≡ w
  unfolding walk
  walk-zero k w = refl

  walk-shift : (k : ℕ) (w : Working) (j : ℕ) → walk n moves (suc k) w (suc j) ≡ walk n moves k (next n (moves k) w) j
  unfolding walk
  walk-shift k w zero = ap (λ (t : ℕ). next n (moves t) w) (one_less k)
    where
      one_less : (k : ℕ) → suc k - suc 0 ≡ k
      one_less k = omega arith
  walk-shift k w (suc j) = ap₂ (λ (t : ℕ) (u : Working). next n (moves t) u) (one_less k j) (walk-shift k w j)
    where
      one_less : (k j : ℕ) → suc k - suc (suc j) ≡ k - suc j
      one_less k j = omega arith

  supports-walk : (k : ℕ) (w : Working) → supports k w ≡ support_i (walk n moves k w k).r +ℤ sum k (λ j. support_u (walk n moves k w j).r)
  unfolding supports
  supports-walk zero w = ap (λ (u : Working). support_i u.r) (sym (walk-zero 0 w)) ∙ sym (ap (λ (z : ℤ). support_i (walk n moves 0 w 0).r +ℤ z) (sum-zero (λ j. support_u (walk n moves 0 w j).r)) ∙ lib.IntN.+ℤ_idr (support_i (walk n moves 0 w 0).r))
  supports-walk (suc k) w =
      ap (λ (z : ℤ). z +ℤ support_u w.r) (supports-walk k (next n (moves k) w))
      ∙ eq! (v (support_i (walk n moves k (next n (moves k) w) k).r) ⊕ v (sum k (λ j. support_u (walk n moves k (next n (moves k) w) j).r)) ⊕ v (support_u w.r)) (v (support_i (walk n moves k (next n (moves k) w) k).r) ⊕ (v (support_u w.r) ⊕ v (sum k (λ j. support_u (walk n moves k (next n (moves k) w) j).r)))) (omega arith)
      ∙ ap₂ ◌+ℤ◌ (ap (λ (t : Working). support_i t.r) (sym (walk-shift k w k))) (ap₂ ◌+ℤ◌ (ap (λ (t : Working). support_u t.r) (sym (walk-zero (suc k) w))) (sum-cong k (λ j h. ap (λ (t : Working). support_u t.r) (sym (walk-shift k w j)))) ∙ sym (sum_first k (λ j. support_u (walk n moves (suc k) w j).r)))

  errors-walk : (k : ℕ) (w : Working) → errors k w ≡ dot_ℕ n (walk n moves k w k).e reach_i + sum_ℕ k (λ j. dot_ℕ n (walk n moves k w j).e reach_u)
  unfolding errors
  errors-walk zero w =
      ap (λ (u : Working). dot_ℕ n u.e reach_i) (sym (walk-zero 0 w)) ∙ sym (ap (λ (z : ℕ). dot_ℕ n (walk n moves 0 w 0).e reach_i + z) (sum_ℕ-zero (λ j. dot_ℕ n (walk n moves 0 w j).e reach_u)) ∙ native.Mathlib.Nat.add-zero (dot_ℕ n (walk n moves 0 w 0).e reach_i))
  errors-walk (suc k) w =
      ap (λ (z : ℕ). z + dot_ℕ n w.e reach_u) (errors-walk k (next n (moves k) w))
      ∙ turned (dot_ℕ n (walk n moves k (next n (moves k) w) k).e reach_i) (sum_ℕ k (λ j. dot_ℕ n (walk n moves k (next n (moves k) w) j).e reach_u)) (dot_ℕ n w.e reach_u)
      ∙ ap₂ ◌+◌ (ap (λ (t : Working). dot_ℕ n t.e reach_i) (sym (walk-shift k w k))) (ap₂ ◌+◌ (ap (λ (t : Working). dot_ℕ n t.e reach_u) (sym (walk-zero (suc k) w))) (sum_ℕ-cong k (λ j h. ap (λ (t : Working). dot_ℕ n t.e reach_u) (sym (walk-shift k w j)))) ∙ sym (sum_ℕ-first k (λ j. dot_ℕ n (walk n moves (suc k) w j).e reach_u)))
    where
      turned : (a b c : ℕ) → a + b + c ≡ a + (c + b)
      turned a b c = omega arith

  -- The exact largest value of a direction that stands exactly, beside the sums of the recurrence.
  pub halves-sums : (k : ℕ) (w : Working) → Stands n 1 w.r w.r w.e → NearHalves (top k w.r) (pos (matrix_unit ^ k) *ℤ (support_i (walk n moves k w k).r +ℤ sum k (λ j. support_u (walk n moves k w j).r))) (matrix_unit ^ k * (dot_ℕ n (walk n moves k w k).e reach_i + sum_ℕ k (λ j. dot_ℕ n (walk n moves k w j).e reach_u)))
  halves-sums k w stands =
      subst (λ (z : ℤ). NearHalves (top k w.r) (pos (matrix_unit ^ k) *ℤ z) (matrix_unit ^ k * (dot_ℕ n (walk n moves k w k).e reach_i + sum_ℕ k (λ j. dot_ℕ n (walk n moves k w j).e reach_u)))) (supports-walk k w)
      (subst (λ (z : ℕ). NearHalves (top k w.r) (pos (matrix_unit ^ k) *ℤ supports k w) (matrix_unit ^ k * z)) (errors-walk k w)
      (subst (λ (t : ℕ). NearHalves (top k w.r) (pos t *ℤ supports k w) (t * errors k w)) (native.Mathlib.Nat.mul-one (matrix_unit ^ k)) (halves-top k 1 w.r w stands)))
