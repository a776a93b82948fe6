-- Laws of sums, dot products, largest values and tests over all places (`specs.Sums`).
-- In order: sums in ℤ; sums in ℕ; a count beyond which all is 0; the largest; tests; matrices. Assumes nothing.
use mathlib.Core.Path.{◌≡◌, refl, sym, ap, ap₂, subst, ◌∙◌}
use mathlib.Core.Bool.{Bool, true, false, cond, ◌&&◌}
use Prim.Native.Nat.{ℕ, zero, suc, ◌+◌, ◌*◌, ◌-◌, ◌/◌, ◌≤◌, ◌<◌, max}
use native.Mathlib.Nat.{le_refl, lt_of_lt_of_le, lt_irrefl}
use borrow.Author.Tests.{eq-eqb, ne_eqb}
use lib.Dec.{eqb}
use native.Mathlib.Numerals.{add-one}
use native.Mathlib.Decide.{dec_lt, ℕ_discrete}
use native.Mathlib.Omega.{arith}
use lib.IntN.{ℤ, pos, nat_abs, ◌+ℤ◌, ◌*ℤ◌, +ℤ_idl, +ℤ_idr, *ℤ-zero, zero-*ℤ}
use Rattle.integers.specs.Whole.{◌⩽◌, NearHalves}
use Rattle.integers.specs.Sums.{sum, sum_ℕ, max_ℕ, all_below, dot, times, transposed}
use Rattle.integers.proofs.Booleans.{and-true, and-false, and-stop, and-true-right, and-assoc}
use Rattle.integers.proofs.SignedParts.{v, #, ◌⊕◌, ◌⊗◌, eq! }
use Rattle.integers.proofs.Order.{⩽-refl, ⩽-add, halves-add, halves-of-eq, halves-times, add_ℤ-swap, mul_ℤ-add, mul_ℤ-left-comm}

wider : {i n : ℕ} → i < n → i < suc n
wider h = omega arith

here : (n : ℕ) → n < suc n
here n = le_refl (suc n)

-- ---- sums in ℤ

pub sum-zero : (f : ℕ → ℤ) → sum 0 f ≡ pos 0
unfolding sum
sum-zero f = refl

pub sum-suc : (n : ℕ) (f : ℕ → ℤ) → sum (suc n) f ≡ sum n f +ℤ f n
unfolding sum
sum-suc n f = refl

pub sum-cong : (n : ℕ) {f g : ℕ → ℤ} → ((i : ℕ) → i < n → f i ≡ g i) → sum n f ≡ sum n g
unfolding sum
sum-cong zero e = refl
sum-cong (suc n) e = ap₂ ◌+ℤ◌ (sum-cong n (λ i h. e i (wider h))) (e n (here n))

pub sum-add : (n : ℕ) (f g : ℕ → ℤ) → sum n (λ i. f i +ℤ g i) ≡ sum n f +ℤ sum n g
unfolding sum
sum-add zero f g = refl
sum-add (suc n) f g = ap (λ (z : ℤ). z +ℤ (f n +ℤ g n)) (sum-add n f g) ∙ add_ℤ-swap (sum n f) (sum n g) (f n) (g n)

pub sum-scale : (n : ℕ) (c : ℤ) (f : ℕ → ℤ) → sum n (λ i. c *ℤ f i) ≡ c *ℤ sum n f
unfolding sum
sum-scale zero c f = sym (*ℤ-zero c)
sum-scale (suc n) c f = ap (λ (z : ℤ). z +ℤ c *ℤ f n) (sum-scale n c f) ∙ sym (mul_ℤ-add c (sum n f) (f n))

pub sum-none : (n : ℕ) → sum n (λ i. pos 0) ≡ pos 0
unfolding sum
sum-none zero = refl
sum-none (suc n) = ap (λ (z : ℤ). z +ℤ pos 0) (sum-none n)

-- a sum of sums, in either order
pub sum-swap : (n m : ℕ) (f : ℕ → ℕ → ℤ) → sum n (λ i. sum m (λ j. f i j)) ≡ sum m (λ j. sum n (λ i. f i j))
unfolding sum
sum-swap zero m f = sym (sum-none m)
sum-swap (suc n) m f = ap (λ (z : ℤ). z +ℤ sum m (λ j. f n j)) (sum-swap n m f) ∙ sym (sum-add m (λ j. sum n (λ i. f i j)) (λ j. f n j))

-- the first place taken out
pub sum_first : (n : ℕ) (f : ℕ → ℤ) → sum (suc n) f ≡ f 0 +ℤ sum n (λ i. f (suc i))
unfolding sum
sum_first zero f = +ℤ_idl (f 0) ∙ sym (+ℤ_idr (f 0))
sum_first (suc n) f =
    ap (λ (z : ℤ). z +ℤ f (suc n)) (sum_first n f)
    ∙ eq! (v (f 0) ⊕ v (sum n (λ i. f (suc i))) ⊕ v (f (suc n))) (v (f 0) ⊕ (v (sum n (λ i. f (suc i))) ⊕ v (f (suc n)))) (omega arith)

pub sum-⩽ : (n : ℕ) {f g : ℕ → ℤ} → ((i : ℕ) → i < n → f i ⩽ g i) → sum n f ⩽ sum n g
unfolding sum
sum-⩽ zero h = ⩽-refl (pos 0)
sum-⩽ (suc n) h = ⩽-add (sum-⩽ n (λ i l. h i (wider l))) (h n (here n))

pub halves-sum : (n : ℕ) {f g : ℕ → ℤ} {e : ℕ → ℕ} → ((i : ℕ) → i < n → NearHalves (f i) (g i) (e i)) → NearHalves (sum n f) (sum n g) (sum_ℕ n e)
unfolding sum sum_ℕ
halves-sum zero h = halves-of-eq refl
halves-sum (suc n) h = halves-add (halves-sum n (λ i l. h i (wider l))) (h n (here n))

-- ---- sums in ℕ

pub sum_ℕ-zero : (f : ℕ → ℕ) → sum_ℕ 0 f ≡ 0
unfolding sum_ℕ
sum_ℕ-zero f = refl

pub sum_ℕ-suc : (n : ℕ) (f : ℕ → ℕ) → sum_ℕ (suc n) f ≡ sum_ℕ n f + f n
unfolding sum_ℕ
sum_ℕ-suc n f = refl

-- what a loop keeps: the sum of the terms passed, and of one more
pub sum_ℕ-next : (n : ℕ) (f : ℕ → ℕ) {s a : ℕ} → s ≡ sum_ℕ n f → a ≡ f n → s + a ≡ sum_ℕ (n + 1) f
sum_ℕ-next n f h k = ap₂ ◌+◌ h k ∙ sym (ap (λ (j : ℕ). sum_ℕ j f) (add-one n) ∙ sum_ℕ-suc n f)

pub sum_ℕ-cong : (n : ℕ) {f g : ℕ → ℕ} → ((i : ℕ) → i < n → f i ≡ g i) → sum_ℕ n f ≡ sum_ℕ n g
unfolding sum_ℕ
sum_ℕ-cong zero e = refl
sum_ℕ-cong (suc n) e = ap₂ ◌+◌ (sum_ℕ-cong n (λ i h. e i (wider h))) (e n (here n))

pub sum_ℕ-none : (n : ℕ) → sum_ℕ n (λ i. 0) ≡ 0
unfolding sum_ℕ
sum_ℕ-none zero = refl
sum_ℕ-none (suc n) = ap (λ (k : ℕ). k + 0) (sum_ℕ-none n)

pub sum_ℕ-scale : (n c : ℕ) (f : ℕ → ℕ) → sum_ℕ n (λ i. c * f i) ≡ c * sum_ℕ n f
unfolding sum_ℕ
sum_ℕ-scale zero c f = omega arith
sum_ℕ-scale (suc n) c f = omega (arith, sum_ℕ-scale n c f)

-- each term at most c
pub sum_ℕ-bound : (n c : ℕ) {f : ℕ → ℕ} → ((i : ℕ) → i < n → f i ≤ c) → sum_ℕ n f ≤ n * c
unfolding sum_ℕ
sum_ℕ-bound zero c h = omega arith
sum_ℕ-bound (suc n) c h = omega (arith, sum_ℕ-bound n c (λ i l. h i (wider l)), h n (here n))

pub le-sum_ℕ : (n : ℕ) (f : ℕ → ℕ) (i : ℕ) → i < n → f i ≤ sum_ℕ n f
unfolding sum_ℕ
le-sum_ℕ zero f i h = absurd (omega arith)
le-sum_ℕ (suc n) f i h = elim (dec_lt i n) [ yes l ↦ omega (arith, le-sum_ℕ n f i l) | no g ↦ last (omega (arith, g)) ]
  where
    last : i ≡ n → f i ≤ sum_ℕ n f + f n
    last e = subst (λ (k : ℕ). f k ≤ sum_ℕ n f + f n) (sym e) (omega arith)

-- fewer and smaller terms
pub sum_ℕ-le : (k m : ℕ) (f g : ℕ → ℕ) → k ≤ m → ((j : ℕ) → f j ≤ g j) → sum_ℕ k f ≤ sum_ℕ m g
unfolding sum_ℕ
sum_ℕ-le zero m f g h le = omega arith
sum_ℕ-le (suc k) zero f g h le = absurd (omega arith)
sum_ℕ-le (suc k) (suc m) f g h le =
    elim (dec_lt k m) [ yes l ↦ omega (arith, sum_ℕ-le (suc k) m f g (omega arith) le) | no n ↦ omega (arith, sum_ℕ-le k m f g (omega arith) le, le k, same (omega (arith, n))) ]
  where
    same : k ≡ m → g k ≡ g m
    same e = ap g e

-- each term at most c times another
pub sum_ℕ-weighted : (n c : ℕ) (f g : ℕ → ℕ) → ((i : ℕ) → i < n → f i ≤ c * g i) → sum_ℕ n f ≤ c * sum_ℕ n g
unfolding sum_ℕ
sum_ℕ-weighted zero c f g h = omega arith
sum_ℕ-weighted (suc n) c f g h = omega (arith, sum_ℕ-weighted n c f g (λ i l. h i (wider l)), h n (here n))

-- term j at most j times y
pub sum_ℕ-triangle : (n y : ℕ) {f : ℕ → ℕ} → ((j : ℕ) → j < n → f j ≤ j * y) → sum_ℕ n f ≤ n * (n - 1) / 2 * y
unfolding sum_ℕ
sum_ℕ-triangle zero y h = omega arith
sum_ℕ-triangle (suc n) y {f} h =
    subst (λ (k : ℕ). sum_ℕ n f + f n ≤ k * y) (sym (more n)) (omega (arith, sum_ℕ-triangle n y {f = f} (λ j l. h j (wider l)), h n (here n)))
  where
    more : (n : ℕ) → suc n * (suc n - 1) / 2 ≡ n * (n - 1) / 2 + n
    more zero = refl
    more (suc i) = ap (λ (x : ℕ). suc (suc i) * x / 2) (less (suc i)) ∙ halved i ∙ sym (ap (λ (x : ℕ). suc i * x / 2 + suc i) (less i))
      where
        less : (n : ℕ) → suc n - 1 ≡ n
        less n = omega arith

        halved : (i : ℕ) → suc (suc i) * suc i / 2 ≡ suc i * i / 2 + suc i
        halved i = omega arith

pub sum_ℕ-first : (n : ℕ) (f : ℕ → ℕ) → sum_ℕ (suc n) f ≡ f 0 + sum_ℕ n (λ i. f (suc i))
unfolding sum_ℕ
sum_ℕ-first zero f = omega arith
sum_ℕ-first (suc n) f = omega (arith, sum_ℕ-first n f)

pub pos-sum_ℕ : (n : ℕ) (f : ℕ → ℕ) → pos (sum_ℕ n f) ≡ sum n (λ i. pos (f i))
unfolding sum sum_ℕ
pos-sum_ℕ zero f = refl
pos-sum_ℕ (suc n) f = ap (λ (z : ℤ). z +ℤ pos (f n)) (pos-sum_ℕ n f)

-- the magnitude of a sum is at most the sum of bounds on the magnitudes
pub nat_abs-sum : (n : ℕ) (f : ℕ → ℤ) (b : ℕ → ℕ) → ((i : ℕ) → i < n → nat_abs (f i) ≤ b i) → nat_abs (sum n f) ≤ sum_ℕ n b
unfolding sum sum_ℕ
nat_abs-sum zero f b h = le_refl 0
nat_abs-sum (suc n) f b h =
    omega (arith, Rattle.integers.proofs.Order.nat_abs-add (sum n f) (f n), nat_abs-sum n f b (λ i l. h i (wider l)), h n (here n))

-- ---- a count beyond which all is 0: the loops run to 6, the definitions to n

plus-zero : (n : ℕ) → n + 0 ≡ n
plus-zero n = omega arith

plus_suc : (n m : ℕ) → n + suc m ≡ suc (n + m)
plus_suc n m = omega arith

at_least : (n m : ℕ) → n ≤ n + m
at_least n m = omega arith

last-below : (n m : ℕ) → n + m < n + suc m
last-below n m = omega arith

pub sum-beyond : (n m : ℕ) (f : ℕ → ℤ) → ((i : ℕ) → n ≤ i → i < n + m → f i ≡ pos 0) → sum (n + m) f ≡ sum n f
sum-beyond n zero f h = ap (λ (k : ℕ). sum k f) (plus-zero n)
sum-beyond n (suc m) f h =
    ap (λ (k : ℕ). sum k f) (plus_suc n m)
    ∙ sum-suc (n + m) f
    ∙ ap₂ ◌+ℤ◌ (sum-beyond n m f (λ i l k. h i l (lt_of_lt_of_le k (omega arith)))) (h (n + m) (at_least n m) (last-below n m))
    ∙ +ℤ_idr (sum n f)

pub sum_ℕ-beyond : (n m : ℕ) (f : ℕ → ℕ) → ((i : ℕ) → n ≤ i → i < n + m → f i ≡ 0) → sum_ℕ (n + m) f ≡ sum_ℕ n f
sum_ℕ-beyond n zero f h = ap (λ (k : ℕ). sum_ℕ k f) (plus-zero n)
sum_ℕ-beyond n (suc m) f h =
    ap (λ (k : ℕ). sum_ℕ k f) (plus_suc n m)
    ∙ sum_ℕ-suc (n + m) f
    ∙ ap₂ ◌+◌ (sum_ℕ-beyond n m f (λ i l k. h i l (lt_of_lt_of_le k (omega arith)))) (h (n + m) (at_least n m) (last-below n m))
    ∙ plus-zero (sum_ℕ n f)

pub max_ℕ-beyond : (n m : ℕ) (f : ℕ → ℕ) → ((i : ℕ) → n ≤ i → i < n + m → f i ≡ 0) → max_ℕ (n + m) f ≡ max_ℕ n f
unfolding max_ℕ
max_ℕ-beyond n zero f h = ap (λ (k : ℕ). max_ℕ k f) (plus-zero n)
max_ℕ-beyond n (suc m) f h =
    let z : max (max_ℕ n f) 0 ≡ max_ℕ n f = omega arith in
    ap (λ (k : ℕ). max_ℕ k f) (plus_suc n m)
    ∙ ap₂ max (max_ℕ-beyond n m f (λ i l k. h i l (lt_of_lt_of_le k (omega arith)))) (h (n + m) (at_least n m) (last-below n m))
    ∙ z

-- ---- the largest

pub max_ℕ-zero : (f : ℕ → ℕ) → max_ℕ 0 f ≡ 0
unfolding max_ℕ
max_ℕ-zero f = refl

pub max_ℕ-suc : (n : ℕ) (f : ℕ → ℕ) → max_ℕ (suc n) f ≡ max (max_ℕ n f) (f n)
unfolding max_ℕ
max_ℕ-suc n f = refl

-- what a loop keeps: the largest of the terms passed, and of one more
pub max_ℕ-next : (n : ℕ) (f : ℕ → ℕ) {m a : ℕ} → m ≡ max_ℕ n f → a ≡ f n → max m a ≡ max_ℕ (n + 1) f
max_ℕ-next n f h k = ap₂ max h k ∙ sym (ap (λ (j : ℕ). max_ℕ j f) (add-one n) ∙ max_ℕ-suc n f)

pub max_ℕ-cong : (n : ℕ) {f g : ℕ → ℕ} → ((i : ℕ) → i < n → f i ≡ g i) → max_ℕ n f ≡ max_ℕ n g
unfolding max_ℕ
max_ℕ-cong zero e = refl
max_ℕ-cong (suc n) e = ap₂ max (max_ℕ-cong n (λ i h. e i (wider h))) (e n (here n))

pub le-max_ℕ : (n : ℕ) (f : ℕ → ℕ) (i : ℕ) → i < n → f i ≤ max_ℕ n f
unfolding max_ℕ
le-max_ℕ zero f i h = absurd (omega arith)
le-max_ℕ (suc n) f i h = elim (dec_lt i n) [ yes l ↦ omega (arith, le-max_ℕ n f i l) | no g ↦ last (omega (arith, g)) ]
  where
    last : i ≡ n → f i ≤ max (max_ℕ n f) (f n)
    last e = subst (λ (k : ℕ). f k ≤ max (max_ℕ n f) (f n)) (sym e) (omega arith)

pub max_ℕ-le : (n c : ℕ) {f : ℕ → ℕ} → ((i : ℕ) → i < n → f i ≤ c) → max_ℕ n f ≤ c
unfolding max_ℕ
max_ℕ-le zero c h = omega arith
max_ℕ-le (suc n) c h = omega (arith, max_ℕ-le n c (λ i l. h i (wider l)), h n (here n))

-- ---- tests over all places

pub all_below-suc : (n : ℕ) (f : ℕ → Bool) → all_below (suc n) f ≡ all_below n f && f n
unfolding all_below
all_below-suc n f = refl

-- what a loop keeps: the test of the places passed, and of one more
pub all_below-next : (n : ℕ) (f : ℕ → Bool) {t u : Bool} → t ≡ all_below n f → u ≡ f n → t && u ≡ all_below (n + 1) f
all_below-next n f h k = ap₂ ◌&&◌ h k ∙ sym (ap (λ (m : ℕ). all_below m f) (add-one n) ∙ all_below-suc n f)

-- holds so far and here: holds one further
pub all_below-more : (n : ℕ) (f : ℕ → Bool) → all_below n f ≡ true → f n ≡ true → all_below (n + 1) f ≡ true
unfolding all_below
all_below-more n f h k = subst (λ (m : ℕ). all_below m f ≡ true) (sym (add-one n)) (ap₂ ◌&&◌ h k)

-- fails here: fails
pub all_below-fails : (n : ℕ) (f : ℕ → Bool) (i : ℕ) → i < n → f i ≡ false → all_below n f ≡ false
unfolding all_below
all_below-fails zero f i h e = absurd (omega arith)
all_below-fails (suc n) f i h e =
    elim (dec_lt i n) [ yes l ↦ and-stop (f n) (all_below-fails n f i l e) | no g ↦ ap (λ (t : Bool). all_below n f && t) (subst (λ (k : ℕ). f k ≡ false) (omega (arith, g)) e) ∙ and-false (all_below n f) ]

pub all_below-at : (n : ℕ) (f : ℕ → Bool) → all_below n f ≡ true → (i : ℕ) → i < n → f i ≡ true
unfolding all_below
all_below-at zero f t i h = absurd (omega arith)
all_below-at (suc n) f t i h =
    let both = and-true (all_below n f) (f n) t in
    elim (dec_lt i n) [ yes l ↦ all_below-at n f both.0 i l | no g ↦ subst (λ (k : ℕ). f k ≡ true) (omega (arith, g)) both.1 ]

-- a test that fails fails somewhere
pub all_below-some : (n : ℕ) (f : ℕ → Bool) → all_below n f ≡ false → (i : ℕ) × (i < n) × (f i ≡ false)
unfolding all_below
all_below-some zero f e = let z : ◌≡◌ {A = ℕ} 0 1 = cc in absurd (omega arith)
all_below-some (suc n) f e = cases (all_below n f) refl (f n) refl (all_below-some n f)
  where
    clash : true ≡ false → ⊥
    clash p = let z : ◌≡◌ {A = ℕ} 0 1 = cc in omega arith

    cases : (a : Bool) → all_below n f ≡ a → (b : Bool) → f n ≡ b → (all_below n f ≡ false → (i : ℕ) × (i < n) × (f i ≡ false)) → (i : ℕ) × (i < suc n) × (f i ≡ false)
    cases true p true q earlier = absurd (clash (sym (ap₂ ◌&&◌ p q) ∙ e))
    cases true p false q earlier = (n, here n, q)
    cases false p b q earlier = let w = earlier p in (w.0, wider w.1, w.2)

pub all_below-intro : (n : ℕ) (f : ℕ → Bool) → ((i : ℕ) → i < n → f i ≡ true) → all_below n f ≡ true
unfolding all_below
all_below-intro zero f h = refl
all_below-intro (suc n) f h = ap₂ ◌&&◌ (all_below-intro n f (λ i l. h i (wider l))) (h n (here n))

pub all_below-cong : (n : ℕ) (f g : ℕ → Bool) → ((i : ℕ) → i < n → f i ≡ g i) → all_below n f ≡ all_below n g
unfolding all_below
all_below-cong zero f g e = refl
all_below-cong (suc n) f g e = ap₂ ◌&&◌ (all_below-cong n f g (λ i l. e i (wider l))) (e n (here n))

-- of the first m places and of d more
pub all_below-parts : (m d : ℕ) (f : ℕ → Bool) → all_below (m + d) f ≡ all_below m f && all_below d (λ j. f (m + j))
unfolding all_below
all_below-parts m zero f = let all : m + 0 ≡ m = omega arith in ap (λ (n : ℕ). all_below n f) all ∙ sym (and-true-right (all_below m f))
all_below-parts m (suc d) f =
    let one_more : m + suc d ≡ suc (m + d) = omega arith in
    ap (λ (n : ℕ). all_below n f) one_more
    ∙ ap (λ (t : Bool). t && f (m + d)) (all_below-parts m d f)
    ∙ and-assoc (all_below m f) (all_below d (λ j. f (m + j))) (f (m + d))

-- ---- matrices

-- The direction meets the matrix times the state as the transpose times the direction meets the state.
pub dot-times : (n : ℕ) (m : ℕ → ℕ → ℤ) (r x : ℕ → ℤ) → dot n r (times n m x) ≡ dot n (transposed n m r) x
dot-times n m r x =
    sum-cong n (λ p h. sym (sum-scale n (r p) (λ i. m p i *ℤ x i)))
    ∙ sum-swap n n (λ p i. r p *ℤ (m p i *ℤ x i))
    ∙ sum-cong n (λ i h. sum-cong n (λ p l. turned p i) ∙ sum-scale n (x i) (λ p. m p i *ℤ r p) ∙ eq! (v (x i) ⊗ v (transposed n m r i)) (v (transposed n m r i) ⊗ v (x i)) (omega arith))
  where
    turned : (p i : ℕ) → r p *ℤ (m p i *ℤ x i) ≡ x i *ℤ (m p i *ℤ r p)
    turned p i = eq! (v (r p) ⊗ (v (m p i) ⊗ v (x i))) (v (x i) ⊗ (v (m p i) ⊗ v (r p))) (omega arith)

pub dot-cong : (n : ℕ) {a b x y : ℕ → ℤ} → ((i : ℕ) → i < n → a i ≡ b i) → ((i : ℕ) → i < n → x i ≡ y i) → dot n a x ≡ dot n b y
dot-cong n e f = sum-cong n (λ i h. ap₂ ◌*ℤ◌ (e i h) (f i h))

pub dot-scale : (n : ℕ) (c : ℤ) (a x : ℕ → ℤ) → dot n a (λ i. c *ℤ x i) ≡ c *ℤ dot n a x
dot-scale n c a x = sum-cong n (λ i h. mul_ℤ-left-comm (a i) c (x i)) ∙ sum-scale n c (λ i. a i *ℤ x i)

pub dot-add : (n : ℕ) (a x y : ℕ → ℤ) → dot n a (λ i. x i +ℤ y i) ≡ dot n a x +ℤ dot n a y
dot-add n a x y = sum-cong n (λ i h. mul_ℤ-add (a i) (x i) (y i)) ∙ sum-add n (λ i. a i *ℤ x i) (λ i. a i *ℤ y i)

-- Directions near each other meet a point of bounded coordinates in values near each other.
pub halves-dot : (n : ℕ) (a b x : ℕ → ℤ) (e w : ℕ → ℕ) → ((i : ℕ) → i < n → NearHalves (a i) (b i) (e i)) → ((i : ℕ) → i < n → nat_abs (x i) ≤ w i) → NearHalves (dot n a x) (dot n b x) (sum_ℕ n (λ i. w i * e i))
halves-dot n a b x e w h k = halves-sum n (λ i l. turned i (halves-times (x i) (k i l) (h i l)))
  where
    turned : (i : ℕ) → NearHalves (x i *ℤ a i) (x i *ℤ b i) (w i * e i) → NearHalves (a i *ℤ x i) (b i *ℤ x i) (w i * e i)
    turned i t = subst (λ (z : ℤ). NearHalves z (b i *ℤ x i) (w i * e i)) (lib.IntN.*ℤ_comm (x i) (a i)) (subst (λ (z : ℤ). NearHalves (x i *ℤ a i) z (w i * e i)) (lib.IntN.*ℤ_comm (x i) (b i)) t)

-- A direction meets a combination of points as the same combination of what it meets them in.
pub dot-combination : (n m : ℕ) (f : ℕ → ℤ) (g : ℕ → ℕ → ℤ) (r : ℕ → ℤ) → dot n r (λ i. sum m (λ k. f k *ℤ g k i)) ≡ sum m (λ k. f k *ℤ dot n r (g k))
dot-combination n m f g r =
    sum-cong n (λ i h. sym (sum-scale m (r i) (λ k. f k *ℤ g k i)))
    ∙ sum-swap n m (λ i k. r i *ℤ (f k *ℤ g k i))
    ∙ sum-cong m (λ k h. sum-cong n (λ i l. mul_ℤ-left-comm (r i) (f k) (g k i)) ∙ sum-scale n (f k) (λ i. r i *ℤ g k i))

-- ---- one place alone

-- 1 at place k, 0 elsewhere
abbrev pub unit : ℕ → ℕ → ℕ
unit k j = cond (eqb j k) 1 0

unit-same : (k : ℕ) → unit k k ≡ 1
unit-same k = ap (λ (b : Bool). cond b 1 0) (eq-eqb k k refl)

unit-other : (k j : ℕ) → (j ≡ k → ⊥) → unit k j ≡ 0
unit-other k j h = ap (λ (b : Bool). cond b 1 0) (ne_eqb j k h)

before-unit : (n k : ℕ) → n ≤ k → sum_ℕ n (unit k) ≡ 0
before-unit n k h = sum_ℕ-cong n (λ j l. unit-other k j (λ e. lt_irrefl j (lt_of_lt_of_le l (subst (λ (x : ℕ). n ≤ x) (sym e) h)))) ∙ sum_ℕ-none n

pub sum_ℕ-unit : (n k : ℕ) → k < n → sum_ℕ n (unit k) ≡ 1
sum_ℕ-unit zero k h = absurd (omega arith)
sum_ℕ-unit (suc n) k h = elim (ℕ_discrete k n) [ yes e ↦ last e | no ne ↦ sum_ℕ-suc n (unit k) ∙ ap₂ ◌+◌ (sum_ℕ-unit n k (omega (arith, ne))) (unit-other k n (λ q. ne (sym q))) ]
  where
    last : k ≡ n → sum_ℕ (suc n) (unit k) ≡ 1
    last e = sum_ℕ-suc n (unit k) ∙ ap₂ ◌+◌ (before-unit n k (omega arith)) (subst (λ (x : ℕ). unit k x ≡ 1) e (unit-same k))

pub sum-unit : (n k : ℕ) (f : ℕ → ℤ) → k < n → sum n (λ j. pos (unit k j) *ℤ f j) ≡ f k
sum-unit zero k f h = absurd (omega arith)
sum-unit (suc n) k f h = elim (ℕ_discrete k n) [ yes e ↦ last e | no ne ↦ sum-suc n (λ j. pos (unit k j) *ℤ f j) ∙ ap₂ ◌+ℤ◌ (sum-unit n k f (omega (arith, ne))) (ap (λ (x : ℕ). pos x *ℤ f n) (unit-other k n (λ q. ne (sym q))) ∙ zero-*ℤ (f n)) ∙ +ℤ_idr (f k) ]
  where
    one-times : (z : ℤ) → pos 1 *ℤ z ≡ z
    one-times z = eq! (# 1 ⊗ v z) (v z) (omega arith)

    none : (j : ℕ) → j < n → k ≡ n → pos (unit k j) *ℤ f j ≡ pos 0
    none j l e = ap (λ (x : ℕ). pos x *ℤ f j) (unit-other k j (λ q. lt_irrefl j (subst (λ (x : ℕ). j < x) (sym (q ∙ e)) l))) ∙ zero-*ℤ (f j)

    last : k ≡ n → sum (suc n) (λ j. pos (unit k j) *ℤ f j) ≡ f k
    last e =
        sum-suc n (λ j. pos (unit k j) *ℤ f j)
        ∙ ap₂ ◌+ℤ◌ (sum-cong n (λ j l. none j l e) ∙ sum-none n) (ap (λ (x : ℕ). pos x *ℤ f n) (subst (λ (x : ℕ). unit k x ≡ 1) e (unit-same k)) ∙ one-times (f n))
        ∙ +ℤ_idl (f n)
        ∙ ap f (sym e)
