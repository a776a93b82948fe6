-- Laws of `nearest_even`, for every divisor above 0. In order: the three cases; how near it is; the largest it can be; a whole number
-- of divisors; a tie and at most a half; by the whole number of halves; the same fraction written otherwise. Assumes nothing.
use mathlib.Core.Path.{◌≡◌, sym, ap, ap₂, subst, ◌∙◌}
use mathlib.Core.Bool.{Bool, cond}
use mathlib.Core.Logic.{◌⊎◌, inl, inr}
use Prim.Native.Nat.{ℕ, ◌+◌, ◌*◌, ◌/◌, ◌%◌, ◌≤◌, ◌<◌}
use native.Mathlib.Nat.{mod-lt, lt_of_mul-lt-mul_left}
use native.Mathlib.Decide.{dec_lt}
use native.Mathlib.Omega.{arith}
use borrow.Author.Tests.{lt-ltb, le-ltb}
use lib.Dec.{ltb}
use Rattle.integers.specs.Whole.{nearest_even}
use Rattle.integers.proofs.Rounding.{divides}

-- ---- the three cases

picked : {t u x y : Bool} (p q r : ℕ) → t ≡ x → u ≡ y → cond t p (cond u q r) ≡ cond x p (cond y q r)
picked p q r e f = ap₂ (λ (s t : Bool). cond s p (cond t q r)) e f

below_half : (a b : ℕ) → 2 * (a % b) < b → nearest_even a b ≡ a / b
unfolding nearest_even
below_half a b h = ap (λ (z : Bool). cond z (a / b) (cond (ltb b (2 * (a % b))) (a / b + 1) (a / b + a / b % 2))) (lt-ltb (2 * (a % b)) b h)

above_half : (a b : ℕ) → b < 2 * (a % b) → nearest_even a b ≡ a / b + 1
unfolding nearest_even
above_half a b h =
    picked (a / b) (a / b + 1) (a / b + a / b % 2) (le-ltb (2 * (a % b)) b (omega (arith, h))) (lt-ltb b (2 * (a % b)) h)

tie : (a b : ℕ) → 2 * (a % b) ≡ b → nearest_even a b ≡ a / b + a / b % 2
unfolding nearest_even
tie a b e =
    picked (a / b) (a / b + 1) (a / b + a / b % 2) (le-ltb (2 * (a % b)) b (omega (arith, e))) (le-ltb b (2 * (a % b)) (omega (arith, e)))

pub data Side (a b : ℕ) : Type 0 where
  under : 2 * (a % b) < b → Side a b
  over : b < 2 * (a % b) → Side a b
  equal : 2 * (a % b) ≡ b → Side a b

side : (a b : ℕ) → Side a b
side a b =
    elim (dec_lt (2 * (a % b)) b) [
      | yes h ↦ under h
      | no k ↦ elim (dec_lt b (2 * (a % b))) [ yes h ↦ over h | no l ↦ equal (omega (arith, k, l)) ]
    ]

-- a quotient, from what it lies between
quotient : (x b k : ℕ) → 0 < b → k * b ≤ x → x < k * b + b → x / b ≡ k
quotient x b k B low high =
    let q = x / b in
    let upper : b * q < b * (k + 1) = omega (arith, divides x b, high) in
    let lower : b * k < b * (q + 1) = omega (arith, divides x b, low, mod-lt x B) in
    omega (arith, lt_of_mul-lt-mul_left b upper, lt_of_mul-lt-mul_left b lower)

-- ---- how near it is

-- twice its distance to a / b is at most 1
pub record NearEven (a b k : ℕ) : Type 0 where
  pub not-above : 2 * (k * b) ≤ 2 * a + b
  pub not-below : 2 * a ≤ 2 * (k * b) + b

parity : (q : ℕ) → (q % 2 ≡ 0) ⊎ (q % 2 ≡ 1)
parity q = elim (dec_lt (q % 2) 1) [ yes h ↦ inl (omega (arith, h)) | no k ↦ inr (omega (arith, k)) ]

pub nearest_even-near : (a b : ℕ) → 0 < b → NearEven a b (nearest_even a b)
nearest_even-near a b B = cases (side a b)
  where
    q : ℕ
    q = a / b

    near : (k : ℕ) → nearest_even a b ≡ k → NearEven a b k → NearEven a b (nearest_even a b)
    near k e h = subst (NearEven a b) (sym e) h

    tied : 2 * (a % b) ≡ b → (q % 2 ≡ 0) ⊎ (q % 2 ≡ 1) → NearEven a b (q + q % 2)
    tied e (inl z) = subst (λ (k : ℕ). NearEven a b (q + k)) (sym z) (record { not-above = omega (arith, divides a b, e); not-below = omega (arith, divides a b, e) })
    tied e (inr o) = subst (λ (k : ℕ). NearEven a b (q + k)) (sym o) (record { not-above = omega (arith, divides a b, e); not-below = omega (arith, divides a b, e) })

    cases : Side a b → NearEven a b (nearest_even a b)
    cases (under h) = near q (below_half a b h) (record { not-above = omega (arith, divides a b); not-below = omega (arith, divides a b, h) })
    cases (over h) = near (q + 1) (above_half a b h) (record { not-above = omega (arith, divides a b, h); not-below = omega (arith, divides a b, h, mod-lt a B) })
    cases (equal e) = near (q + q % 2) (tie a b e) (tied e (parity q))

-- ---- the largest it can be

pub nearest_even-le : (a b m : ℕ) → 0 < b → a ≤ m * b → nearest_even a b ≤ m
nearest_even-le a b m B h =
    let k = nearest_even a b in
    let small : b * (2 * k) < b * (2 * m + 2) = omega (arith, (nearest_even-near a b B).not-above, h, B) in
    omega (arith, lt_of_mul-lt-mul_left b small)

-- ---- a whole number of divisors

pub nearest_even-whole : (m b : ℕ) → 0 < b → nearest_even (m * b) b ≡ m
nearest_even-whole m b B =
    let k = nearest_even (m * b) b in
    let n = nearest_even-near (m * b) b B in
    let upper : b * (2 * k) < b * (2 * m + 2) = omega (arith, n.not-above, B) in
    let lower : b * (2 * m) < b * (2 * k + 2) = omega (arith, n.not-below, B) in
    omega (arith, lt_of_mul-lt-mul_left b upper, lt_of_mul-lt-mul_left b lower)

-- ---- a tie, and at most a half

pub nearest_even-tie : (a b : ℕ) → 0 < b → (2 * a ≡ 2 * (nearest_even a b * b) + b) ⊎ (2 * (nearest_even a b * b) ≡ 2 * a + b) → nearest_even a b % 2 ≡ 0
nearest_even-tie a b B far = cases (side a b)
  where
    apart : (k : ℕ) → nearest_even a b ≡ k → (2 * a ≡ 2 * (k * b) + b) ⊎ (2 * (k * b) ≡ 2 * a + b)
    apart k e = subst (λ (j : ℕ). (2 * a ≡ 2 * (j * b) + b) ⊎ (2 * (j * b) ≡ 2 * a + b)) e far

    cases : Side a b → nearest_even a b % 2 ≡ 0
    cases (under h) = elim (apart (a / b) (below_half a b h)) [ inl e ↦ absurd (omega (arith, e, divides a b, h)) | inr e ↦ absurd (omega (arith, e, divides a b, B)) ]
    cases (over h) = elim (apart (a / b + 1) (above_half a b h)) [ inl e ↦ absurd (omega (arith, e, divides a b, B, mod-lt a B)) | inr e ↦ absurd (omega (arith, e, divides a b, h)) ]
    cases (equal t) = ap (λ (k : ℕ). k % 2) (tie a b t) ∙ omega arith

pub nearest_even-small : (a b : ℕ) → 0 < b → 2 * a ≤ b → nearest_even a b ≡ 0
nearest_even-small a b B h = cases (side a b)
  where
    none : a / b ≡ 0
    none = quotient a b 0 B (omega arith) (omega (arith, h, B))

    cases : Side a b → nearest_even a b ≡ 0
    cases (under l) = below_half a b l ∙ none
    cases (over l) = absurd (omega (arith, l, h, divides a b, ap (λ (k : ℕ). k * b) none))
    cases (equal t) = tie a b t ∙ ap (λ (k : ℕ). k + k % 2) none

-- ---- by the whole number of halves

pub record Halves (a b h : ℕ) : Type 0 where
  pub even : h % 2 ≡ 0 → nearest_even a b ≡ h / 2
  pub more : h % 2 ≡ 1 → h * b < 2 * a → nearest_even a b ≡ h / 2 + 1
  pub tied : h % 2 ≡ 1 → 2 * a ≤ h * b → nearest_even a b ≡ h / 2 + h / 2 % 2

-- h halves fit into a / b
pub nearest_even-halves : (a b : ℕ) → 0 < b → Halves a b (2 * a / b)
nearest_even-halves a b B = cases (side a b)
  where
    q : ℕ
    q = a / b

    at : (h : ℕ) → 2 * a / b ≡ h → Halves a b h → Halves a b (2 * a / b)
    at h e k = subst (Halves a b) (sym e) k

    fewer : 2 * (a % b) < b → Halves a b (2 * q)
    fewer h = record {
      even = λ e. below_half a b h ∙ omega arith;
      more = λ e. absurd (omega arith);
      tied = λ e. absurd (omega arith);
    }

    half : (2 * q + 1) / 2 ≡ q
    half = omega arith

    further : b < 2 * (a % b) → Halves a b (2 * q + 1)
    further h = record {
      even = λ e. absurd (omega arith);
      more = λ e l. above_half a b h ∙ ap (λ (k : ℕ). k + 1) (sym half);
      tied = λ e l. absurd (omega (arith, divides a b, h));
    }

    halfway : 2 * (a % b) ≡ b → Halves a b (2 * q + 1)
    halfway t = record {
      even = λ e. absurd (omega arith);
      more = λ e l. absurd (omega (arith, divides a b, t));
      tied = λ e l. tie a b t ∙ ap (λ (k : ℕ). k + k % 2) (sym half);
    }

    cases : Side a b → Halves a b (2 * a / b)
    cases (under h) = at (2 * q) (quotient (2 * a) b (2 * q) B (omega (arith, divides a b)) (omega (arith, divides a b, h))) (fewer h)
    cases (over h) = at (2 * q + 1) (quotient (2 * a) b (2 * q + 1) B (omega (arith, divides a b, h)) (omega (arith, divides a b, h, mod-lt a B))) (further h)
    cases (equal t) = at (2 * q + 1) (quotient (2 * a) b (2 * q + 1) B (omega (arith, divides a b, t)) (omega (arith, divides a b, t, B))) (halfway t)

-- ---- the same fraction written otherwise

-- the remainder of the same fraction is on the same side of a half
module _ (a b c d : ℕ) (B : 0 < b) (D : 0 < d) (e : a * d ≡ c * b) where
  abbrev q : ℕ
  q = a / b

  -- c / d has the same whole part
  whole : c / d ≡ q
  whole =
      let l : q * b * d ≤ c * b = omega (arith, ap (λ (k : ℕ). k * d) (divides a b), e) in
      let low : b * (q * d) < b * (c + 1) = omega (arith, l, B) in
      let r : a % b * d < b * d = native.Mathlib.Nat.mul-lt-mul_of_pos_right (mod-lt a B) D in
      let high : b * c < b * (q * d + d) = omega (arith, ap (λ (k : ℕ). k * d) (divides a b), e, r) in
      quotient c d q D (omega (arith, lt_of_mul-lt-mul_left b low)) (lt_of_mul-lt-mul_left b high)

  -- and the same remainder over its divisor
  rest : a % b * d ≡ c % d * b
  rest = omega (arith, ap (λ (k : ℕ). k * d) (divides a b), ap (λ (k : ℕ). k * b) (divides c d), ap (λ (k : ℕ). k * d * b) whole, e)

  pub nearest_even-same : nearest_even a b ≡ nearest_even c d
  nearest_even-same = cases (side a b)
    where
      cases : Side a b → nearest_even a b ≡ nearest_even c d
      cases (under h) =
          let l : b * (2 * (c % d)) < b * d = omega (arith, rest, native.Mathlib.Nat.mul-lt-mul_of_pos_right h D) in
          below_half a b h ∙ sym (below_half c d (lt_of_mul-lt-mul_left b l) ∙ whole)
      cases (over h) =
          let l : b * d < b * (2 * (c % d)) = omega (arith, rest, native.Mathlib.Nat.mul-lt-mul_of_pos_right h D) in
          above_half a b h ∙ sym (above_half c d (lt_of_mul-lt-mul_left b l) ∙ ap (λ (k : ℕ). k + 1) whole)
      cases (equal t) =
          let l : b * (2 * (c % d)) ≡ b * d = omega (arith, rest, ap (λ (k : ℕ). k * d) t) in
          tie a b t ∙ sym (tie c d (native.Mathlib.Nat.eq_of_mul-eq-mul_left b B _ _ l) ∙ ap (λ (k : ℕ). k + k % 2) whole)
