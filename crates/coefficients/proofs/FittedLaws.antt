-- Laws of `entry_of_bits` (File 12 to 14), for all bits, over whole numbers. In order: how far an entry is from the exact product; a
-- tie goes to the even entry; a product that is an entry; products of at most a half. Assumes nothing.
use Rattle.std.proofs.Common.{Result, Ok, Err, ◌≡◌, ℕ, ◌+◌, ◌*◌, ◌%◌, ◌<◌, ◌≤◌, Bool, true, false, ◌&&◌, leb, ◌⊎◌, ℤ, pos, negsuc, ◌-ℤ◌, ◌*ℤ◌, neg_ℤ, nat_abs, sym, refl, ap, ◌∙◌, subst, inl, inr, ⊎_elim, true≢false, mul-le-mul_right, arith, le-leb}
use native.Mathlib.Nat.{eq_of_mul-eq-mul_right}
use Rattle.integers.specs.Whole.{NearHalves}
use Rattle.integers.proofs.SignedParts.{v, #, neg, ◌⊗◌, halves!, apart?, eq?}
use Rattle.integers.proofs.Order.{nat_abs_mul}
use Rattle.stepping.specs.Limits.{matrix_unit, entry_limit}
use Rattle.coefficients.specs.declared.EntryRefusal.{EntryRefusal}
use Rattle.coefficients.specs.Binary64.{is_negative, is_finite, binary64_unit, magnitude_of, signed, exact_value}
use Rattle.integers.specs.Whole.{nearest_even}
use Rattle.coefficients.specs.Entries.{fitted_ok, fitted_entry, entry_of_bits, entry_value}
use Rattle.integers.proofs.NearestEven.{NearEven, nearest_even-near, nearest_even-whole, nearest_even-tie, nearest_even-small}
use Rattle.coefficients.proofs.Values.{unit-pos}
use Rattle.coefficients.proofs.Fitting.{nat_abs-signed, accepted-bits, refused-bits}

-- an answer that is an entry is the fitted entry
entry-only : (bits : ℕ) (entry : ℤ) → entry_of_bits bits ≡ Ok entry → entry ≡ fitted_entry bits
entry-only bits entry e = cases (fitted_ok bits) refl
  where
    number : Result ℤ EntryRefusal → Bool
    number (Ok z) = true
    number (Err k) = false

    cases : (b : Bool) → fitted_ok bits ≡ b → entry ≡ fitted_entry bits
    cases true ok = ap entry_value (sym e ∙ accepted-bits bits ok)
    cases false no-entry = absurd (true≢false (ap number (sym e ∙ refused-bits bits no-entry)))

-- ---- File 13: twice the distance to the exact product is at most one unit

signed-near : (s : Bool) (k m p : ℕ) → NearEven (matrix_unit * m) p k → NearHalves (signed s k *ℤ pos p) (pos matrix_unit *ℤ signed s m) p
signed-near true k m p n = halves! (neg (# k) ⊗ # p) (# matrix_unit ⊗ neg (# m)) p (omega (arith, n.not-below)) (omega (arith, n.not-above))
signed-near false k m p n = halves! (# k ⊗ # p) (# matrix_unit ⊗ # m) p (omega (arith, n.not-above)) (omega (arith, n.not-below))

pub entry-near : (bits : ℕ) (entry : ℤ) → entry_of_bits bits ≡ Ok entry → NearHalves (entry *ℤ pos binary64_unit) (pos matrix_unit *ℤ exact_value bits) binary64_unit
unfolding fitted_entry
entry-near bits entry e =
    subst (λ (z : ℤ). NearHalves (z *ℤ pos binary64_unit) (pos matrix_unit *ℤ exact_value bits) binary64_unit) (sym (entry-only bits entry e))
    (signed-near (is_negative bits) (nearest_even (matrix_unit * magnitude_of bits) binary64_unit) (magnitude_of bits) binary64_unit (nearest_even-near (matrix_unit * magnitude_of bits) binary64_unit unit-pos))

-- ---- File 13: where the exact product lies in the middle between two entries, the entry is even

signed-apart : (s : Bool) (k m p : ℕ) → 2 * nat_abs (signed s k *ℤ pos p -ℤ pos matrix_unit *ℤ signed s m) ≡ p
    → (2 * (matrix_unit * m) ≡ 2 * (k * p) + p) ⊎ (2 * (k * p) ≡ 2 * (matrix_unit * m) + p)
signed-apart true k m p e =
    ⊎_elim (λ z. inr (omega (arith, z, e))) (λ z. inl (omega (arith, z, e)))
    (apart? (neg (# k) ⊗ # p) (# matrix_unit ⊗ neg (# m)) (nat_abs (neg_ℤ (pos k) *ℤ pos p -ℤ pos matrix_unit *ℤ neg_ℤ (pos m))) refl)
signed-apart false k m p e =
    ⊎_elim (λ z. inl (omega (arith, z, e))) (λ z. inr (omega (arith, z, e)))
    (apart? (# k ⊗ # p) (# matrix_unit ⊗ # m) (nat_abs (pos k *ℤ pos p -ℤ pos matrix_unit *ℤ pos m)) refl)

pub entry-tie : (bits : ℕ) (entry : ℤ) → entry_of_bits bits ≡ Ok entry → 2 * nat_abs (entry *ℤ pos binary64_unit -ℤ pos matrix_unit *ℤ exact_value bits) ≡ binary64_unit → nat_abs entry % 2 ≡ 0
unfolding fitted_entry
entry-tie bits entry e far =
    let k = nearest_even (matrix_unit * magnitude_of bits) binary64_unit in
    let is : entry ≡ signed (is_negative bits) k = entry-only bits entry e in
    let half = subst (λ (z : ℤ). 2 * nat_abs (z *ℤ pos binary64_unit -ℤ pos matrix_unit *ℤ exact_value bits) ≡ binary64_unit) is far in
    ap (λ (z : ℤ). nat_abs z % 2) is
    ∙ ap (λ (n : ℕ). n % 2) (nat_abs-signed (is_negative bits) k)
    ∙ nearest_even-tie (matrix_unit * magnitude_of bits) binary64_unit unit-pos (signed-apart (is_negative bits) k (magnitude_of bits) binary64_unit half)

-- ---- File 14: an exact product that a scaled row can hold is the entry

-- the magnitudes on both sides
sizes : (s : Bool) (entry : ℤ) (m p : ℕ) → entry *ℤ pos p ≡ pos matrix_unit *ℤ signed s m → nat_abs entry * p ≡ matrix_unit * m
sizes s entry m p e = sym (nat_abs_mul entry (pos p)) ∙ ap nat_abs e ∙ nat_abs_mul (pos matrix_unit) (signed s m) ∙ ap (λ (k : ℕ). matrix_unit * k) (nat_abs-signed s m)

-- and the sign
signed_back : (s : Bool) (entry : ℤ) (m p : ℕ) → 0 < p → entry *ℤ pos p ≡ pos matrix_unit *ℤ signed s m → signed s (nat_abs entry) ≡ entry
signed_back true (pos n) m p P e =
    let none : n * p ≡ 0 * p = omega (arith, eq? (# n ⊗ # p) (# matrix_unit ⊗ neg (# m)) e) in
    let zero : n ≡ 0 = eq_of_mul-eq-mul_right p P n 0 none in
    ap (λ (k : ℕ). signed true k) zero ∙ ap pos (sym zero)
signed_back true (negsuc n) m p P e = refl
signed_back false (pos n) m p P e = refl
signed_back false (negsuc n) m p P e = absurd (omega (arith, eq? (v (negsuc n) ⊗ # p) (# matrix_unit ⊗ # m) e, P))

pub entry-exact : (bits : ℕ) (entry : ℤ) → is_finite bits ≡ true → nat_abs entry ≤ entry_limit → entry *ℤ pos binary64_unit ≡ pos matrix_unit *ℤ exact_value bits → entry_of_bits bits ≡ Ok entry
unfolding fitted_ok fitted_entry
entry-exact bits entry f few e =
    let n = nat_abs entry in
    let m = magnitude_of bits in
    let size : n * binary64_unit ≡ matrix_unit * m = sizes (is_negative bits) entry m binary64_unit e in
    let within : m ≤ 2 * binary64_unit = omega (arith, size, mul-le-mul_right binary64_unit few) in
    let ok : fitted_ok bits ≡ true = ap (λ (b : Bool). b && leb m (2 * binary64_unit)) f ∙ le-leb m (2 * binary64_unit) within in
    let rounded : nearest_even (matrix_unit * m) binary64_unit ≡ n = ap (λ (k : ℕ). nearest_even k binary64_unit) (sym size) ∙ nearest_even-whole n binary64_unit unit-pos in
    accepted-bits bits ok ∙ ap Ok (ap (signed (is_negative bits)) rounded ∙ signed_back (is_negative bits) entry m binary64_unit unit-pos e)

-- ---- File 12: both zeros, and all that is at most half a unit, become 0

pub entry-small : (bits : ℕ) → is_finite bits ≡ true → 2 * (matrix_unit * magnitude_of bits) ≤ binary64_unit → entry_of_bits bits ≡ Ok (pos 0)
unfolding fitted_ok fitted_entry
entry-small bits f h =
    let m = magnitude_of bits in
    let ok : fitted_ok bits ≡ true = ap (λ (b : Bool). b && leb m (2 * binary64_unit)) f ∙ le-leb m (2 * binary64_unit) (omega (arith, h)) in
    accepted-bits bits ok ∙ ap Ok (ap (signed (is_negative bits)) (nearest_even-small (matrix_unit * m) binary64_unit unit-pos h) ∙ nought (is_negative bits))
  where
    nought : (s : Bool) → signed s 0 ≡ pos 0
    nought true = refl
    nought false = refl
