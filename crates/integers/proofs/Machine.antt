-- Machine integers in proofs. A signed local is its bits: `to_z w` reads them and `of_z w` writes them.
-- In order: bits that are 0; bytes; ranges; a product that is added to a sum; lists filled from the front, and of one value.
-- Assumes nothing.
use mathlib.Core.Path.{◌≡◌, refl, sym, ap, subst, ◌∙◌}
use mathlib.Core.Bool.{Bool, cond}
use mathlib.Core.List.{List, [], ◌∷◌, ◌++◌}
use Prim.Native.Nat.{ℕ, zero, suc, ◌+◌, ◌^◌, ◌≤◌, ◌<◌}
use native.Mathlib.Nat.{not-suc-le-zero, le_of_suc-le-suc, lt_of_le_of_lt}
use native.Mathlib.Decide.{dec_lt}
use native.Mathlib.Numerals.{add-one}
use native.Mathlib.Omega.{arith}
use borrow.Author.Tests.{lt-ltb, le-ltb}
use lib.Dec.{T, leb, ltb}
use lib.ListN.{length, get_or, set, drop, replicate, get_or-append}
use lib.Seq.{ext_get_or}
use lib.IntN.{ℤ, pos, negsuc, nat_abs}
use lib.Signed.{mag, shr_z, mag_shr}
use mir.Syntax.{Width, w8}
use mir.Val.{Fits, SFits, hbits, to_z, of_z}
use mir.Facts.{to_z-of_z, sfits_widen}
use Rattle.integers.specs.Sums.{tabulate}

-- ---- bits that are 0

pub zero-of-nat_abs : (z : ℤ) → nat_abs z ≡ 0 → z ≡ pos 0
zero-of-nat_abs (pos n) e = ap pos e
zero-of-nat_abs (negsuc n) e = absurd (omega arith)

-- ---- bytes

-- Each element is a byte, past the end too, where 0 stands. What is known of a slice (`.shared-slice-known .given`) is this.
abbrev pub AllBytes : List ℕ → Type 0
AllBytes l = (i : ℕ) → Fits w8 (get_or l i 0)

-- ---- ranges

mag-le : (z : ℤ) → mag z ≤ nat_abs z
mag-le (pos n) = omega arith
mag-le (negsuc n) = omega arith

-- a magnitude below half the width's power fits the width
pub sfits-of-nat_abs : (w : Width) {z : ℤ} {b : ℕ} → nat_abs z ≤ b → b < 2 ^ hbits w → SFits w z
sfits-of-nat_abs w {z} {b} h k = record { sfits = omega (arith, mag-le z) }

-- an element that was read out of an array: its range is the bound that the read gives
pub read-given : (w : Width) (z : ℤ) → mag z < 2 ^ hbits w → to_z w (of_z w z) ≡ z
read-given w z h = to_z-of_z (record { sfits = h })

-- a number read from its bits, cast to a wider signed width and read again: `read_wide w32 w64 tt f`
pub read_wide : (w w' : Width) {z : ℤ} → T (leb (hbits w) (hbits w')) → SFits w z → to_z w' (of_z w' (to_z w (of_z w z))) ≡ z
read_wide w w' t f = ap (λ (x : ℤ). to_z w' (of_z w' x)) (to_z-of_z f) ∙ to_z-of_z (sfits_widen t f)

-- a number read from its bits, shifted right and read again: what is held is the quotient rounded toward minus infinity
pub read-shifted : (w : Width) (z : ℤ) (m : ℕ) → mag z < 2 ^ hbits w → to_z w (of_z w (shr_z (to_z w (of_z w z)) m)) ≡ shr_z z m
read-shifted w z m h = ap (λ (x : ℤ). to_z w (of_z w (shr_z x m))) (read-given w z h) ∙ read-given w (shr_z z m) (lt_of_le_of_lt (mag_shr z m) h)

-- ---- sum + (a as i64) * b, for an i64 sum, an i32 a and an i64 b

-- ---- a list filled from the front: the first i elements are f 0 up to f (i - 1), the rest is as it was

pub filled : (f : ℕ → ℤ) (i : ℕ) (xs : List ℤ) → List ℤ
filled f i xs = tabulate i f ++ drop i xs

pub filled_none : (f : ℕ → ℤ) (xs : List ℤ) → filled f 0 xs ≡ xs
unfolding filled
filled_none f xs = refl

filled-suc : (f : ℕ → ℤ) (i : ℕ) (xs : List ℤ) → i < length xs → set (filled f i xs) i (f i) ≡ filled f (suc i) xs
unfolding filled
filled-suc f i [] h = absurd (not-suc-le-zero h)
filled-suc f zero (x ∷ xs) h = refl
filled-suc f (suc i) (x ∷ xs) h = ap (λ (l : List ℤ). f 0 ∷ l) (filled-suc (λ j. f (suc j)) i xs (le_of_suc-le-suc h))

pub filled_more : (f : ℕ → ℤ) (i : ℕ) (xs : List ℤ) → i < length xs → set (filled f i xs) i (f i) ≡ filled f (i + 1) xs
filled_more f i xs h = subst (λ (k : ℕ). set (filled f i xs) i (f i) ≡ filled f k xs) (sym (add-one i)) (filled-suc f i xs h)

pub length-filled : (f : ℕ → ℤ) (i : ℕ) (xs : List ℤ) → i ≤ length xs → length (filled f i xs) ≡ length xs
unfolding filled
length-filled f zero xs h = refl
length-filled f (suc i) [] h = absurd (not-suc-le-zero h)
length-filled f (suc i) (x ∷ xs) h = ap suc (length-filled (λ j. f (suc j)) i xs (le_of_suc-le-suc h))

-- a whole list filled
pub filled-all : (f : ℕ → ℤ) (i : ℕ) (xs : List ℤ) → length xs ≡ i → filled f i xs ≡ tabulate i f
unfolding filled
filled-all f zero [] e = refl
filled-all f zero (x ∷ xs) e = absurd (omega arith)
filled-all f (suc i) [] e = absurd (omega arith)
filled-all f (suc i) (x ∷ xs) e = ap (λ (l : List ℤ). f 0 ∷ l) (filled-all (λ j. f (suc j)) i xs (omega arith))

pub length-tabulate : (n : ℕ) (f : ℕ → ℤ) → length (tabulate n f) ≡ n
length-tabulate zero f = refl
length-tabulate (suc n) f = ap suc (length-tabulate n (λ i. f (suc i)))

pub get_or-tabulate : (n : ℕ) (f : ℕ → ℤ) (i : ℕ) (d : ℤ) → i < n → get_or (tabulate n f) i d ≡ f i
get_or-tabulate zero f i d h = absurd (not-suc-le-zero h)
get_or-tabulate (suc n) f zero d h = refl
get_or-tabulate (suc n) f (suc i) d h = get_or-tabulate n (λ j. f (suc j)) i d (le_of_suc-le-suc h)

pub tabulate-cong : (n : ℕ) {f g : ℕ → ℤ} → ((i : ℕ) → i < n → f i ≡ g i) → tabulate n f ≡ tabulate n g
tabulate-cong zero e = refl
tabulate-cong (suc n) {f} {g} e = λ j. e 0 (native.Mathlib.Nat.zero-lt-suc n) j ∷ tabulate-cong n {f = λ i. f (suc i)} {g = λ i. g (suc i)} (λ i h. e (suc i) (Prim.Native.Nat.suc-le-suc h)) j

pub get_or-filled : (f : ℕ → ℤ) (i : ℕ) (xs : List ℤ) (j : ℕ) (d : ℤ) → j < i → get_or (filled f i xs) j d ≡ f j
unfolding filled
get_or-filled f i xs j d h =
    get_or-append (tabulate i f) (drop i xs) d j (subst (λ (k : ℕ). j < k) (sym (length-tabulate i f)) h) ∙ get_or-tabulate i f j d h

pub get_or-unfilled : (f : ℕ → ℤ) (i : ℕ) (xs : List ℤ) (j : ℕ) (d : ℤ) → i ≤ length xs → i ≤ j → get_or (filled f i xs) j d ≡ get_or xs j d
unfolding filled
get_or-unfilled f zero xs j d h l = refl
get_or-unfilled f (suc i) [] j d h l = absurd (not-suc-le-zero h)
get_or-unfilled f (suc i) (x ∷ xs) zero d h l = absurd (not-suc-le-zero l)
get_or-unfilled f (suc i) (x ∷ xs) (suc j) d h l = get_or-unfilled (λ k. f (suc k)) i xs j d (le_of_suc-le-suc h) (le_of_suc-le-suc l)

-- a list filled as far as i, place by place
pub filled-some : (f : ℕ → ℤ) (i : ℕ) (xs : List ℤ) → i ≤ length xs → filled f i xs ≡ tabulate (length xs) (λ k. cond (ltb k i) (f k) (get_or xs k (pos 0)))
filled-some f i xs h =
    ext_get_or (pos 0) (filled f i xs) (tabulate (length xs) g) (length-filled f i xs h ∙ sym (length-tabulate (length xs) g))
    (λ k l. at k ∙ sym (get_or-tabulate (length xs) g k (pos 0) (subst (λ (n : ℕ). k < n) (length-filled f i xs h) l)))
  where
    g : ℕ → ℤ
    g k = cond (ltb k i) (f k) (get_or xs k (pos 0))

    at : (k : ℕ) → get_or (filled f i xs) k (pos 0) ≡ g k
    at k = elim (dec_lt k i) [ yes b ↦ get_or-filled f i xs k (pos 0) b ∙ sym (ap (λ (t : Bool). cond t (f k) (get_or xs k (pos 0))) (lt-ltb k i b)) | no c ↦ get_or-unfilled f i xs k (pos 0) h (omega (arith, c)) ∙ sym (ap (λ (t : Bool). cond t (f k) (get_or xs k (pos 0))) (le-ltb k i (omega (arith, c)))) ]

-- ---- a list of one value, which is also what it has beyond its end

pub get_or-replicate-default : {A : Type 0} (n i : ℕ) (a : A) → get_or (replicate n a) i a ≡ a
get_or-replicate-default zero i a = refl
get_or-replicate-default (suc n) zero a = refl
get_or-replicate-default (suc n) (suc i) a = get_or-replicate-default n i a
