-- What `iter().all(..)` answers, as a test over all places: of a list, of a list with the number of each element, and of a range;
-- and what `iter().fold(..)` answers that takes the larger. Assumes nothing.
use Prim.Native.Nat.{ℕ, zero, suc, ◌+◌, max}
use mathlib.Core.Path.{◌≡◌, refl, sym, ap, ◌∙◌}
use mathlib.Core.Bool.{Bool, ◌&&◌, ◌||◌}
use mathlib.Core.List.{List, [], ◌∷◌}
use native.Mathlib.Omega.{arith}
use native.Mathlib.Decide.{dec_lt}
use borrow.Author.Tests.{lt-ltb, le-ltb}
use lib.Dec.{ltb}
use lib.ListN.{length, get_or, drop}
use Rattle.std.specs.List.{fold, list_all, range_with_len, enumerate_from}
use Rattle.std.proofs.lemmas.List.FromFn.{length-range_with_len, get_or-range_with_len, length-enumerate_from, get_or-enumerate_from}
use Rattle.integers.specs.Sums.{all_below, max_ℕ}
use Rattle.integers.proofs.Booleans.{and-assoc, and-true-right}
use Rattle.integers.proofs.Sums.{all_below-cong}

zero_plus : (k : ℕ) → 0 + k ≡ k
zero_plus k = omega arith

-- the first place taken out
all_below-first : (n : ℕ) (f : ℕ → Bool) → all_below (suc n) f ≡ f 0 && all_below n (λ i. f (suc i))
unfolding all_below
all_below-first zero f = sym (and-true-right (f 0))
all_below-first (suc n) f = ap (λ (t : Bool). t && f (suc n)) (all_below-first n f) ∙ and-assoc (f 0) (all_below n (λ i. f (suc i))) (f (suc n))

pub list_all-places : {X : Type 0} (p : X → Bool) (xs : List X) (d : X) → list_all p xs ≡ all_below (length xs) (λ k. p (get_or xs k d))
unfolding all_below
list_all-places p [] d = refl
list_all-places p (x ∷ xs) d = ap (λ (t : Bool). p x && t) (list_all-places p xs d) ∙ sym (all_below-first (length xs) (λ k. p (get_or (x ∷ xs) k d)))

pub list_all-enumerated : {X : Type 0} (p : ℕ × X → Bool) (xs : List X) (d : X) → list_all p (enumerate_from 0 xs) ≡ all_below (length xs) (λ k. p (k, get_or xs k d))
list_all-enumerated p xs d =
    list_all-places p (enumerate_from 0 xs) (0, d)
    ∙ ap (λ (n : ℕ). all_below n (λ k. p (get_or (enumerate_from 0 xs) k (0, d)))) (length-enumerate_from 0 xs)
    ∙ all_below-cong (length xs) (λ k. p (get_or (enumerate_from 0 xs) k (0, d))) (λ k. p (k, get_or xs k d)) (λ k h. ap p (get_or-enumerate_from 0 xs k (0, d) h ∙ ap (λ (i : ℕ). (i, get_or xs k d)) (zero_plus k)))

pub list_all-range : (f : ℕ → Bool) (n : ℕ) → list_all f (range_with_len 0 n) ≡ all_below n f
list_all-range f n =
    list_all-places f (range_with_len 0 n) 0
    ∙ ap (λ (m : ℕ). all_below m (λ k. f (get_or (range_with_len 0 n) k 0))) (length-range_with_len 0 n)
    ∙ all_below-cong n (λ k. f (get_or (range_with_len 0 n) k 0)) f (λ k h. ap f (get_or-range_with_len 0 n k 0 h ∙ zero_plus k))

ltb-suc : (i k : ℕ) → ltb i k ≡ ltb (suc i) (suc k)
ltb-suc i k = elim (dec_lt i k) [ yes h ↦ lt-ltb i k h ∙ sym (lt-ltb (suc i) (suc k) (omega arith)) | no f ↦ le-ltb i k (omega (arith, f)) ∙ sym (le-ltb (suc i) (suc k) (omega (arith, f))) ]

-- of what is left of a list without its first k elements
pub list_all-dropped : {X : Type 0} (p : X → Bool) (k : ℕ) (xs : List X) (d : X) → list_all p (drop k xs) ≡ all_below (length xs) (λ i. ltb i k || p (get_or xs i d))
unfolding all_below
list_all-dropped p zero [] d = refl
list_all-dropped p (suc k) [] d = refl
list_all-dropped p zero (x ∷ xs) d =
    list_all-places p (x ∷ xs) d
    ∙ all_below-cong (suc (length xs)) (λ i. p (get_or (x ∷ xs) i d)) (λ i. ltb i 0 || p (get_or (x ∷ xs) i d)) (λ i h. ap (λ (t : Bool). t || p (get_or (x ∷ xs) i d)) (sym (le-ltb i 0 (omega arith))))
list_all-dropped p (suc k) (x ∷ xs) d =
    list_all-dropped p k xs d
    ∙ all_below-cong (length xs) (λ i. ltb i k || p (get_or xs i d)) (λ i. ltb (suc i) (suc k) || p (get_or xs i d)) (λ i h. ap (λ (t : Bool). t || p (get_or xs i d)) (ltb-suc i k))
    ∙ ap (λ (t : Bool). (t || p x) && all_below (length xs) (λ i. ltb (suc i) (suc k) || p (get_or xs i d))) (sym (lt-ltb 0 (suc k) (omega arith)))
    ∙ sym (all_below-first (length xs) (λ i. ltb i (suc k) || p (get_or (x ∷ xs) i d)))

-- the largest, from the first on
max_ℕ-first : (n : ℕ) (f : ℕ → ℕ) → max_ℕ (suc n) f ≡ max (f 0) (max_ℕ n (λ i. f (suc i)))
unfolding max_ℕ
max_ℕ-first zero f = omega arith
max_ℕ-first (suc n) f = let before = max_ℕ-first n f in omega arith

pub fold-max : {X : Type 0} (v : X → ℕ) (a : ℕ) (xs : List X) (d : X) → fold (λ m x. max m (v x)) a xs ≡ max a (max_ℕ (length xs) (λ k. v (get_or xs k d)))
unfolding max_ℕ
fold-max v a [] d = omega arith
fold-max v a (x ∷ xs) d =
    let after = fold-max v (max a (v x)) xs d in
    let first = max_ℕ-first (length xs) (λ k. v (get_or (x ∷ xs) k d)) in
    omega (arith, after, first)
