-- Texts one behind the other: their length, and what stands before and behind one of them; and as bytes and loops put them. Assumes
-- nothing.
use mathlib.Core.Path.{◌≡◌, refl, sym, ap, ap₂, subst, ◌∙◌}
use mathlib.Core.Bool.{Bool, cond}
use mathlib.Core.List.{List, [], ◌∷◌, ◌++◌, append_assoc, append-nil}
use Prim.Native.Nat.{ℕ, zero, suc, ◌+◌, ◌*◌, ◌<◌}
use native.Mathlib.Decide.{dec_lt}
use native.Mathlib.Numerals.{add-one}
use native.Mathlib.Omega.{arith}
use borrow.Author.Tests.{eq-eqb, ne_eqb}
use lib.Dec.{eqb}
use lib.ListN.{length, set, length-append, length-set}
use Rattle.text.specs.Text.{each}
use Rattle.text.specs.Put.{Put}
use Rattle.text.proofs.Putting.{splice-none, splice-before, put_then, put_is, put-most}

-- ---- the texts

-- of one length
pub length-each : (n size : ℕ) (text : ℕ → List ℕ) → ((k : ℕ) → length (text k) ≡ size) → length (each n text) ≡ size * n
length-each zero size text all = omega arith
length-each (suc n) size text all = omega (arith, length-append (each n text) (text n), length-each n size text all, all n)

-- what stands behind text i
pub behind : ℕ → (ℕ → List ℕ) → ℕ → List ℕ
behind zero f i = []
behind (suc n) f i = cond (eqb i n) [] (behind n f i ++ f n)

pub each_at : (n : ℕ) (f : ℕ → List ℕ) (i : ℕ) → i < n → each n f ≡ each i f ++ (f i ++ behind n f i)
unfolding behind
each_at zero f i h = absurd (omega arith)
each_at (suc n) f i h = elim (dec_lt i n) [ yes l ↦ earlier l (each_at n f i l) | no g ↦ last (omega (arith, g)) ]
  where
    earlier : i < n → each n f ≡ each i f ++ (f i ++ behind n f i) → each n f ++ f n ≡ each i f ++ (f i ++ behind (suc n) f i)
    earlier l before =
        ap (λ (t : List ℕ). t ++ f n) before
        ∙ append_assoc (each i f) (f i ++ behind n f i) (f n)
        ∙ ap (λ (t : List ℕ). each i f ++ t) (append_assoc (f i) (behind n f i) (f n))
        ∙ ap (λ (b : Bool). each i f ++ (f i ++ cond b [] (behind n f i ++ f n))) (sym (ne_eqb i n (λ e. omega arith)))

    last : i ≡ n → each n f ++ f n ≡ each i f ++ (f i ++ behind (suc n) f i)
    last e =
        ap (λ (k : ℕ). each k f ++ f k) (sym e)
        ∙ ap (λ (t : List ℕ). each i f ++ t) (sym (append-nil (f i)))
        ∙ ap (λ (b : Bool). each i f ++ (f i ++ cond b [] (behind n f i ++ f n))) (sym (eq-eqb i n e))

-- ---- one byte put into a buffer

pub put_byte : (b : List ℕ) (i x : ℕ) → i < length b → Put 1 i (x ∷ []) b (set b i x) (i + 1)
put_byte b i x h =
    record {
      end = refl;
      small = omega arith;
      room = omega (arith, h);
      text = ap (λ (l : List ℕ). set l i x) (sym (splice-none b (suc i))) ∙ splice-before b [] i x h;
    }

-- two bytes, which are those of the text
pub put-pair : (b : List ℕ) (i x y : ℕ) {u v : ℕ} → u ≡ x → v ≡ y → i + 1 < length b → Put 2 i (x ∷ y ∷ []) b (set (set b i u) (i + 1) v) (i + 2)
put-pair b i x y {u} {v} p q h =
    put_is (x ∷ y ∷ []) (ap₂ (λ (j k : ℕ). j ∷ k ∷ []) p q)
    (subst (Put 2 i (u ∷ v ∷ []) b (set (set b i u) (i + 1) v)) two (put_then (put_byte b i u (omega (arith, h))) (put_byte (set b i u) (i + 1) v (subst (λ (k : ℕ). i + 1 < k) (sym (length-set b i u)) h))))
  where
    two : i + 1 + 1 ≡ i + 2
    two = omega arith

-- ---- texts one after the other, as a loop puts them

pub put-each : (size k : ℕ) (text : ℕ → List ℕ) {at : ℕ} {b c d : List ℕ} {r s : ℕ} → Put (size * k) at (each k text) b c r → Put size r (text k) c d s → Put (size * (k + 1)) at (each (k + 1) text) b d s
put-each size k text {at} {b} {d = d} {s = s} p q =
    subst (λ (j : ℕ). Put (size * j) at (each j text) b d s) (sym (add-one k)) (put-most (size * suc k) (omega arith) (put_then p q))
