-- Texts in a buffer: what one function put and what the next put behind it are one text; nothing is cut where the rooms add up.
-- Assumes nothing.
use mathlib.Core.Path.{◌≡◌, sym, ap, ap₂, subst, ◌∙◌}
use mathlib.Core.List.{List, [], ◌∷◌, ◌++◌, append_assoc}
use Prim.Native.Nat.{ℕ, suc, ◌+◌, ◌≤◌, ◌<◌}
use native.Mathlib.Nat.{le_of_lt, add-suc, suc-add}
use native.Mathlib.Omega.{arith}
use lib.ListN.{length, get_or, set, take, drop, length-append, length-drop}
use lib.Seq.{length-take-le, take-suc, set_at, take_at, drop-append-add, drop-drop, paste, paste-zero, take-length}
use Rattle.text.specs.Put.{splice, Put, Puts}

-- ---- one text over a buffer

-- the bytes up to the text's end
length-head : (b : List ℕ) (at : ℕ) (t : List ℕ) → at ≤ length b → length (take at b ++ t) ≡ at + length t
length-head b at t h = length-append (take at b) t ∙ ap (λ (k : ℕ). k + length t) (length-take-le at b h)

pub length-splice : (b : List ℕ) (at : ℕ) (t : List ℕ) → at + length t ≤ length b → length (splice b at t) ≡ length b
length-splice b at t h =
    let head = length-head b at t (omega arith) in
    let rest = length-drop (at + length t) b in
    let both = length-append (take at b ++ t) (drop (at + length t) b) in
    omega (arith, head, rest, both)

pub splice-paste : (b : List ℕ) (at : ℕ) (t : List ℕ) → paste b at t (length t) ≡ splice b at t
splice-paste b at t = ap (λ (x : List ℕ). take at b ++ x ++ drop (at + length t) b) (take-length t)

pub splice-none : (b : List ℕ) (at : ℕ) → splice b at [] ≡ b
splice-none b at = sym (paste-zero b at [])

-- a byte in front of the text
pub splice-before : (b t : List ℕ) (i : ℕ) (x : ℕ) → i < length b → set (splice b (suc i) t) i x ≡ splice b i (x ∷ t)
splice-before b t i x h =
    let y = get_or b i 0 in
    let rest = drop (suc i + length t) b in
    ap (λ (p : List ℕ). set (p ++ t ++ rest) i x) (take-suc b i 0 h)
    ∙ ap (λ (l : List ℕ). set l i x) (append_assoc (take i b ++ (y ∷ [])) t rest ∙ append_assoc (take i b) (y ∷ []) (t ++ rest))
    ∙ set_at (take i b) y (t ++ rest) x i (length-take-le i b (le_of_lt h))
    ∙ sym (append_assoc (take i b) (x ∷ t) rest)
    ∙ ap (λ (k : ℕ). take i b ++ (x ∷ t) ++ drop k b) (suc-add i (length t) ∙ sym (add-suc i (length t)))

-- ---- what was put

module _ {m at : ℕ} {t b c : List ℕ} {r : ℕ} where
  pub put-length : Put m at t b c r → length c ≡ length b
  put-length p = ap length p.text ∙ length-splice b at t (subst (λ (k : ℕ). k ≤ length b) p.end p.room)

  pub put-near : Put m at t b c r → r ≤ at + m
  put-near p = omega (arith, p.end, p.small)

  pub put-most : (n : ℕ) → m ≤ n → Put m at t b c r → Put n at t b c r
  put-most n h p = record { end = p.end; small = omega (arith, p.small, h); room = p.room; text = p.text }

  pub put_is : (u : List ℕ) → t ≡ u → Put m at t b c r → Put m at u b c r
  put_is u e p = subst (λ (x : List ℕ). Put m at x b c r) e p

  -- one text behind the other
  pub put_then : {n : ℕ} {u d : List ℕ} {s : ℕ} → Put m at t b c r → Put n r u c d s → Put (m + n) at (t ++ u) b d s
  put_then {n} {u} {d} {s} p q =
      let joined = length-append t u in
      let long = put-length p in
      record {
        end = omega (arith, joined, p.end, q.end);
        small = omega (arith, joined, p.small, q.small);
        room = subst (λ (k : ℕ). s ≤ k) (put-length p) q.room;
        text = q.text ∙ ap₂ (λ (x y : List ℕ). x ++ u ++ y) front back ∙ ap (λ (x : List ℕ). x ++ drop (at + length (t ++ u)) b) (append_assoc (take at b) t u);
      }
    where
      head : List ℕ
      head = take at b ++ t

      inside : at ≤ length b
      inside = omega (arith, p.end, p.room)

      long-head : length head ≡ r
      long-head = length-head b at t inside ∙ sym p.end

      front : take r c ≡ head
      front = ap (take r) p.text ∙ take_at head (drop (at + length t) b) r long-head

      ends : at + length t + length u ≡ at + length (t ++ u)
      ends = omega (arith, length-append t u)

      back : drop (r + length u) c ≡ drop (at + length (t ++ u)) b
      back =
          ap₂ (λ (k : ℕ) (x : List ℕ). drop (k + length u) x) (sym long-head) p.text
          ∙ drop-append-add head (drop (at + length t) b) (length u)
          ∙ drop-drop (length u) (at + length t) b
          ∙ ap (λ (k : ℕ). drop k b) ends

-- ---- where the room was tested

module _ {room at : ℕ} {t b : List ℕ} where
  pub puts-fits : {c : List ℕ} {r : ℕ} → at + room ≤ length b → Put room at t b c r → Puts room at t b c r
  puts-fits h p = record { fits = λ l. p; full = λ l. absurd (omega (arith, h, l)) }

  pub puts-is : {c : List ℕ} {r : ℕ} (u : List ℕ) → t ≡ u → Puts room at t b c r → Puts room at u b c r
  puts-is {c} {r} u e p = subst (λ (x : List ℕ). Puts room at x b c r) e p

-- a text of known bytes and length, where there is room for it
pub puts_whole : {at : ℕ} {w b c : List ℕ} {r : ℕ} (t : List ℕ) (k : ℕ) → w ≡ t → length t ≡ k → at + k ≤ length b → Puts (length w) at w b c r → Put k at t b c r
puts_whole {w = w} t k same long room p =
    put-most k (omega (arith, ap length same, long)) (put_is t same (p.fits (omega (arith, ap length same, long, room))))

-- a text behind another, where there is room for both
pub puts_then : {m n at : ℕ} {t u b c d : List ℕ} {r s : ℕ} → Put m at t b c r → Puts n r u c d s → at + (m + n) ≤ length b → Put (m + n) at (t ++ u) b d s
puts_then p q h = put_then p (q.fits (omega (arith, h, put-near p, put-length p)))
