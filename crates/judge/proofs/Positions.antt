-- Verdicts 2 to 4 by the positions that a search of a sweep's lists gives. In order: a position is the first place; the verdict by the two
-- positions. Assumes nothing.
use Rattle.std.proofs.Common.{◌≡◌, refl, sym, ap, ap₂, ◌∙◌, Bool, true, false, cond, not, ℕ, suc, ◌+◌, ◌≤◌, ltb, List, [], ◌∷◌, length, get_or, ℤ, pos, ◌-ℤ◌, Option, Some, None, Ok, Err, zip, position, arith}
use Rattle.std.specs.List.{position_or_len}
use Rattle.std.proofs.lemmas.Slice.Zip.{length-zip, get_or-zip}
use Rattle.integers.specs.Sums.{vector}
use Rattle.reachability.specs.Recurrence.{first_place}
use Rattle.reachability.specs.Verdicts.{reaches, hit_at, unknown_at, verdict_below}
use Rattle.reachability.specs.declared.refusals.CallRefusal.TheVariants.{WrongLength}
use Rattle.reachability.specs.declared.verdicts.Verdict.{Verdict}
use Rattle.reachability.specs.declared.verdicts.Verdict.TheVariants.{Hit, Unknown, Clear}
use Rattle.reachability.proofs.FirstPlace.{first_place-cong}
use Rattle.judge.specs.Answers.{list_answer}
use Rattle.judge.proofs.Answers.{lists-ok}

-- ---- a position is the first place

first : {A : Type 0} (p : A → Bool) (xs : List A) (d : A) → position_or_len p xs ≡ first_place (length xs) (λ k. p (get_or xs k d))
unfolding first_place
first p [] d = refl
first p (x ∷ xs) d = cases (p x) _ _ (first p xs d)
  where
    cases : (b : Bool) (m n : ℕ) → m ≡ n → cond (not b) (1 + m) 0 ≡ cond b 0 (suc n)
    cases true m n e = refl
    cases false m n e = omega (arith, e)

-- k, where it is below n
abbrev below : ℕ → ℕ → Option ℕ
below n k = cond (ltb k n) (Some k) None

unknown-position : (level : ℤ) (b : List ℤ) → position (reaches level) b ≡ below (length b) (first_place (length b) (unknown_at level (vector b)))
unknown-position level b = ap (below (length b)) (first (reaches level) b (pos 0))

abbrev hit : ℤ → ℤ × ℤ → Bool
hit level p = reaches level (p.0 -ℤ p.1)

hit-position : (level : ℤ) (b s : List ℤ) → length s ≡ length b → position (hit level) (zip b s) ≡ below (length b) (first_place (length b) (hit_at level (vector b) (vector s)))
hit-position level b s e =
    ap₂ below long
    (first (hit level) (zip b s) (pos 0, pos 0)
    ∙ ap (λ (n : ℕ). first_place n (λ k. hit level (get_or (zip b s) k (pos 0, pos 0)))) long
    ∙ first_place-cong (length b) _ (hit_at level (vector b) (vector s)) (λ k l. ap (hit level) (get_or-zip b s k (pos 0, pos 0) l (omega (arith, l, e)))))
  where
    long : length (zip b s) ≡ length b
    long = omega (arith, length-zip b s, e)

-- ---- the verdict by the two positions

abbrev verdict_from : Option ℕ → Option ℕ → Verdict
verdict_from (Some k) u = Hit k
verdict_from None (Some k) = Unknown k
verdict_from None None = Clear

by_positions : (level : ℤ) (b s : List ℤ) → length s ≡ length b → verdict_from (position (hit level) (zip b s)) (position (reaches level) b) ≡ verdict_below (length b) level (vector b) (vector s)
by_positions level b s e = ap₂ verdict_from (hit-position level b s e) (unknown-position level b) ∙ cases (ltb h n) (ltb u n)
  where
    n : ℕ
    n = length b

    h : ℕ
    h = first_place n (hit_at level (vector b) (vector s))

    u : ℕ
    u = first_place n (unknown_at level (vector b))

    cases : (t v : Bool) → verdict_from (cond t (Some h) None) (cond v (Some u) None) ≡ cond t (Hit h) (cond v (Unknown u) Clear)
    cases true v = refl
    cases false true = refl
    cases false false = refl

pub judged-lists : {level level' : ℤ} (b s : List ℤ) {h u : Option ℕ} → level' ≡ level → length s ≡ length b → (2 ≤ length b) × (length b ≤ 257) → h ≡ position (λ p. reaches level' (p.0 -ℤ p.1)) (zip b s) → u ≡ position (reaches level') b → Ok (verdict_from h u) ≡ list_answer level b s
judged-lists {level} {level'} b s x e long p q =
    ap Ok (ap₂ verdict_from p q ∙ by_positions level' b s e ∙ ap (λ (z : ℤ). verdict_below (length b) z (vector b) (vector s)) x)
    ∙ sym (ap (λ (t : Bool). cond t (Ok (verdict_below (length b) level (vector b) (vector s))) (Err WrongLength)) (lists-ok (length b) (length s) e long.0 long.1))
