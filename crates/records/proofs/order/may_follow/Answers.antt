-- The answer of `records::order::may_follow`: kinds are bytes, so that equal numbers are of one place and one kind. Assumes nothing.
use Rattle.std.proofs.Common.{◌≡◌, ◌+◌, ◌*◌, ◌<◌, ℕ, zero, suc, Bool, true, false, ◌&&◌, ◌||◌, List, [], ◌∷◌, length, get_or, eqb, ltb, Any, refl, sym, ap, ap₂, ◌∙◌, arith}
use borrow.Author.Tests.{eq-eqb, eqb-true, ltb-true}
use Rattle.integers.proofs.Booleans.{and-true, or-true, same-test}
use Rattle.records.specs.Order.{order, listed, may_follow}
use Rattle.records.proofs.order.may_follow.Goals as goal

abbrev bytes : List (ℕ × ℕ) → Bool
bytes [] = true
bytes (p ∷ ps) = ltb p.1 256 && bytes ps

module _ (place kind : ℕ) (byte : kind < 256) where
  abbrev Same : ℕ × ℕ → Type 0
  Same p = 256 * p.0 + p.1 ≡ 256 * place + kind

  here : (p : ℕ × ℕ) → p.1 < 256 → Same p → (eqb p.0 place && eqb p.1 kind) ≡ true
  here p b e = ap₂ ◌&&◌ (eq-eqb p.0 place (omega arith)) (eq-eqb p.1 kind (omega arith))

  listed-of : (ps : List (ℕ × ℕ)) → bytes ps ≡ true → (i : ℕ) (x : ℕ × ℕ) → i < length ps → get_or ps i x ≡ x → Same x → listed place kind ps ≡ true
  listed-of [] t i x h is e = absurd (omega arith)
  listed-of (p ∷ ps) t zero x h is e =
      let first : p.1 < 256 = ltb-true p.1 256 (and-true (ltb p.1 256) (bytes ps) t).0 in
      ap (λ (b : Bool). b || listed place kind ps) (here p first (ap (λ (q : ℕ × ℕ). 256 * q.0 + q.1) is ∙ e))
  listed-of (p ∷ ps) t (suc i) x h is e =
      ap (λ (b : Bool). (eqb p.0 place && eqb p.1 kind) || b) (listed-of ps (and-true (ltb p.1 256) (bytes ps) t).1 i x (omega arith) is e)
      ∙ or-true (eqb p.0 place && eqb p.1 kind)

  listed-some : (ps : List (ℕ × ℕ)) → listed place kind ps ≡ true → Any Same ps
  listed-some [] l = let z : ◌≡◌ {A = ℕ} 0 1 = cc in absurd (omega arith)
  listed-some (p ∷ ps) l = split (eqb p.0 place && eqb p.1 kind) refl l (listed-some ps)
    where
      found : (eqb p.0 place ≡ true) × (eqb p.1 kind ≡ true) → Same p
      found q = omega (arith, eqb-true p.0 place q.0, eqb-true p.1 kind q.1)

      split : (b : Bool) → (eqb p.0 place && eqb p.1 kind) ≡ b → b || listed place kind ps ≡ true → (listed place kind ps ≡ true → Any Same ps) → Any Same (p ∷ ps)
      split true is m go = (0, p, omega arith, refl, found (and-true (eqb p.0 place) (eqb p.1 kind) is))
      split false is m go = let r = go m in (suc r.0, r.1, omega (arith, r.2), r.3, r.4)

pub returns : goal.returns
unfolding may_follow
returns c =
    let place = c.args.place in
    let kind = c.args.kind in
    let byte = c.ranges.kind.fits in
    same-test c.is_listed.result (listed place kind order)
    (λ r. let a = c.is_listed.ensures.0 r in ap (listed place kind) (sym c.table.ensures) ∙ listed-of place kind byte c.table.result.now (ap bytes c.table.ensures) a.0 a.1 a.2 a.3 a.4)
    (λ l. c.is_listed.ensures.1 (listed-some place kind byte c.table.result.now (ap (listed place kind) c.table.ensures ∙ l)))
