-- `columns::six_at`: number by number. Assumes nothing.
use Rattle.integers.proofs.Basics.{◌≡◌, refl, ap₂, ℕ, suc, ◌<◌, arith, rules, ℤ, pos}
use Rattle.std.proofs.Common.{zero, List, [], ◌∷◌, get_or, length}
use Rattle.integers.specs.Sums.{tabulate}
use Rattle.numbers.proofs.FromFn.{from_fn-each}
use Rattle.columns.specs.Columns.{six_at, entry_at}
use Rattle.columns.proofs.six_at.Goals as goal

-- a list is told by its elements
listed : (n : ℕ) (f : ℕ → ℤ) (xs : List ℤ) → length xs ≡ n → ((i : ℕ) → i < n → get_or xs i (pos 0) ≡ f i) → xs ≡ tabulate n f
listed zero f [] long each = refl
listed zero f (x ∷ xs) long each = absurd (omega arith)
listed (suc n) f [] long each = absurd (omega arith)
listed (suc n) f (x ∷ xs) long each = ap₂ (λ (z : ℤ) (l : List ℤ). z ∷ l) (each 0 (omega arith)) (listed n (λ i. f (suc i)) xs (omega arith) (λ i h. each (suc i) (omega arith)))

pub returns : goal.returns
unfolding six_at
returns c =
    let made = c.from_fn.ensures.items in
    let entries = entry_at c.args.body.now c.args.at in
    listed 6 entries c.from_fn.result made.long (from_fn-each _ _ entries (λ i y q m. (search rules, search rules)) _ made (pos 0))
