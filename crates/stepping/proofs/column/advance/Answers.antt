-- `stepping::column::advance` meets its contract: each column is what `column_of` says, and r, e and the largest sum are taken from
-- the six. Assumes nothing.
use Rattle.std.proofs.Common.{◌≡◌, ap, ◌∙◌, ℕ, ◌+◌, ◌*◌, ◌<◌, max, get_or, rules, arith, pos}
use Rattle.std.specs.List.{fold}
use Rattle.integers.specs.Sums.{vector, magnitudes, max_ℕ, matrix as matrix_of}
use Rattle.integers.proofs.Sums.{max_ℕ-cong, max_ℕ-le}
use Rattle.integers.proofs.Machine.{tabulate-cong}
use Rattle.integers.proofs.FromFn.{from_fn-has, map-tabulate}
use Rattle.integers.proofs.Chains.{fold-max}
use Rattle.stepping.specs.Limits.{growth_limit}
use Rattle.stepping.specs.Recurrence.{next_r, next_e, half_up}
use Rattle.stepping.specs.Inner.{Advances}
use Rattle.stepping.specs.declared.column.Column.{Column}
use Rattle.stepping.proofs.Recurrence.{growth_sum-halves}
use Rattle.stepping.proofs.column.advance.Goals as goal

none : Column
none = record { r = pos 0; e = pos 0; halves = 0 }

module _ (c : goal.After-fold-most) where
  abbrev at : ℕ → Column
  at i = get_or c.from_fn-columns.result i none

  abbrev halves : ℕ → ℕ
  halves i = (at i).halves

  each : (i : ℕ) → i < 6 → Advances c.args.matrix.now c.args.r.now c.args.e.now i (at i).r (at i).e (at i).halves
  each = from_fn-has _ _ (λ i y. Advances c.args.matrix.now c.args.r.now c.args.e.now i y.r y.e y.halves) _ (λ i y q h call. (search rules, search rules)) c.from_fn-columns.ensures.items none

  largest : c.fold-most.result ≡ max_ℕ 6 halves
  largest =
      let folded : c.fold-most.result ≡ fold (λ m y. max m y.halves) 0 c.from_fn-columns.result = search rules in
      let first = fold-max (λ (y : Column). y.halves) 0 c.from_fn-columns.result none in
      let none-below : (k : ℕ) → max 0 k ≡ k = λ k. omega arith in
      folded ∙ first ∙ none-below _ ∙ ap (λ (n : ℕ). max_ℕ n halves) c.from_fn-columns.ensures.items.long

pub overflow_add-result : goal.overflow_add-result
overflow_add-result c = omega (arith, largest c, max_ℕ-le 6 (48 * growth_limit + 5) {f = halves c} (λ i h. (each c i h).small))

pub returns : goal.returns
returns c =
    let m = matrix_of c.args.matrix.now in
    let r = vector c.args.r.now in
    let e = magnitudes c.args.e.now in
    record {
      direction = map-tabulate _ _ (λ y. y.r) none _ _ (λ x y q call. (search rules, search rules)) 6 c.map.ensures.items ∙ tabulate-cong 6 (λ i h. (each c i h).direction);
      errors = map-tabulate _ _ (λ y. y.e) none _ _ (λ x y q call. (search rules, search rules)) 6 c.map-2.ensures.items ∙ tabulate-cong 6 (λ i h. (each c i h).error);
      sum = ap half_up (largest c ∙ max_ℕ-cong 6 (λ i h. (each c i h).halves)) ∙ growth_sum-halves 6 (next_r 6 m r) (next_e 6 m r e);
    }
