-- `stepping::step` meets its contract. Where every test passes, the arrays are within the limits that `advance` asks, and what it
-- leaves, which runs to six, is what the definitions to n say. Assumes nothing.
use Rattle.std.proofs.Common.{◌≡◌, sym, ap, ap₂, subst, ◌∙◌, true, ℕ, ◌≤◌, List, ℤ, pos, Some}
use mathlib.Core.Bool.{◌&&◌}
use lib.Dec.{T}
use lib.IntN.{neg_ℤ}
use Rattle.integers.specs.Sums.{vector, magnitudes}
use Rattle.integers.proofs.Booleans.{and-true}
use Rattle.arrays.specs.Tests.{all_between, zero_outside}
use Rattle.arrays.proofs.Tests.{all_between-at}
use Rattle.stepping.specs.Limits.{entry_limit, growth_limit}
use Rattle.stepping.specs.Recurrence.{growth_sum}
use Rattle.stepping.specs.Refusals.{working_ok, matrix_ok}
use Rattle.stepping.specs.Inner.{Bounded, BoundedErrors}
use Rattle.stepping.proofs.Numbers.{steps, sum-only}
use Rattle.stepping.proofs.Working.{WorkingFacts, working-facts, dimension-most}
use Rattle.stepping.proofs.Beyond.{values-six, errors-six, growth_sum-advanced, stepped_r-six, stepped_e-six}
use Rattle.stepping.proofs.step.Goals as goal

-- where the tests of r and e and of the matrix pass
module _ (n : ℕ) (m r e : List ℤ) (working : working_ok n r e ≡ true) (matrix-passed : matrix_ok n m ≡ true) where
  facts : WorkingFacts n r e
  facts = working-facts n r e working

  n≤6 : n ≤ 6
  n≤6 = dimension-most facts.dimension

  parts : (all_between (neg_ℤ (pos entry_limit)) (pos entry_limit) m ≡ true) × (zero_outside n n m ≡ true)
  parts = and-true (all_between (neg_ℤ (pos entry_limit)) (pos entry_limit) m) (zero_outside n n m) matrix-passed

  bounded_r : Bounded growth_limit m r
  bounded_r = record { entries = all_between-at entry_limit m parts.0; values = values-six n r e facts }

  bounded-e : BoundedErrors m e
  bounded-e =
      record {
        bounded = record { entries = all_between-at entry_limit m parts.0; values = errors-six n r e facts };
        natural = λ i h. subst T (sym (facts.natural i h)) tt;
      }

pub advance-requires : goal.advance-requires
advance-requires c =
    let a = c.args in
    let working = (sum-only (working_ok a.n a.r.now a.e.now) _ _ c.in_ok-growth.ensures.answer).0 in
    let passed = sym c.matrix_ok.ensures ∙ c.if-not-matrix_ok.false in
    (bounded_r a.n a.matrix.now a.r.now a.e.now working passed, bounded-e a.n a.matrix.now a.r.now a.e.now working passed)

pub returns : goal.returns
returns c =
    let n = c.args.n in
    let m = c.args.matrix.now in
    let r = c.args.r.now in
    let e = c.args.e.now in
    let left = c.advance in
    let working = (sum-only (working_ok n r e) _ _ c.in_ok-growth.ensures.answer).0 in
    let passed = sym c.matrix_ok.ensures ∙ c.if-not-matrix_ok.false in
    let most = n≤6 n m r e working passed in
    let around = (parts n m r e working passed).1 in
    let in-r = left.ensures.direction ∙ stepped_r-six n most m around r in
    let in_e = left.ensures.errors ∙ stepped_e-six n most m around r e in
    let answer = ap Some (left.ensures.sum ∙ growth_sum-advanced n most m around r e) ∙ sym (ap₂ (λ (x y : List ℤ). Some (growth_sum n (vector x) (magnitudes y))) in-r in_e) in
    steps n m r e true (ap₂ ◌&&◌ working passed) (Some left.result) left.new.r left.new.e answer in-r in_e
