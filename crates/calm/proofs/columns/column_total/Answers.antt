-- `calm::columns::column_total`: each turn adds a magnitude. Assumes nothing.
use Rattle.integers.proofs.Basics.{◌≡◌, sym, ap, ◌∙◌, ◌≤◌, arith, rules, ℤ, pos, nat_abs, ◌+ℤ◌, w64, SFits, to_z, of_z, to_z-of_z}
use Rattle.std.proofs.lemmas.Int.{ints}
use Rattle.integers.specs.Sums.{matrix}
use Rattle.integers.proofs.Sums.{pos-sum_ℕ}
use Rattle.integers.proofs.Machine.{read-given}
use Rattle.integers.proofs.RunningSum.{running-start, running_more, running-done}
use Rattle.calm.proofs.columns.column_total.Goals as goal

pub loop-p-init : goal.loop-p-init
loop-p-init c = running-start c.args.n _ 2147483648

pub loop-p-preserved : goal.loop-p-preserved
loop-p-preserved c =
    let so_far = to_z w64 c.loop-p.sum-bits in
    let size_is : c.unsigned_abs-size.result ≡ nat_abs (matrix c.args.matrix.now c.loop-p.p c.args.i) = search (rules, ints) in
    let small : nat_abs (matrix c.args.matrix.now c.loop-p.p c.args.i) ≤ 2147483648 = omega (arith, size_is, c.unsigned_abs-size.ensures.bound) in
    let added = read-given w64 c.from-sum.result c.from-sum.type_inv ∙ c.from-sum.ensures ∙ ap pos size_is in
    let fits : SFits w64 (so_far +ℤ to_z w64 (of_z w64 c.from-sum.result)) = search rules in
    running_more c.loop-p.invariant c.loop-p-test.true small (to_z-of_z fits ∙ ap (λ (z : ℤ). so_far +ℤ z) added)

pub returns : goal.returns
returns c =
    let a = c.args in
    running-done c.loop-p.invariant c.loop-p-test.false ∙ sym (pos-sum_ℕ a.n (λ p. nat_abs (matrix a.matrix.now p a.i)))
