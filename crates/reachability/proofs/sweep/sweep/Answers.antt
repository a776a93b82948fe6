-- `reachability::sweep::sweep` meets its contract: a refusal keeps both lists; a sweep that refuses nothing has copied the rows, which are
-- accurate. Assumes nothing.
use Rattle.std.proofs.Common.{◌≡◌, sym, ap, subst, ◌∙◌, ℕ, ◌≤◌, ◌+◌, List, ℤ, length, take, Ok, arith, rules}
use lib.Seq.{length-take-le}
use Rattle.std.proofs.lemmas.Result.{err_from_is_err_and}
use Rattle.stepping.specs.Limits.{growth_limit}
use Rattle.stepping.specs.Recurrence.{spare}
use Rattle.reachability.specs.Recurrence.{spare_figure}
use Rattle.reachability.specs.Answers.{Swept}
use Rattle.reachability.proofs.model.Facts.{model-facts}
use Rattle.reachability.proofs.sweep.Answers.{grown, whole, answer-spare, largest-most, largest-least, sweeps}
use Rattle.reachability.proofs.sweep.sweep.Goals as goal

pub overflow_add-size : goal.overflow_add-size
overflow_add-size c = omega (arith, (model-facts c.args.model (sym c.accepts.ensures ∙ c.if-not-accepts.false)).steps-most)

pub returns-in_err-largest : goal.returns-in_err-largest
returns-in_err-largest c =
    let long-b : length c.args.bounds.now ≡ c.args.model.steps + 1 = omega arith in
    let long-s : length c.args.slacks.now ≡ c.args.model.steps + 1 = omega arith in
    let p = err_from_is_err_and c.from_residual.result c.from_residual.ensures.1 in
    rw (p.1, p.2) (grown c.args.model c.args.direction c.args.bounds.now c.args.slacks.now _ (sym c.accepts.ensures ∙ c.if-not-accepts.false) c.if-model-direction.false long-b long-s c.in_err-largest.ensures.answer)

-- a list is at most as long as a row, whatever stands in it
long : {n : ℕ} (row : List ℤ) → length row ≡ 257 → n ≤ 256 → length (take (n + 1) row) ≡ n + 1
long {n} row l h = length-take-le (n + 1) row (omega (arith, l, h))

pub slice_bounds-bound_row-end : goal.slice_bounds-bound_row-end
slice_bounds-bound_row-end c = omega (arith, (model-facts c.args.model (sym c.accepts.ensures ∙ c.if-not-accepts.false)).steps-most)

pub slice_bounds-copy_from_slice-end : goal.slice_bounds-copy_from_slice-end
slice_bounds-copy_from_slice-end c = sym (long _ (search rules) (model-facts c.args.model (sym c.accepts.ensures ∙ c.if-not-accepts.false)).steps-most)

pub copy_from_slice-requires : goal.copy_from_slice-requires
copy_from_slice-requires c = c.if-bounds-size.false ∙ sym (long _ (search rules) (model-facts c.args.model (sym c.accepts.ensures ∙ c.if-not-accepts.false)).steps-most)

pub spare_of-requires : goal.spare_of-requires
spare_of-requires c =
    let m = c.args.model in
    let f = model-facts m (sym c.accepts.ensures ∙ c.if-not-accepts.false) in
    let w = whole m c.args.direction c.in_ok-largest.ensures.answer in
    (subst (λ (x : ℕ). 1 ≤ x) (sym w.1) (largest-least m f c.args.direction c.if-model-direction.false), subst (λ (x : ℕ). x ≤ growth_limit) (sym w.1) (largest-most m f c.args.direction c.if-model-direction.false w.0))

pub returns : goal.returns
returns c =
    let m = c.args.model in
    let d = c.args.direction in
    let ok = sym c.accepts.ensures ∙ c.if-not-accepts.false in
    let f = model-facts m ok in
    let w = whole m d c.in_ok-largest.ensures.answer in
    let long-b : length c.args.bounds.now ≡ m.steps + 1 = omega arith in
    let long-s : length c.args.slacks.now ≡ m.steps + 1 = omega arith in
    let spare-is : ◌≡◌ {A = Swept} (Ok c.spare_of.result) (Ok (spare_figure m d)) = ap Ok (c.spare_of.ensures ∙ ap spare w.1) in
    sweeps m f d _ _ _ _ (Ok c.spare_of.result) c.in_ok-largest.ensures w.0 c.fill.array_long c.fill.array_long2 c.copy_from_slice.ensures.after c.copy_from_slice-2.ensures.after spare-is (spare-is ∙ answer-spare m d _ _ ok c.if-model-direction.false long-b long-s w.0)
