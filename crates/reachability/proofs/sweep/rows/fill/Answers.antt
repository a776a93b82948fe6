-- `reachability::sweep::rows::fill` meets its contract: what it takes is the model's own, and a turn keeps `SweptSoFar`. Assumes nothing.
use Rattle.std.proofs.Common.{◌≡◌, sym, subst, ℕ, ◌<◌, List, ℤ, arith, rules, w64, to_z, of_z}
use native.Mathlib.Nat.{lt_of_lt_of_le}
use borrow.Author.Tests.{lt-ltb}
use Rattle.arrays.specs.Rows.{row_of}
use Rattle.integers.specs.Sums.{tabulate}
use Rattle.reachability.specs.Runs.{direction}
use Rattle.reachability.specs.Recurrence.{working}
use Rattle.reachability.specs.WalkInner.{WalkAsks, Begins, Ends}
use Rattle.reachability.specs.declared.model.Model.{Model}
use Rattle.reachability.proofs.model.Facts.{model-facts}
use Rattle.reachability.proofs.walk.Held.{asks-initial, asks-input}
use Rattle.reachability.proofs.sweep.SweepLoop.{swept_none, swept-more, grown-fills, whole-fills, own-backs, own-asks}
use Rattle.reachability.proofs.sweep.rows.fill.Goals as goal

pub reaches-initial_reaches-requires : goal.reaches-initial_reaches-requires
reaches-initial_reaches-requires c =
    let f = model-facts c.args.model c.requires.accepts in
    (f.initial.counted, f.initial.reach-small)

pub entering_reaches-input_reaches-requires : goal.entering_reaches-input_reaches-requires
entering_reaches-input_reaches-requires c = (model-facts c.args.model c.requires.accepts).entering

-- the row is the direction
row-own : (m : Model) (k : ℕ) (d : List ℤ) → k < 16 → d ≡ row_of m.questions.entries k → d ≡ tabulate 6 (direction m k)
row-own m k d h p = simp (lt-ltb k 16 h) at p

pub loop-k-init : goal.loop-k-init
loop-k-init c =
    let m = c.args.model in
    let f = model-facts m c.requires.accepts in
    let own = row-own m c.args.direction c.row-row.result (lt_of_lt_of_le c.requires.inside f.directions-most) c.row-row.ensures in
    swept_none m f c.args.direction c.args.bounds.now c.args.slacks.now (subst (λ (l : List ℤ). Begins m.n l c.begin-walk.result) own c.begin-walk.ensures)

pub returns-then-largest-gt-GROWTH_LIMIT : goal.returns-then-largest-gt-GROWTH_LIMIT
returns-then-largest-gt-GROWTH_LIMIT c = grown-fills c.args.model (model-facts c.args.model c.requires.accepts) c.args.direction c.loop-k.invariant (omega arith) c.if-largest-gt-GROWTH_LIMIT.true

pub end_of-end-requires : goal.end_of-end-requires
end_of-end-requires c =
    let m = c.args.model in
    subst (λ (l : List ℤ). WalkAsks m.initial l c.loop-k.walk) (sym c.reaches-initial_reaches.ensures) (asks-initial m (model-facts m c.requires.accepts) (working m c.args.direction c.loop-k.k) c.loop-k.invariant.held (omega arith) c.if-largest-gt-GROWTH_LIMIT.false)

pub offset_bounds-bounds-k : goal.offset_bounds-bounds-k
offset_bounds-bounds-k c = omega (arith, (model-facts c.args.model c.requires.accepts).steps-most)

pub bounds-bounds-k : goal.bounds-bounds-k
bounds-bounds-k c = omega (arith, (model-facts c.args.model c.requires.accepts).steps-most)

pub offset_bounds-slacks-k : goal.offset_bounds-slacks-k
offset_bounds-slacks-k c = omega (arith, (model-facts c.args.model c.requires.accepts).steps-most)

pub bounds-slacks-k : goal.bounds-slacks-k
bounds-slacks-k c = omega (arith, (model-facts c.args.model c.requires.accepts).steps-most)

pub back-requires : goal.back-requires
back-requires c =
    let m = c.args.model in
    own-asks m c.move_by.ensures c.entering_reaches-input_reaches.ensures (asks-input m (model-facts m c.requires.accepts) (working m c.args.direction c.loop-k.k) c.loop-k.invariant.held (omega arith) c.if-largest-gt-GROWTH_LIMIT.false)

pub loop-k-preserved : goal.loop-k-preserved
loop-k-preserved c =
    let m = c.args.model in
    let l = c.loop-k in
    let v = c.end_of-end.result in
    let bound : to_z w64 (of_z w64 v.bound) ≡ v.bound = search rules in
    let slack : to_z w64 (of_z w64 v.slack) ≡ v.slack = search rules in
    let ends = subst (λ (x : List ℤ). Ends m.initial x l.walk v.bound v.slack) c.reaches-initial_reaches.ensures c.end_of-end.ensures in
    let backs = own-backs m c.matrix_at-matrix.ensures c.move_by.ensures c.entering_reaches-input_reaches.ensures c.back.ensures in
    rw (bound, slack) (swept-more m (model-facts m c.requires.accepts) c.args.direction l.invariant (omega arith) c.if-largest-gt-GROWTH_LIMIT.false ends c.requires.bounds-long c.requires.slacks-long backs)

pub returns : goal.returns
returns c = whole-fills c.args.model (model-facts c.args.model c.requires.accepts) c.args.direction c.loop-k.invariant (omega arith)

pub overflow_add-size : goal.overflow_add-size
overflow_add-size c = omega (arith, (model-facts c.args.model c.requires.accepts).steps-most)

-- at the end, so that a wrong set fails first where the walk takes it
pub move_by-requires : goal.move_by-requires
move_by-requires c = (model-facts c.args.model c.requires.accepts).movable
