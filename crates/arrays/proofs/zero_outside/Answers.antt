-- `arrays::zero_outside` meets its contract. Assumes nothing.
use Rattle.std.proofs.Common.{rules, pos, ◌≡◌, ◌∙◌, sym, ap, ap₂, arith, take, drop, ◌&&◌, ℕ}
use Rattle.std.proofs.lemmas.Iterator.{YieldsList-from_slice}
use Rattle.std.proofs.lemmas.Iterator.Search.{all_from_yields_List}
use Rattle.std.proofs.lemmas.Iterator.Consumers.{YieldsList-from_enumerate}
use Rattle.std.proofs.lemmas.List.{take-append-drop, length-take, length-drop}
use Rattle.std.proofs.Math.Seq.{take-length}
use Rattle.integers.proofs.Chains.{list_all-enumerated}
use Rattle.arrays.specs.Tests.{zero_outside, all_between}
use Rattle.arrays.proofs.InParts.{zero_past, columns_zero, zero_outside-parts}
use Rattle.arrays.proofs.zero_outside.Goals as goal

pub returns : goal.returns
returns c =
    let columns = c.args.columns in
    let xs = c.args.xs.now in
    let inside = c.min-inside.result in
    let first = length-take inside xs in
    let rest = length-drop inside xs in
    let first_zero : c.all-columns_zero.result ≡ columns_zero columns (take inside xs) =
    all_from_yields_List (zero_past columns) _ _ _ c.all-columns_zero.ensures.ran (YieldsList-from_enumerate (YieldsList-from_slice (take inside xs) (cc)) (cc)) (λ x b q k. search rules)
    ∙ list_all-enumerated (zero_past columns) (take inside xs) (pos 0) in
    let rest_zero : c.all_between-rows_zero.result ≡ all_between (pos 0) (pos 0) (drop inside xs) =
    c.all_between-rows_zero.ensures ∙ ap (all_between (pos 0) (pos 0)) (ap (λ (n : ℕ). take n (drop inside xs)) (sym rest) ∙ take-length (drop inside xs)) in
    ap₂ ◌&&◌ first_zero rest_zero
    ∙ sym (zero_outside-parts c.args.rows columns (take inside xs) (drop inside xs) (omega (arith, first, c.min-inside.ensures, c.saturating_mul.ensures)) (λ h. omega (arith, h, first, rest, c.min-inside.ensures, c.saturating_mul.ensures)))
    ∙ ap (zero_outside c.args.rows columns) (take-append-drop inside xs)
