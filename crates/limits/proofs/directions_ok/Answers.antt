-- `limits::directions_ok` meets its contract. Assumes nothing.
use Rattle.std.proofs.Common.{◌≡◌, ◌∙◌, sym, ℕ, ◌≤◌, refl, rules, arith}
use mathlib.Core.Bool.{not}
use borrow.Author.Tests.{le-leb}
use Rattle.std.proofs.lemmas.Iterator.{YieldsList-from_range}
use Rattle.std.proofs.lemmas.Iterator.Search.{all_from_yields_List}
use Rattle.integers.proofs.Chains.{list_all-range}
use Rattle.limits.specs.Limits.{all_zero, some_nonzero}
use Rattle.limits.proofs.directions_ok.Goals as goal
use Rattle.limits.proofs.directions_ok.Goals.{then-contains, else-contains, then-zero_outside, else-zero_outside}

pub returns-then-all_between : goal.returns-then-all_between
returns-then-all_between c =
    let a = c.args in
    let nonzero = λ (k : ℕ). not (all_zero a.entries.now k) in
    let each : c.all.result ≡ some_nonzero a.count a.entries.now = all_from_yields_List nonzero _ _ c.all.result c.all.ensures.ran (YieldsList-from_range 0 a.count a.count refl (omega arith)) (λ x b q k. search rules) ∙ list_all-range nonzero a.count in
    elim c.if-zero_outside.branch [
      | then-zero_outside w ↦ elim c.if-contains.branch [
        | then-contains v ↦
            let least : 1 ≤ a.count = search rules in
            let most : a.count ≤ 16 = search rules in
            simp (le-leb 1 a.count least, le-leb a.count 16 most, sym v.zero_outside.ensures ∙ sym v.value-is ∙ w.if-zero_outside.true, sym w.all_between.ensures ∙ sym w.value-is ∙ c.if-all_between.true) each
        | else-contains v ↦ absurd (cc)
      ]
      | else-zero_outside w ↦ absurd (cc)
    ]
