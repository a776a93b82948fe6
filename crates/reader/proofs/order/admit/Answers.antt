-- `reader::order::admit` meets its contract: the layout of a kind is what the table answers, and `no_layout` where it has none.
-- Assumes nothing.
use Rattle.std.proofs.Common.{◌≡◌, ℕ, Option, sym, ap, ◌∙◌, arith}
use Rattle.std.specs.Option.{unwrap_or}
use Rattle.std.proofs.lemmas.Grind.{common_steps}
use Rattle.records.specs.declared.kinds.Layout.{Layout}
use Rattle.records.specs.Kinds.{kind_layout, layout_of, no_layout}
use Rattle.records.proofs.KnownKinds.{layout_of-is}
use Rattle.reader.specs.Refusals.{kind_number}
use Rattle.reader.proofs.order.admit.Goals as goal

told : (kind : ℕ) {o : Option Layout} → o ≡ kind_layout kind → layout_of kind ≡ unwrap_or o no_layout
told kind e = layout_of-is kind ∙ ap (λ (x : Option Layout). unwrap_or x no_layout) (sym e)

pub returns-then-layout-count_of : goal.returns-then-layout-count_of
unfolding kind_number
returns-then-layout-count_of c = let is = told _ c.in-Some.ensures in grind (arith, common_steps)

pub returns-in_default : goal.returns-in_default
unfolding kind_number
returns-in_default c = let is = told _ c.in_default.ensures in grind (arith, common_steps)

pub returns : goal.returns
unfolding kind_number
returns c = let is = told _ c.in-Some.ensures in grind (arith, common_steps)
