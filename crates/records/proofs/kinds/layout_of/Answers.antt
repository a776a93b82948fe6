-- The answer of `records::kinds::layout_of`: that of the table, or the layout of no kind. Assumes nothing.
use Rattle.std.proofs.Common.{sym, ap, ◌∙◌, Option, unwrap_or}
use Rattle.records.specs.declared.kinds.Layout.{Layout}
use Rattle.records.specs.Kinds.{no_layout}
use Rattle.records.proofs.KnownKinds.{layout_of-is}
use Rattle.records.proofs.kinds.layout_of.Goals as goal

pub returns : goal.returns
returns c = c.unwrap_or.ensures ∙ ap (λ (o : Option Layout). unwrap_or o no_layout) c.kind_layout.ensures ∙ sym (layout_of-is c.args.kind)
