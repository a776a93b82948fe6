-- The table of kinds as the code holds it: what the inner functions promise to each other. Definitions only; no public contract cites
-- them. Assumes nothing.
use Rattle.std.specs.Prelude.{List, [], ◌∷◌, ℕ, Option}
use Rattle.records.specs.declared.kinds.Layout.{Layout}
use Rattle.records.specs.declared.kinds.Part.{Part}
use Rattle.records.specs.declared.kinds.Point.{Point}
use Rattle.records.specs.Kinds.{layout}

-- An entry: a kind, and what it is, the fields of its layout in their order.
abbrev pub Entry : Type 0
Entry = ℕ × Part × Option Point × ℕ × ℕ × ℕ × ℕ × ℕ

abbrev pub layout_in : Entry → Layout
layout_in e = layout e.1 e.2 e.3 e.4 e.5 e.6 e.7

-- The table's entries as rows of `kinds`.
abbrev pub rows_in : List Entry → List (ℕ × Layout)
rows_in [] = []
rows_in (e ∷ es) = (e.0, layout_in e) ∷ rows_in es
