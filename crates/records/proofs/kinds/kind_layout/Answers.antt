-- The answer of `records::kinds::kind_layout`: the first entry of the kind gives what the first row does. Assumes nothing.
use Rattle.std.proofs.Common.{◌≡◌, ◌==◌, ℕ, Bool, true, false, cond, eqb, List, [], ◌∷◌, Some, None, find, option_map, refl, ap, ◌∙◌}
use Rattle.records.specs.Kinds.{told, kind_layout}
use Rattle.records.specs.Inner.{Entry, layout_in, rows_in}
use Rattle.records.proofs.kinds.kind_layout.Goals as goal

find-told : (kind : ℕ) (entries : List Entry) → option_map layout_in (find (λ (e : Entry). e.0 == kind) entries) ≡ told Some None kind (rows_in entries)
find-told kind [] = refl
find-told kind (e ∷ es) = split (eqb e.0 kind) (find-told kind es)
  where
    split : (b : Bool) → option_map layout_in (find (λ (d : Entry). d.0 == kind) es) ≡ told Some None kind (rows_in es) → option_map layout_in (cond b (Some e) (find (λ (d : Entry). d.0 == kind) es)) ≡ cond b (Some (layout_in e)) (told Some None kind (rows_in es))
    split true go = refl
    split false go = go

pub returns : goal.returns
unfolding kind_layout
returns c = c.layout_in.ensures ∙ find-told c.args.kind c.table.result.now ∙ ap (told Some None c.args.kind) c.table.ensures
