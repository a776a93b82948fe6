-- The lengths of a stored model's lists. `c.good.0` of a function whose first parameter is a model is `IsModel` of it, so that
-- `lengths m c.good.0` serves every function over a model, here and in the crates above; where the parameter is a struct that
-- holds the model, the field's part of `c.good.0` serves as well. Assumes nothing.
use mathlib.Core.List.{List}
use borrow.Author.Rules.{rules}
use denote.Laws.{Is}
use denote.Struct.Declared.{row}
use mir.Val.{Val}
use Rattle.reachability.specs.Lengths.{Lengths}
use Rattle.reachability.specs.declared.model.Model.{Model}
use Rattle.reachability.specs.contracts.model.Model.{the_type}

-- What the language's account of types says of a value of the type `Model` with this machine value.
abbrev pub IsModel : Model → List Val → Type 0
IsModel m vs = Is (row the_type) m vs

pub lengths : (m : Model) {vs : List Val} → IsModel m vs → Lengths m
lengths m g =
    let motion = g.1.1.1.1.0 in
    let drift = g.1.1.1.1.1.0 in
    let initial = g.1.1.1.1.1.1.0 in
    let input = g.1.1.1.1.1.1.1.0 in
    let questions = g.1.1.1.1.1.1.1.1.0 in
    record {
      motion = record { matrix = search (rules, motion) };
      drift = search (rules, drift);
      initial = record { points = search (rules, initial) };
      input = record { points = search (rules, input) };
      questions = record {
        entries = search (rules, questions);
        watched = search (rules, questions);
        levels = search (rules, questions);
      };
    }
