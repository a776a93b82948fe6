-- `stepping::first` meets its contract. Assumes nothing.
use Rattle.std.proofs.Common.{rules, pos, refl, ◌*ℤ◌}
use Rattle.integers.proofs.FromFn.{map-tabulate}
use Rattle.stepping.specs.Limits.{direction_unit}
use Rattle.stepping.proofs.first.Goals as goal

pub returns : goal.returns
returns c =
    record { direction = map-tabulate _ _ (λ d. pos direction_unit *ℤ d) (pos 0) c.args.direction.now _ (λ x y q k. search rules) 6 c.map.ensures.items; errors = refl }
