-- Limits 10: which models are accepted. Definitions only. The limits of the stepping arithmetic are in its own crate,
-- those of n, steps, matrix, directions and guards in `limits`, those of a set's points in `Sets`, that of what enters in `Entering`.
-- Assumes nothing.
use Rattle.std.specs.Prelude.{Bool, ◌&&◌, List, ℕ, ℤ}
use Rattle.arrays.specs.Tests.{zero_outside}
use Rattle.limits.specs.Limits.{directions_ok, guards_ok}
use Rattle.reachability.specs.Sets.{set_ok}
use Rattle.reachability.specs.Entering.{entering_ok}
use Rattle.reachability.specs.Motion.{motion_ok}
use Rattle.reachability.specs.declared.sets.Set.{Set}
use Rattle.reachability.specs.declared.model.Questions.{Questions}
use Rattle.reachability.specs.declared.model.Model.{Model}

-- Sets 2, 5, 6 and 7 and Limits 4, 8 and 9, of one set.
abbrev pub set_accepted : ℕ → Set → Bool
set_accepted n s = set_ok n s.shape s.count s.points

-- Limits 9 and 11 of the drift beside an input set. Limits 11 leaves no entry above 1,048,576 in magnitude.
abbrev pub drift_accepted : ℕ → Set → List ℤ → Bool
drift_accepted n s drift = zero_outside 1 n drift && entering_ok s.shape s.count s.points drift

-- Limits 5, 6, 7 and 9 of the directions and the guards.
abbrev pub questions_accepted : ℕ → Questions → Bool
questions_accepted n q =
    directions_ok n q.directions q.entries && guards_ok q.directions q.guards q.watched q.levels

-- Limits 10: no rule is broken, wherever the model comes from.
abbrev pub accepted : Model → Bool
accepted m =
    motion_ok m.n m.steps m.motion
    && (set_accepted m.n m.initial
    && (set_accepted m.n m.input
    && (drift_accepted m.n m.input m.drift && questions_accepted m.n m.questions)))
