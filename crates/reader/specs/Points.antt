-- Sets 16, as a file is read: the set before a point and the set with it. Definitions only, for laws; no contract cites them.
-- Assumes nothing.
use Rattle.std.specs.Prelude.{◌≡◌, Bool, cond, List, ℕ, ◌≤◌}
use Rattle.reachability.specs.declared.sets.Set.{Set}
use Rattle.records.specs.declared.kinds.Part.{Part}
use Rattle.records.specs.declared.kinds.Part.TheVariants.{Initial, Input}
use Rattle.records.specs.Kinds.{layout_of, part_of}
use Rattle.filling.specs.Models.{set_of}
use Rattle.reader.specs.declared.state.State.{State}
use Rattle.reader.specs.Models.{start, with_point}
use Rattle.reader.specs.Refusals.{kind_number}
use Rattle.reader.specs.Reading.{stop_for}

-- The part of a file that tells the initial set or, with `input`, the input set.
abbrev pub part_of_set : Bool → Part
part_of_set input = cond input Input Initial

-- The state after so many records of a file.
abbrev pub state_after : List ℕ → ℕ → State
state_after file turns = (stop_for turns file 0 start).state

-- The set before the next record, and with the point of its body: this is the set that number 6 is tested of, and that is stored.
abbrev pub set_before : List ℕ → ℕ → Bool → Set
set_before file turns input = set_of input (state_after file turns).model

abbrev pub set_with : List ℕ → ℕ → Bool → ℕ → List ℕ → Set
set_with file turns input kind body = with_point (set_before file turns input) (layout_of kind) body

-- A kind of that set may stand there and is not one too many, and the set has a point already.
pub record PointAt (file : List ℕ) (turns : ℕ) (input : Bool) (kind : ℕ) : Type 0 where
  pub part : part_of kind ≡ part_of_set input
  pub allowed : kind_number (state_after file turns) kind ≡ 0
  pub some : 1 ≤ (set_before file turns input).count
