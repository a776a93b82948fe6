-- Reading 3, File 3, File 10 and Routines 22: a model as it is filled. Definitions only. In order: the blank model; a model with
-- another set; six numbers put in as a row; the shape that a point gives its set; the input set that was left out. Assumes nothing.
use Rattle.std.specs.Prelude.{Bool, cond, List, ℕ, zero, suc, ◌+◌, ◌*◌, ltb, set, replicate, ℤ, pos, Option, Some, None}
use Rattle.integers.specs.Sums.{vector}
use Rattle.records.specs.declared.kinds.Point.{Point}
use Rattle.records.specs.declared.kinds.Point.TheVariants.{Lower, Upper, Centre, Generator, Vertex}
use Rattle.records.specs.Places.{input_place}
use Rattle.reachability.specs.declared.sets.Shape.{Shape}
use Rattle.reachability.specs.declared.sets.Shape.TheVariants.{Box, Zonotope, Vertices}
use Rattle.reachability.specs.declared.sets.Set.{Set}
use Rattle.reachability.specs.declared.motion.Motion.{Motion}
use Rattle.reachability.specs.declared.model.Questions.{Questions}
use Rattle.reachability.specs.declared.model.Model.{Model}
use Rattle.reachability.specs.Sets.{zero_box}

-- ---- the blank model

unfoldable pub zeros : ℕ → List ℤ
zeros n = replicate n (pos 0)

unfoldable pub blank_set : Set
blank_set = record { shape = Box; count = 0; points = zeros 96 }

-- Reading 3: the blank model beside a refusal.
unfoldable pub blank_model : Model
blank_model =
    record {
      n = 0;
      steps = 0;
      motion = record { matrix = zeros 36 };
      drift = zeros 6;
      initial = blank_set;
      input = blank_set;
      questions = record { directions = 0; entries = zeros 96; guards = 0; watched = replicate 16 0; levels = zeros 16 };
    }

-- ---- a model with another set

-- The model of these parts, in the order of the code.
abbrev pub model_of : ℕ → ℕ → Motion → List ℤ → Set → Set → Questions → Model
model_of n steps motion drift initial input questions =
    record {
      n = n;
      steps = steps;
      motion = motion;
      drift = drift;
      initial = initial;
      input = input;
      questions = questions;
    }

-- Routines 22: the initial set or, with `input`, the input set; and the model with another set in that place.
abbrev pub set_of : Bool → Model → Set
set_of input m = cond input m.input m.initial

abbrev pub set_set : Bool → Model → Set → Model
set_set input m set = model_of m.n m.steps m.motion m.drift (cond input m.initial set) (cond input set m.input) m.questions

-- ---- rows, points and the input set

-- Routines 22: the first k of six numbers stored as one row of rows of six, and all of them. `set` beyond the end changes nothing.
abbrev pub put_first : ℕ → List ℤ → ℕ → List ℤ → List ℤ
put_first zero xs row six = xs
put_first (suc k) xs row six = set (put_first k xs row six) (6 * row + k) (vector six k)

unfoldable pub put_row : List ℤ → ℕ → List ℤ → List ℤ
put_row xs row six = put_first 6 xs row six

-- File 3, Routines 22: the shape of the set that a point belongs to, and a box for no point.
abbrev pub shape_of : Option Point → Shape
shape_of None = Box
shape_of (Some Lower) = Box
shape_of (Some Upper) = Box
shape_of (Some Centre) = Zonotope
shape_of (Some Generator) = Zonotope
shape_of (Some Vertex) = Vertices

-- File 10, Routines 22: the input set once a direction stands at a place. Before the places of the input set no record of it was
-- read, and it is the box from zero to zero.
abbrev pub input_at : ℕ → Model → Set
input_at place m = cond (ltb place input_place) zero_box m.input
