-- Sets 1, Model 1: a stored model's lists have the lengths of the arrays that they are. Definitions only. That every function over a
-- model has this of its argument is proved (`proofs.model.Lengths`). Assumes nothing.
use Rattle.std.specs.Prelude.{◌≡◌, length}
use Rattle.reachability.specs.declared.motion.Motion.{Motion}
use Rattle.reachability.specs.declared.sets.Set.{Set}
use Rattle.reachability.specs.declared.model.Questions.{Questions}
use Rattle.reachability.specs.declared.model.Model.{Model}

pub record MotionLengths (motion : Motion) : Type 0 where
  pub matrix : length motion.matrix ≡ 36

pub record SetLengths (s : Set) : Type 0 where
  pub points : length s.points ≡ 96

pub record QuestionsLengths (q : Questions) : Type 0 where
  pub entries : length q.entries ≡ 96
  pub watched : length q.watched ≡ 16
  pub levels : length q.levels ≡ 16

pub record Lengths (m : Model) : Type 0 where
  pub motion : MotionLengths m.motion
  pub drift : length m.drift ≡ 6
  pub initial : SetLengths m.initial
  pub input : SetLengths m.input
  pub questions : QuestionsLengths m.questions
