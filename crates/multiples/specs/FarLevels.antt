-- Verdicts 6: the verdict on a level that is far from every bound. Definitions only, for a law; no contract cites them.
-- Assumes nothing.
use Rattle.std.specs.Prelude.{◌≡◌, ℕ, ℤ, pos, neg_ℤ, ◌+ℤ◌}
use Rattle.integers.specs.Whole.{◌⩽◌}
use Rattle.reachability.specs.Verdicts.{verdict}
use Rattle.reachability.specs.declared.model.Model.{Model}
use Rattle.reachability.specs.declared.verdicts.Verdict.TheVariants.{Hit, Clear}

-- 2^43.
abbrev pub far_level : ℕ
far_level = 8796093022208

-- A level at 2^43 or above is CLEAR, and one below -2^43 is HIT at step 0.
pub record FarVerdicts (m : Model) (d : ℕ) : Type 0 where
  pub above : (level : ℤ) → pos far_level ⩽ level → verdict m d level ≡ Clear
  pub below : (level : ℤ) → level +ℤ pos 1 ⩽ neg_ℤ (pos far_level) → verdict m d level ≡ Hit 0
