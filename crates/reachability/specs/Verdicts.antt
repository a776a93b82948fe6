-- Verdicts 1 to 4: when a value reaches a level, and the verdict on a level by the first step. b and s are the bound and the slack
-- at each step. Definitions only. Assumes nothing.
use Rattle.std.specs.Prelude.{Bool, cond, ℕ, suc, ltb, ℤ, pos, ◌-ℤ◌}
use Rattle.std.specs.Int.Signed.{lt_z}
use Rattle.reachability.specs.Recurrence.{bound, slack, first_place}
use Rattle.reachability.specs.declared.model.Model.{Model}
use Rattle.reachability.specs.declared.verdicts.Verdict.{Verdict}
use Rattle.reachability.specs.declared.verdicts.Verdict.TheVariants.{Hit, Unknown, Clear}

-- Verdicts 1: v is above the level. No other definition that a contract rests on compares with a level.
abbrev pub reaches : ℤ → ℤ → Bool
reaches level v = lt_z level v

-- Verdicts 2: a step that HIT may name.
abbrev pub hit_at : ℤ → (ℕ → ℤ) → (ℕ → ℤ) → ℕ → Bool
hit_at level b s k = reaches level (b k -ℤ s k)

-- Verdicts 3: a step that UNKNOWN may name.
abbrev pub unknown_at : ℤ → (ℕ → ℤ) → ℕ → Bool
unknown_at level b k = reaches level (b k)

-- Verdicts 2, 3 and 4 over the steps below n: the first HIT, else the first UNKNOWN, else CLEAR.
abbrev pub verdict_below : ℕ → ℤ → (ℕ → ℤ) → (ℕ → ℤ) → Verdict
verdict_below n level b s =
    let h = first_place n (hit_at level b s) in
    let u = first_place n (unknown_at level b) in
    cond (ltb h n) (Hit h) (cond (ltb u n) (Unknown u) Clear)

-- The verdict on a level in direction d, over the steps 0 to K.
abbrev pub verdict : Model → ℕ → ℤ → Verdict
verdict m d level = verdict_below (suc m.steps) level (bound m d) (λ k. pos (slack m d k))
