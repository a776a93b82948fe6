-- Verdicts 5: the verdict that a level had before 2026-09, when a value at a level reached it. For a law; no contract cites it.
-- Assumes nothing.
use Rattle.std.specs.Prelude.{cond, ℕ, ltb, ℤ, ◌-ℤ◌}
use Rattle.std.specs.Int.Signed.{le_z}
use Rattle.reachability.specs.Recurrence.{first_place}
use Rattle.reachability.specs.declared.verdicts.Verdict.{Verdict}
use Rattle.reachability.specs.declared.verdicts.Verdict.TheVariants.{Hit, Unknown, Clear}

-- As `verdict_below` of reachability *Verdicts*, with "at the level or above" in the place of "above".
abbrev pub verdict_before : ℕ → ℤ → (ℕ → ℤ) → (ℕ → ℤ) → Verdict
verdict_before n level b s =
    let h = first_place n (λ k. le_z level (b k -ℤ s k)) in
    let u = first_place n (λ k. le_z level (b k)) in
    cond (ltb h n) (Hit h) (cond (ltb u n) (Unknown u) Clear)
