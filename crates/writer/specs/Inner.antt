-- What the inner functions of the writer ask of each other. Definitions only; no public contract cites them. Assumes nothing.
use Rattle.std.specs.Prelude.{List, ℕ, ◌<◌, get_or}

-- Each of the first so many numbers fits a byte.
abbrev pub Small : ℕ → List ℕ → Type 0
Small count xs = (g : ℕ) → g < count → get_or xs g 0 < 256
