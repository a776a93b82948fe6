-- The specification's numbers for the stepping arithmetic, each named once. Definitions only. Assumes nothing.
use Rattle.std.specs.Prelude.{ℕ, ◌*◌}

-- Model 3: what a stored matrix entry is counted in.
abbrev pub matrix_unit : ℕ
matrix_unit = 65536

-- Recurrence 1: how many units of a working direction make 1. Errors are counted in half units.
abbrev pub direction_unit : ℕ
direction_unit = 1048576

-- Recurrence 7: a growth sum above this is growth.
abbrev pub growth_limit : ℕ
growth_limit = 1073741824

-- Limits 3: the largest magnitude of a stored matrix entry.
abbrev pub entry_limit : ℕ
entry_limit = 131072

-- The most half units that an e can be where the growth sum is within its limit. An r is bounded by `growth_limit`.
abbrev pub error_limit : ℕ
error_limit = 2 * growth_limit
