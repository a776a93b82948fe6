-- Model 6: what moves the state. Definitions only. The matrix of a move stands behind `matrix_at`, and the rules that it keeps behind
-- `motion_ok`; `rows_of` and `with_rows` are for a reader. But for the lengths of lists (*Lengths*), no other definition reads the stored
-- matrix. What holds of every move is in `proofs.motion.Laws`. Assumes nothing.
use Rattle.std.specs.Prelude.{Bool, List, ℕ, ℤ}
use Rattle.limits.specs.Limits.{frame_ok}
use Rattle.reachability.specs.declared.motion.Motion.{Motion}

-- Routines 20: the stored rows, and what moves the state with other ones, for whoever fills them (File 3).
abbrev pub rows_of : Motion → List ℤ
rows_of motion = motion.matrix

abbrev pub with_rows : Motion → List ℤ → Motion
with_rows motion rows = record { matrix = rows }

-- Model 6: the stored matrix of the move from step t to step t + 1, in six rows of six. It is the same at every t.
unfoldable pub matrix_at : Motion → ℕ → List ℤ
matrix_at motion t = rows_of motion

-- Limits 1, 2, 3 and 9 of n, the steps and what moves the state.
unfoldable pub motion_ok : ℕ → ℕ → Motion → Bool
motion_ok n steps motion = frame_ok n steps (rows_of motion)
