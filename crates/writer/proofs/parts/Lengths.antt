-- How long the parts of a file are, and the file. Assumes nothing.
use mathlib.Core.Path.{◌≡◌, ap}
use mathlib.Core.List.{List, ◌∷◌, ◌++◌}
use mathlib.Core.Bool.{cond}
use Prim.Native.Nat.{ℕ, suc, ◌+◌, ◌*◌}
use native.Mathlib.Omega.{arith}
use lib.Dec.{eqb}
use lib.IntN.{ℤ}
use lib.ListN.{length, get_or, length-append}
use Rattle.integers.specs.Sums.{vector}
use Rattle.numbers.specs.Numbers.{signed_bytes}
use Rattle.numbers.proofs.Written.{length-bytes_of, length-signed_bytes}
use Rattle.reachability.specs.Motion.{rows_of}
use Rattle.reachability.specs.declared.model.Model.{Model}
use Rattle.writer.specs.Writing.{six_bytes, vector_records, head_record, row_records, drift_count, drift_records, first_kind, other_kind, initial_records, input_count, input_records, direction_records, guard_records, end_record, file_of}
use Rattle.text.proofs.Each.{length-each}
use Rattle.writer.proofs.Bits.{length-six_bytes}

pub length-row_records : (n : ℕ) (rows : List ℤ) → length (row_records n rows) ≡ 26 * n
length-row_records n rows = length-each n 26 (λ p. 0x02 ∷ p ∷ six_bytes rows p) (λ p. ap (λ (k : ℕ). suc (suc k)) (length-six_bytes rows p))

pub length-vector_records : (first other count : ℕ) (xs : List ℤ) → length (vector_records first other count xs) ≡ 25 * count
length-vector_records first other count xs = length-each count 25 (λ k. cond (eqb k 0) first other ∷ six_bytes xs k) (λ k. ap suc (length-six_bytes xs k))

pub length-guard_records : (count : ℕ) (watched : List ℕ) (levels : List ℤ) → length (guard_records count watched levels) ≡ 10 * count
length-guard_records count watched levels =
    length-each count 10 (λ g. 0x40 ∷ get_or watched g 0 ∷ signed_bytes 8 (vector levels g)) (λ g. ap (λ (k : ℕ). suc (suc k)) (length-signed_bytes 8 (vector levels g)))

-- eight texts, one behind the other
length-eight : (a b c d e f g h : List ℕ) → length (a ++ b ++ c ++ d ++ e ++ f ++ g ++ h) ≡ length a + length b + length c + length d + length e + length f + length g + length h
length-eight a b c d e f g h = simp length-append

pub length-file_of : (m : Model) → length (file_of m) ≡ 4 + 26 * m.n + 25 * (drift_count m.drift + m.initial.count + input_count m.input + m.questions.directions) + 10 * m.questions.guards + 1
unfolding file_of
length-file_of m =
    let head : length (head_record m) ≡ 4 = ap (λ (k : ℕ). suc (suc k)) (length-bytes_of 2 m.steps) in
    let rows = length-row_records m.n (rows_of m.motion) in
    let drift = length-vector_records 0x05 0x05 (drift_count m.drift) m.drift in
    let initial = length-vector_records (first_kind 0x10 m.initial.shape) (other_kind 0x10 m.initial.shape) m.initial.count m.initial.points in
    let input = length-vector_records (first_kind 0x20 m.input.shape) (other_kind 0x20 m.input.shape) (input_count m.input) m.input.points in
    let directions = length-vector_records 0x30 0x30 m.questions.directions m.questions.entries in
    let guards = length-guard_records m.questions.guards m.questions.watched m.questions.levels in
    omega (arith, length-eight (head_record m) (row_records m.n (rows_of m.motion)) (drift_records m.drift) (initial_records m.initial) (input_records m.input) (direction_records m.questions.directions m.questions.entries) (guard_records m.questions.guards m.questions.watched m.questions.levels) end_record)
