-- `writer::parts::put_model` meets its contract: each part stands behind those before it, and the parts are the file. There is room for
-- each, since there is for all. Assumes nothing.
use Rattle.integers.proofs.Basics.{◌≡◌, refl, ap, subst, ◌∙◌, ℕ, ◌+◌, ◌*◌, ◌≤◌, arith, rules, length}
use mathlib.Core.List.{List, [], ◌∷◌}
use Rattle.numbers.specs.Numbers.{bytes_of}
use Rattle.numbers.proofs.Written.{length-bytes_of}
use Rattle.std.specs.Int.{bytes_low_first}
use Rattle.text.specs.declared.output.Output.{Output}
use Rattle.text.specs.Output.{PutNext, PutsNext}
use Rattle.text.proofs.Putting.{put-most, put-length, put-near}
use Rattle.text.proofs.Outputs.{next_is, next_then, next_whole}
use Rattle.reachability.specs.declared.model.Model.{Model}
use Rattle.reachability.proofs.model.Facts.{model-facts}
use Rattle.reachability.proofs.model.Lengths.{lengths}
use Rattle.writer.specs.Writing.{head_record, row_records, vector_records, point_records, file_of}
use Rattle.writer.proofs.Bits.{unsigned-bytes}
use Rattle.writer.proofs.parts.Counts.{counts}
use Rattle.writer.proofs.parts.Lengths.{length-file_of}
use Rattle.writer.proofs.parts.put_model.Goals as goal

-- the head, from its two parts
head-put : (m : Model) {steps : List ℕ} {a b c : Output} → a.at + 4 ≤ length a.bytes.now → PutsNext 2 (0x01 ∷ m.n ∷ []) a b → steps ≡ bytes_low_first 0 2 m.steps → PutsNext (length steps) steps b c → PutNext 4 (head_record m) a c
head-put m room first is next =
    let kind = next_whole (0x01 ∷ m.n ∷ []) 2 refl refl (omega (arith, room)) first in
    next_then kind (next_whole (bytes_of 2 m.steps) 2 (is ∙ unsigned-bytes 2 m.steps) (length-bytes_of 2 m.steps) (omega (arith, room, put-near kind.put, put-length kind.put)) next)

pub overflow_cast-model : goal.overflow_cast-model
overflow_cast-model c = let few = counts c.args.model c.requires.0 in record { fits = omega arith }

pub overflow_cast-model-2 : goal.overflow_cast-model-2
overflow_cast-model-2 c = let steps = (model-facts c.args.model c.requires.0).steps-most in record { fits = omega arith }

pub put_rows-requires : goal.put_rows-requires
put_rows-requires c =
    let m = c.args.model in
    let few = counts m c.requires.0 in
    let long = length-file_of m in
    let head = head-put m (omega (arith, long, c.requires.1)) c.put.ensures c.to_le_bytes.ensures c.put-2.ensures in
    (few.n, omega (arith, put-near head.put, put-length head.put, long, c.requires.1))

pub put_vectors-requires : goal.put_vectors-requires
put_vectors-requires c =
    let m = c.args.model in
    let few = counts m c.requires.0 in
    let long = length-file_of m in
    let head = head-put m (omega (arith, long, c.requires.1)) c.put.ensures c.to_le_bytes.ensures c.put-2.ensures in
    let rows = next_then head c.put_rows.ensures in
    (omega (arith, put-near rows.put, put-length rows.put, long, c.requires.1, c.drift_count.ensures), omega (arith, few.drift, c.drift_count.ensures, (lengths m c.well_formed.1.0).drift))

pub put_points-requires : goal.put_points-requires
put_points-requires c =
    let m = c.args.model in
    let few = counts m c.requires.0 in
    let long = length-file_of m in
    let head = head-put m (omega (arith, long, c.requires.1)) c.put.ensures c.to_le_bytes.ensures c.put-2.ensures in
    let rows = next_then head c.put_rows.ensures in
    let drift = next_then rows c.put_vectors.ensures in
    (omega arith, few.initial, omega (arith, put-near drift.put, put-length drift.put, long, c.requires.1, c.drift_count.ensures))

pub put_points-requires-2 : goal.put_points-requires-2
put_points-requires-2 c =
    let m = c.args.model in
    let few = counts m c.requires.0 in
    let long = length-file_of m in
    let head = head-put m (omega (arith, long, c.requires.1)) c.put.ensures c.to_le_bytes.ensures c.put-2.ensures in
    let rows = next_then head c.put_rows.ensures in
    let drift = next_then rows c.put_vectors.ensures in
    let initial = next_then drift c.put_points.ensures in
    (omega arith, omega (arith, few.input, c.input_count.ensures), omega (arith, put-near initial.put, put-length initial.put, long, c.requires.1, c.drift_count.ensures, c.input_count.ensures))

pub put_vectors-requires-2 : goal.put_vectors-requires-2
put_vectors-requires-2 c =
    let m = c.args.model in
    let few = counts m c.requires.0 in
    let long = length-file_of m in
    let head = head-put m (omega (arith, long, c.requires.1)) c.put.ensures c.to_le_bytes.ensures c.put-2.ensures in
    let rows = next_then head c.put_rows.ensures in
    let drift = next_then rows c.put_vectors.ensures in
    let initial = next_then drift c.put_points.ensures in
    let input = next_then initial c.put_points-2.ensures in
    (omega (arith, put-near input.put, put-length input.put, long, c.requires.1, c.drift_count.ensures, c.input_count.ensures), omega (arith, few.directions, (lengths m c.well_formed.1.0).questions.entries))

pub put_guards-requires : goal.put_guards-requires
put_guards-requires c =
    let m = c.args.model in
    let few = counts m c.requires.0 in
    let long = length-file_of m in
    let head = head-put m (omega (arith, long, c.requires.1)) c.put.ensures c.to_le_bytes.ensures c.put-2.ensures in
    let rows = next_then head c.put_rows.ensures in
    let drift = next_then rows c.put_vectors.ensures in
    let initial = next_then drift c.put_points.ensures in
    let input = next_then initial c.put_points-2.ensures in
    let directions = next_then input c.put_vectors-2.ensures in
    (few.guards, omega (arith, put-near directions.put, put-length directions.put, long, c.requires.1, c.drift_count.ensures, c.input_count.ensures), few.watched)

pub returns : goal.returns
unfolding file_of
returns c =
    let m = c.args.model in
    let few = counts m c.requires.0 in
    let long = length-file_of m in
    let head = head-put m (omega (arith, long, c.requires.1)) c.put.ensures c.to_le_bytes.ensures c.put-2.ensures in
    let rows = next_then head (next_is _ (ap (row_records m.n) c.rows_of.ensures) c.put_rows.ensures) in
    let drift = next_then rows (subst (λ (k : ℕ). PutNext (25 * k) (vector_records 0x05 0x05 k m.drift) c.put_rows.new.out c.put_vectors.new.out) c.drift_count.ensures c.put_vectors.ensures) in
    let initial = next_then drift c.put_points.ensures in
    let input = next_then initial (subst (λ (k : ℕ). PutNext (25 * k) (point_records 0x20 m.input k) c.put_points.new.out c.put_points-2.new.out) c.input_count.ensures c.put_points-2.ensures) in
    let directions = next_then input c.put_vectors-2.ensures in
    let guards = next_then directions c.put_guards.ensures in
    let all = next_then guards (next_whole (0xFF ∷ []) 1 refl refl (omega (arith, put-near guards.put, put-length guards.put, long, c.requires.1)) c.put-3.ensures) in
    let name = all.same in
    let whole = put-most (length (file_of m)) (omega (arith, long)) all.put in
    search rules
