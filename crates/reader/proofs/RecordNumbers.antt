-- The number of a record, and that where reading stops, is 0 or that of a refusal. Assumes nothing.
use mathlib.Core.Path.{refl}
use mathlib.Core.Bool.{Bool, true, false, cond}
use mathlib.Core.Logic.{inl, inr}
use mathlib.Core.List.{List}
use Prim.Native.Nat.{ℕ, ◌+◌}
use lib.Dec.{eqb, ltb}
use lib.ListN.{length}
use lib.IntN.{ℤ}
use Rattle.std.specs.Prelude.{Option}
use Rattle.coefficients.specs.Entries.{entry_number}
use Rattle.coefficients.proofs.RowLaws.{entries_number-ind, scaled_entry-ind, entry_of_bits-ind}
use Rattle.records.specs.Records.{Record, whole, short, unknown, nothing, record_at}
use Rattle.records.specs.declared.kinds.Layout.{Layout}
use Rattle.records.specs.declared.kinds.Point.{Point}
use Rattle.records.specs.declared.kinds.Part.{Part}
use Rattle.records.specs.declared.kinds.Part.TheVariants.{Head, Row, Drift, Initial, Input, Direction, Guard, End}
use Rattle.reachability.specs.declared.sets.Set.{Set}
use Rattle.columns.specs.Columns.{unused_zero, first_byte}
use Rattle.reader.specs.declared.refusals.FileRefusal.TheVariants as F
use Rattle.reader.specs.declared.state.State.{State}
use Rattle.records.specs.Kinds.{layout_of, part_of}
use Rattle.records.specs.Order.{may_follow}
use Rattle.reader.specs.Models.{row_answer, with_point}
use Rattle.reader.specs.Values.{head_ok, drift_ok, point_ok, entering_point_ok, direction_ok, guard_ok, row_number, point_number_of, value_number, body_number}
use Rattle.reader.specs.Refusals.{one_too_many, kind_number, refusal}
use Rattle.reader.specs.Reading.{Stop, number_at}
use Rattle.reader.proofs.FileNumbers.{Numbered, unless-numbered}
use Rattle.reader.proofs.RowAnswers.{row_answer-ind}
use Rattle.arrays.proofs.FirstOf.{first_of-ind}

answer-numbered : (l : Layout) (body : List ℕ) (i : ℕ) → Numbered (entry_number (row_answer l body i))
answer-numbered =
    row_answer-ind (λ a. Numbered (entry_number a))
    (λ bits. entry_of_bits-ind (λ a. Numbered (entry_number a)) bits (λ h. inl refl) (inr (F.FittedRow, refl)))
    (λ entry. scaled_entry-ind (λ a. Numbered (entry_number a)) entry (λ h. inl refl) (inr (F.Row, refl)))

pub row_number-numbered : (s : State) (l : Layout) (body : List ℕ) → Numbered (row_number s l body)
unfolding row_number
row_number-numbered s l body =
    first_of-ind Numbered
    (unless-numbered (eqb (first_byte body) s.rows) F.Row)
    (entries_number-ind Numbered s.model.n (row_answer l body) (inl refl) (answer-numbered l body))

pub point_number-numbered : (input : Bool) (n : ℕ) (point : Option Point) (set : Set) (drift : List ℤ) → Numbered (point_number_of input n point set drift)
point_number-numbered input n point set drift =
    first_of-ind Numbered (unless-numbered (point_ok n point set) F.Point) (unless-numbered (entering_point_ok input set drift) F.Drift)

pub value_number-numbered : (p : Part) (s : State) (l : Layout) (body : List ℕ) → Numbered (value_number p s l body)
value_number-numbered Head s l body = unless-numbered (head_ok body) F.Head
value_number-numbered Row s l body = row_number-numbered s l body
value_number-numbered Drift s l body = unless-numbered (drift_ok l body) F.Drift
value_number-numbered Initial s l body = point_number-numbered false s.model.n l.point (with_point s.model.initial l body) s.model.drift
value_number-numbered Input s l body = point_number-numbered true s.model.n l.point (with_point s.model.input l body) s.model.drift
value_number-numbered Direction s l body = unless-numbered (direction_ok l body) F.Direction
value_number-numbered Guard s l body = unless-numbered (guard_ok s body) F.Guard
value_number-numbered End s l body = inl refl

pub body_number-numbered : (s : State) (kind : ℕ) (body : List ℕ) → Numbered (body_number s kind body)
unfolding body_number
body_number-numbered s kind body =
    first_of-ind Numbered (unless-numbered (unused_zero s.model.n (layout_of kind) body) F.BeyondN) (value_number-numbered (part_of kind) s (layout_of kind) body)

kind_number-numbered : (s : State) (kind : ℕ) → Numbered (kind_number s kind)
unfolding kind_number
kind_number-numbered s kind = by (may_follow s.place kind) (one_too_many s (layout_of kind))
  where
    by : (a b : Bool) → Numbered (cond a (cond b 9 0) 3)
    by true true = inr (F.OneTooMany, refl)
    by true false = inl refl
    by false b = inr (F.WrongPlace, refl)

refusal-numbered : (s : State) (r : Record) → Numbered (refusal s r)
unfolding refusal
refusal-numbered s nothing = inr (F.Ends, refl)
refusal-numbered s (unknown kind) = inr (F.UnknownKind, refl)
refusal-numbered s (short kind) = first_of-ind Numbered {a = kind_number s kind} {b = 1} (kind_number-numbered s kind) (inr (F.Ends, refl))
refusal-numbered s (whole kind body) = first_of-ind Numbered {a = kind_number s kind} (kind_number-numbered s kind) (body_number-numbered s kind body)

pub number_at-numbered : (file : List ℕ) (p : Stop) → Numbered (number_at file p)
unfolding number_at
number_at-numbered file p = first_of-ind Numbered (refusal-numbered p.state (record_at file p.at)) (ten (ltb (p.at + 1) (length file)))
  where
    ten : (b : Bool) → Numbered (cond b 10 0)
    ten true = inr (F.BehindEnd, refl)
    ten false = inl refl
