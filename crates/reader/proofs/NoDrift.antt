-- File 15: a file whose last row no drift follows is read as with a drift of zeros put in there, and its model has no drift. By the law of
-- a part that is left out. In order: a state in which all rows are in; such files. Assumes nothing.
use mathlib.Core.Path.{◌≡◌, refl, sym, ap, ◌∙◌}
use mathlib.Core.Bool.{Bool, true, cond, ◌&&◌}
use mathlib.Core.List.{List, ◌++◌}
use Prim.Native.Nat.{ℕ, ◌≤◌}
use native.Mathlib.Omega.{arith}
use borrow.Author.Tests.{eq-eqb, eqb-true, leb-true}
use lib.Dec.{eqb, leb}
use lib.ListN.{length}
use lib.IntN.{ℤ}
use Rattle.integers.specs.Sums.{all_below}
use Rattle.integers.proofs.Booleans.{and-true}
use Rattle.records.specs.declared.kinds.Layout.{Layout}
use Rattle.records.specs.declared.kinds.Part.{Part}
use Rattle.records.specs.declared.kinds.Part.TheVariants.{Head, Row, Drift, Initial, Input, Direction, Guard, End}
use Rattle.records.specs.Places.{start_place, rows_place, matrix_place, drift_place, initial_place, input_place, direction_place, guard_place}
use Rattle.records.specs.Kinds.{body_length, layout_of, part_of}
use Rattle.records.specs.Order.{may_follow}
use Rattle.records.specs.Records.{record_at, record_kind}
use Rattle.reachability.specs.declared.model.Model.{Model}
use Rattle.reachability.specs.Sets.{reach_limit}
use Rattle.columns.proofs.ColumnLaws.{unused_zero-of}
use Rattle.std.specs.Prelude.{Ok}
use Rattle.reader.specs.declared.state.State.{State}
use Rattle.filling.specs.Models.{zeros}
use Rattle.reader.specs.Models.{set_drift, start, state_of, with_head, with_row, with_drift, with_set_point, with_direction, with_guard}
use Rattle.reader.specs.Values.{drift_ok, unless, within, body_number}
use Rattle.reader.specs.Refusals.{kind_number, stored}
use Rattle.reader.specs.Reading.{stop_for, read_from, read_model}
use Rattle.reader.specs.LeftOut.{LeftOutAt, zero_body, put_in, moved}
use Rattle.reader.specs.NoDrift.{NoDriftAt, zero_drift}
use Rattle.reader.proofs.BodyNumbers.{body_number-value}
use Rattle.reader.proofs.OrderFacts.{is_plain, point_fact, point-of, point-low, fact, order-fact}
use Rattle.reader.proofs.RecordInPlace.{read_from-behind}
use Rattle.reader.proofs.ZeroBody.{six_at-zeros, entry_zero-zeros}
use Rattle.reader.proofs.AcceptedSoFar.{AcceptedSoFar}
use Rattle.reader.proofs.ReadModels.{reachable-stop}
use Rattle.reader.proofs.LeftOut.{no_end, follows-place, Skipped, Filled, Keeps, read_model-left-out, read_model-left-as}

-- ---- a state in which all rows are in

-- A drift may begin there, and the initial set stands behind it.
abbrev rows_in : ℕ → Bool
rows_in place = eqb place matrix_place

skipped : Skipped rows_in drift_place initial_place
unfolding all_below may_follow layout_of
skipped = record { early = λ place e. omega (arith, eqb-true place matrix_place e); on = refl; back = refl }

-- The same state behind a drift of zeros.
abbrev drift_read : State → State
drift_read s = state_of drift_place s.rows s.model

module _ (s : State) (g : AcceptedSoFar s) (rows_in : s.place ≡ matrix_place) where
  drift-allowed : kind_number s 0x05 ≡ 0
  unfolding kind_number may_follow layout_of
  drift-allowed = ap (λ (p : ℕ). cond (may_follow p 0x05) 0 3) rows_in

  drift-ok : body_number s 0x05 zero_body ≡ 0
  unfolding drift_ok zeros all_below layout_of
  drift-ok =
      body_number-value s 0x05 zero_body (unused_zero-of s.model.n (layout_of 0x05) zero_body (λ i l. entry_zero-zeros i))
      ∙ ap (λ (six : List ℤ). unless (within reach_limit six) 17) six_at-zeros

  no-drift-yet : s.model.drift ≡ zeros 6
  no-drift-yet = g.drift.none (omega arith)

  drift-stored : stored s 0x05 zero_body ≡ drift_read s
  unfolding stored layout_of with_drift
  drift-stored = ap (λ (six : List ℤ). state_of drift_place s.rows (set_drift s.model six)) (six_at-zeros ∙ sym no-drift-yet)

  -- It is read wherever it stands, and any kind that may follow follows behind it too.
  filled : Filled initial_place s zero_drift (drift_read s)
  unfolding body_length layout_of
  filled =
      record {
        brings =
            λ before rest. read_from-behind before 0x05 zero_body rest s refl drift-allowed drift-ok refl
            ∙ ap (read_from ((before ++ zero_drift) ++ rest) (length (before ++ zero_drift))) drift-stored;
        follows = λ kind m k. follows-place s drift_place (omega arith) (omega arith) kind (no_end s.place kind (omega arith) m);
      }

-- Behind a place where all rows are in stands a drift, or what belongs behind it.
other-behind : (p : Part) (place : ℕ) (l : Layout) → place ≡ matrix_place → (p ≡ Drift → ⊥) → fact p place l ≡ true → initial_place ≤ l.place
unfolding fact
other-behind Head place l e ne f = absurd (omega (arith, eqb-true place start_place (and-true (eqb place start_place) (eqb l.place rows_place) f).0))
other-behind Row place l e ne f = absurd (omega (arith, eqb-true place rows_place (and-true (eqb place rows_place) (eqb l.place matrix_place) f).0))
other-behind Drift place l e ne f = absurd (ne refl)
other-behind Initial place l e ne f = point-low (point-of initial_place place l (and-true (point_fact initial_place place l) _ f).0)
other-behind Input place l e ne f = omega (arith, point-low (point-of input_place place l (and-true (point_fact input_place place l) _ f).0))
other-behind Direction place l e ne f =
    omega (arith, eqb-true l.place direction_place (and-true (eqb l.place direction_place) (is_plain l) (and-true (eqb l.place direction_place && is_plain l) _ f).0).0)
other-behind Guard place l e ne f = omega (arith, eqb-true l.place guard_place (and-true (eqb l.place guard_place) (leb direction_place place) f).0)
other-behind End place l e ne f = absurd (omega (arith, leb-true direction_place place f))

-- ---- files whose last row no drift follows

-- No record behind the drift changes it.
abbrev NoDriftIn : Model → Type 0
NoDriftIn m = m.drift ≡ zeros 6

kept : Keeps initial_place (omega arith) NoDriftIn
unfolding fact with_head with_row with_set_point with_direction with_guard
kept Head u l body k f z = z
kept Row u l body k f z = z
kept Drift u l body k f z =
    absurd (omega (arith, eqb-true l.place drift_place (and-true (eqb l.place drift_place) (is_plain l) (and-true (eqb u.place matrix_place) (eqb l.place drift_place && is_plain l) f).1).0))
kept Initial u l body k f z = z
kept Input u l body k f z = z
kept Direction u l body k f z = z
kept Guard u l body k f z = z
kept End u l body k f z = z

-- A place of such a file: where reading comes to after so many records, all rows are in, and no drift is next.
module _ (file : List ℕ) (turns : ℕ) (place : NoDriftAt file (stop_for turns file 0 start)) where
  abbrev at : ℕ
  at = (stop_for turns file 0 start).at

  abbrev s : State
  s = (stop_for turns file 0 start).state

  so_far : AcceptedSoFar s
  so_far = (reachable-stop file turns).so_far

  left_out : LeftOutAt rows_in initial_place file (stop_for turns file 0 start)
  left_out =
      record {
        begins-here = eq-eqb s.place matrix_place place.rows_in;
        next-behind = λ m. other-behind (part_of (record_kind (record_at file at))) s.place (layout_of (record_kind (record_at file at))) place.rows_in place.other (order-fact s.place (record_kind (record_at file at)) m);
      }

  -- The file is read as the file with a drift of zeros put in there: the same model, or the same number with the offset 25 higher.
  pub read_model-no-drift : read_model (put_in zero_drift at file) ≡ moved 25 (read_model file)
  read_model-no-drift = read_model-left-out file turns left_out skipped zero_drift (drift_read s) refl (filled s so_far place.rows_in)

  -- Its model, where it has one, has no drift.
  pub read_model-zero-drift : {m : Model} → read_model file ≡ Ok m → m.drift ≡ zeros 6
  unfolding stored
  read_model-zero-drift =
      read_model-left-as file turns left_out (omega arith) NoDriftIn kept
      (λ kind body m k. (
        no_end s.place kind (omega (arith, place.rows_in)) m,
        kept (part_of kind) s (layout_of kind) body k (order-fact s.place kind m) (no-drift-yet s so_far place.rows_in),
      ))
