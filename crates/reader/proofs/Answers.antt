-- What a refused file is told: a number from 1 to 10 or 15 to 17, with an offset no farther than the file's length. In order: the
-- numbers of one record; the number and the offset where reading stops. Assumes nothing.
use mathlib.Core.Path.{◌≡◌, refl, sym, ap, subst, ◌∙◌}
use mathlib.Core.Bool.{Bool, true, false, cond}
use mathlib.Core.Logic.{◌⊎◌, inl, inr}
use mathlib.Core.List.{List}
use Prim.Native.Nat.{ℕ, suc, ◌+◌, ◌-◌, ◌≤◌}
use native.Mathlib.Omega.{arith}
use borrow.Author.Tests.{eqb-true, eqb-false, ltb-true}
use lib.Dec.{eqb, ltb}
use lib.ListN.{length}
use lib.IntN.{ℤ}
use Rattle.std.specs.Prelude.{Option, Err}
use Rattle.records.specs.Records.{record_at}
use Rattle.records.proofs.RecordAt.{whole_of}
use Rattle.records.specs.declared.kinds.Layout.{Layout}
use Rattle.records.specs.declared.kinds.Point.{Point as SetPoint}
use Rattle.records.specs.declared.kinds.Part.{Part}
use Rattle.reachability.specs.declared.sets.Set.{Set}
use Rattle.reader.specs.declared.refusals.FileRefusal.{FileRefusal}
use Rattle.reader.specs.declared.refusals.FileRefusal.TheVariants.{Ends, UnknownKind, WrongPlace, Head, Row, Point, Direction, Guard, OneTooMany, BehindEnd, FittedRow, BeyondN, Drift}
use Rattle.reader.specs.declared.refusals.Refused.{Refused}
use Rattle.reader.specs.declared.state.State.{State}
use Rattle.reader.specs.FileNumbers.{file_number}
use Rattle.reader.specs.Models.{start}
use Rattle.reader.specs.Values.{row_number, point_number_of, value_number, body_number}
use Rattle.reader.specs.Refusals.{refusal}
use Rattle.reader.specs.Reading.{Stop, stop_from, number_at, offset_at, refused, read_as, reading_at, read_from, read_model}
use Rattle.arrays.proofs.FirstOf.{first_of-none}
use Rattle.reader.proofs.FileNumbers.{file_number-some, Numbered}
use Rattle.reader.proofs.RecordNumbers.{row_number-numbered, point_number-numbered, value_number-numbered, body_number-numbered, number_at-numbered}
use Rattle.reader.proofs.ReadingOn.{stop_for-ind}

-- ---- the numbers of one record

-- The numbers that the reader has for a file, 0 for none.
abbrev pub FileNumber : ℕ → Type 0
FileNumber number = (number ≤ 10) ⊎ ((15 ≤ number) × (number ≤ 17))

number-known : (e : FileRefusal) → FileNumber (file_number e)
number-known Ends = inl (omega arith)
number-known UnknownKind = inl (omega arith)
number-known WrongPlace = inl (omega arith)
number-known Head = inl (omega arith)
number-known Row = inl (omega arith)
number-known Point = inl (omega arith)
number-known Direction = inl (omega arith)
number-known Guard = inl (omega arith)
number-known OneTooMany = inl (omega arith)
number-known BehindEnd = inl (omega arith)
number-known FittedRow = inr (omega arith, omega arith)
number-known BeyondN = inr (omega arith, omega arith)
number-known Drift = inr (omega arith, omega arith)

known-of : {number : ℕ} → Numbered number → FileNumber number
known-of (inl z) = inl (omega (arith, z))
known-of (inr (e, is)) = subst FileNumber (sym is) (number-known e)

row_number-known : (s : State) (l : Layout) (body : List ℕ) → FileNumber (row_number s l body)
row_number-known s l body = known-of (row_number-numbered s l body)

point_number-known : (input : Bool) (n : ℕ) (point : Option SetPoint) (set : Set) (drift : List ℤ) → FileNumber (point_number_of input n point set drift)
point_number-known input n point set drift = known-of (point_number-numbered input n point set drift)

value_number-known : (p : Part) (s : State) (l : Layout) (body : List ℕ) → FileNumber (value_number p s l body)
value_number-known p s l body = known-of (value_number-numbered p s l body)

body_number-known : (s : State) (kind : ℕ) (body : List ℕ) → FileNumber (body_number s kind body)
body_number-known s kind body = known-of (body_number-numbered s kind body)

-- ---- the number and the offset where reading stops

pub record Told (file : List ℕ) (number offset : ℕ) : Type 0 where
  pub least : 1 ≤ number
  pub known : FileNumber number
  pub inside : offset ≤ length file

module _ (file : List ℕ) (p : Stop) where
  number_at-known : FileNumber (number_at file p)
  number_at-known = known-of (number_at-numbered file p)

  offset_at-le : (number_at file p ≡ 0 → ⊥) → p.at ≤ length file → offset_at file p ≤ length file
  unfolding number_at offset_at
  offset_at-le ne h = split (eqb (refusal p.state (record_at file p.at)) 0) refl (ltb p.at (length file)) (ltb (p.at + 1) (length file)) refl
    where
      split : (a : Bool) → eqb (refusal p.state (record_at file p.at)) 0 ≡ a → (b c : Bool) → ltb (p.at + 1) (length file) ≡ c → cond a (p.at + 1) (cond b p.at (length file)) ≤ length file
      split true e b true f = omega (arith, ltb-true (p.at + 1) (length file) f)
      split true e b false f = absurd (ne (first_of-none _ (eqb-true (refusal p.state (record_at file p.at)) 0 e) ∙ ap (λ (x : Bool). cond x 10 0) f))
      split false e true c f = h
      split false e false c f = omega arith

  reading_at-told : p.at ≤ length file → (e : Refused) → reading_at file p ≡ Err e → Told file (file_number e.refusal) e.offset
  unfolding reading_at
  reading_at-told h e is = split (eqb (number_at file p) 0) refl is
    where
      split : (b : Bool) → eqb (number_at file p) 0 ≡ b → cond b (read_as p.state.model) (refused (number_at file p) (offset_at file p)) ≡ Err e → Told file (file_number e.refusal) e.offset
      split true f g = let z : ◌≡◌ {A = ℕ} 0 1 = cc in absurd (omega arith)
      split false f g =
          let o : offset_at file p ≡ e.offset = cc in
          let ne = eqb-false (number_at file p) 0 f in
          record { least = file_number-some e.refusal; known = number-known e.refusal; inside = omega (arith, offset_at-le ne h) }

pub read_model-told : (file : List ℕ) (e : Refused) → read_model file ≡ Err e → Told file (file_number e.refusal) e.offset
unfolding read_model read_from
read_model-told file e is =
    reading_at-told file (stop_from file 0 start)
    (stop_for-ind file (λ p. p.at ≤ length file) (λ at s kind body h g. (whole_of file at kind body g.stands).within) (suc (length file - 0)) 0 start (omega arith))
    e is
