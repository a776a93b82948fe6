-- Laws of `refusal_of`: the refusal that a number stands for, and the numbers that stand for one. Assumes nothing.
use mathlib.Core.Path.{◌≡◌, refl, sym, ap, ◌∙◌}
use mathlib.Core.Bool.{Bool, true, false}
use mathlib.Core.Logic.{◌⊎◌, inl, inr}
use Prim.Native.Nat.{ℕ, ◌≤◌}
use native.Mathlib.Omega.{arith}
use Rattle.std.specs.Prelude.{Result, Err}
use Rattle.coefficients.specs.declared.EntryRefusal.{EntryRefusal}
use Rattle.coefficients.specs.Entries.{entry_refusal_number}
use Rattle.reachability.specs.declared.model.Model.{Model}
use Rattle.reader.specs.declared.refusals.FileRefusal.{FileRefusal}
use Rattle.reader.specs.declared.refusals.FileRefusal.TheVariants.{Ends, UnknownKind, WrongPlace, Head, Row, Point, Direction, Guard, OneTooMany, BehindEnd, FittedRow, BeyondN, Drift}
use Rattle.reader.specs.declared.refusals.Refused.{Refused}
use Rattle.reader.specs.FileNumbers.{file_number, refusal_of, of_entry}
use Rattle.reader.specs.Reading.{refused}
use Rattle.reader.specs.Values.{unless}

pub refusal_of-number : (e : FileRefusal) → refusal_of (file_number e) ≡ e
unfolding refusal_of
refusal_of-number Ends = refl
refusal_of-number UnknownKind = refl
refusal_of-number WrongPlace = refl
refusal_of-number Head = refl
refusal_of-number Row = refl
refusal_of-number Point = refl
refusal_of-number Direction = refl
refusal_of-number Guard = refl
refusal_of-number OneTooMany = refl
refusal_of-number BehindEnd = refl
refusal_of-number FittedRow = refl
refusal_of-number BeyondN = refl
refusal_of-number Drift = refl

pub of_entry-number : (e : EntryRefusal) → file_number (of_entry e) ≡ entry_refusal_number e
of_entry-number EntryRefusal.Scaled = refl
of_entry-number EntryRefusal.Fitted = refl

-- a refusal by its number
pub refused-as : (e : FileRefusal) (offset : ℕ) {number : ℕ} → number ≡ file_number e → ◌≡◌ {A = Result Model Refused} (Err (record { refusal = e; offset = offset })) (refused number offset)
refused-as e offset n =
    let is : e ≡ refusal_of _ = sym (ap refusal_of n ∙ refusal_of-number e) in
    ap (λ (x : FileRefusal). Err (record { refusal = x; offset = offset })) is

-- it is not 0
pub file_number-some : (e : FileRefusal) → 1 ≤ file_number e
file_number-some Ends = omega arith
file_number-some UnknownKind = omega arith
file_number-some WrongPlace = omega arith
file_number-some Head = omega arith
file_number-some Row = omega arith
file_number-some Point = omega arith
file_number-some Direction = omega arith
file_number-some Guard = omega arith
file_number-some OneTooMany = omega arith
file_number-some BehindEnd = omega arith
file_number-some FittedRow = omega arith
file_number-some BeyondN = omega arith
file_number-some Drift = omega arith

-- ---- numbers that are 0 or that of a refusal

abbrev pub Numbered : ℕ → Type 0
Numbered number = (number ≡ 0) ⊎ ((e : FileRefusal) × (number ≡ file_number e))

pub unless-numbered : (ok : Bool) (e : FileRefusal) → Numbered (unless ok (file_number e))
unless-numbered true e = inl refl
unless-numbered false e = inr (e, refl)

-- back, of a number that is one
pub file_number-of : {number : ℕ} → Numbered number → (number ≡ 0 → ⊥) → file_number (refusal_of number) ≡ number
file_number-of (inl z) some = absurd (some z)
file_number-of (inr (e, is)) some = ap (λ (n : ℕ). file_number (refusal_of n)) is ∙ ap file_number (refusal_of-number e) ∙ sym is
