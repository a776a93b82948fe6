-- The answers of `records::record_at`: the tests that led to each return say which case of `record_at` holds. Assumes nothing.
use Rattle.std.proofs.Common.{◌≡◌, ℕ, ◌+◌, ◌-◌, ◌<◌, ◌≤◌, List, length, get_or, take, drop, slice_range, Bor, Some, None, Ok, Err, refl, sym, ap, ap₂, ◌∙◌, arith, rules}
use native.Mathlib.Nat.{add-sub_cancel_left}
use Rattle.records.specs.declared.kinds.Layout.{Layout}
use Rattle.records.specs.declared.NoRecord.TheVariants.{Nothing, Short, Unknown}
use Rattle.records.specs.Kinds.{body_bytes, body_length, kind_layout}
use Rattle.records.specs.Records.{Record, whole, short, unknown, record_at, record_number, record_kind, record_body, record_place, Step, step_record, step_number, step_kind, step_body, step_place, RecordStep}
use Rattle.records.proofs.KnownKinds.{body_length-none, body_length-some}
use Rattle.records.proofs.RecordAt.{record_at-nothing, record_at-unknown, record_at-short, record_at-whole}
use Rattle.records.proofs.record_at.Goals as goal

module _ (file : Bor (List ℕ)) (at : ℕ) where
  -- what the record at the offset makes of the step
  step-of : {r : Record} → record_at file.now at ≡ r → (step : Step) → step_record step ≡ r → step_number step ≡ record_number r → step_kind step ≡ record_kind r → step_body step ≡ record_body r → step_place step file.ref_ptr ≡ record_place at r file.ref_ptr → RecordStep file at step
  step-of is step e number kind body place =
      record {
        record_is = e ∙ sym is;
        number_is = number ∙ sym (ap record_number is);
        kind-is = kind ∙ sym (ap record_kind is);
        body_is = body ∙ sym (ap record_body is);
        place_is = place ∙ sym (ap (λ (s : Record). record_place at s file.ref_ptr) is);
      }

  step-nothing : length file.now ≤ at → RecordStep file at (Err Nothing)
  step-nothing h = step-of (record_at-nothing file.now at h) (Err Nothing) refl refl refl refl refl

  module _ (inside : at < length file.now) {kind : ℕ} (first : kind ≡ get_or file.now at 0) where
    step-unknown : kind_layout kind ≡ None → RecordStep file at (Err (Unknown kind))
    step-unknown e =
        step-of (record_at-unknown file.now at inside (sym (ap body_length first) ∙ body_length-none kind e) ∙ ap unknown (sym first)) (Err (Unknown kind)) refl refl refl refl refl

    module _ {l : Layout} (is : kind_layout kind ≡ Some l) where
      known : body_length (get_or file.now at 0) ≡ body_bytes l.length
      known = sym (ap body_length first) ∙ body_length-some kind is

      step-short : length file.now - (at + 1) < l.length → RecordStep file at (Err (Short kind))
      step-short h = step-of (record_at-short file.now at inside l.length known (omega arith) ∙ ap short (sym first)) (Err (Short kind)) refl refl refl refl refl

      step-whole : (part : Bor (List ℕ)) → l.length ≤ length file.now - (at + 1) → part.now ≡ slice_range file.now (at + 1) (at + 1 + l.length) → part.ref_ptr ≡ (file.ref_ptr.0, at + 1 + file.ref_ptr.1) → RecordStep file at (Ok (kind, part))
      step-whole part h now place =
          step-of (record_at-whole file.now at inside l.length known (omega arith) ∙ ap₂ whole (sym first) (sym body)) (Ok (kind, part)) refl refl refl refl place
        where
          body : part.now ≡ take l.length (drop (at + 1) file.now)
          body = now ∙ ap (λ (k : ℕ). take k (drop (at + 1) file.now)) (add-sub_cancel_left (at + 1) l.length)

-- no byte is left
pub returns-in_default : goal.returns-in_default
returns-in_default c = search (rules, step-nothing)

-- an unknown kind
pub returns-in_default-kind_layout : goal.returns-in_default-kind_layout
returns-in_default-kind_layout c = search (rules, step-unknown)

-- the file's end cuts the body off
pub returns-then-file-start : goal.returns-then-file-start
returns-then-file-start c = search (rules, step-short)

-- a whole record
pub returns : goal.returns
returns c = step-whole _ _ (search rules) (search rules) {l = c.in-Some-kind_layout.layout} (search rules) _ c.if-file-start.false refl refl
