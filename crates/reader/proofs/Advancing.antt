-- Laws of `Advances`. In order: what each answer makes of the reading of the file; which answer is right, by the record that stands at
-- the offset. Assumes nothing.
use mathlib.Core.Path.{◌≡◌, refl, sym, ap, ap₂, ◌∙◌}
use mathlib.Core.Bool.{Bool, true, false, cond, not}
use mathlib.Core.List.{List}
use Prim.Native.Nat.{ℕ, ◌+◌, ◌≤◌, ◌<◌}
use native.Mathlib.Decide.{dec_lt}
use native.Mathlib.Omega.{arith}
use lib.Dec.{eqb}
use lib.ListN.{length}
use Rattle.std.specs.Prelude.{Some, None, Result, Ok, Err}
use Rattle.std.specs.Result.{result_and}
use Rattle.records.specs.declared.kinds.Layout.{Layout}
use Rattle.records.specs.declared.kinds.Part.{Part}
use Rattle.records.specs.declared.kinds.Part.TheVariants.{Head, Row, Drift, Initial, Input, Direction, Guard, End}
use Rattle.records.specs.Kinds.{body_bytes, body_length, part_of, layout_of}
use Rattle.records.specs.Places.{end_place}
use Rattle.records.specs.Records.{Record, whole, short, unknown, nothing, record_at, record_kind, record_body}
use Rattle.records.proofs.KnownKinds.{known_at}
use Rattle.records.proofs.RecordAt.{whole_of, whole_length}
use Rattle.reader.specs.declared.refusals.FileRefusal.{FileRefusal}
use Rattle.reader.specs.declared.refusals.FileRefusal.TheVariants.{Ends, UnknownKind, BehindEnd}
use Rattle.reader.specs.declared.state.State.{State}
use Rattle.reader.specs.FileNumbers.{file_number}
use Rattle.reader.specs.Values.{body_number}
use Rattle.reader.specs.Refusals.{kind_number, refusal, stored_in, stored}
use Rattle.reader.specs.Reading.{is_end, refused, read_as, read_from, behind, stored_record}
use Rattle.reader.specs.Inner.{layout_number, Admits, Advances}
use Rattle.reader.proofs.FileNumbers.{refused-as, file_number-some}
use Rattle.reader.proofs.ReadingOn.{refusal-short-kind, refusal-short, refusal-whole, refusal-whole-kind, whole-of-refusal, refusal-zero, read_from-next, read_from-refused, read_from-nothing, read_from-more, read_from-end}

-- of the known kinds the end alone leads to the last place
is_end-place : (kind n : ℕ) → body_length kind ≡ body_bytes n → is_end (part_of kind) ≡ eqb (layout_of kind).place end_place
is_end-place kind n known = agree (is_end (part_of kind)) (eqb (layout_of kind).place end_place) (known_at kind n known (λ k l. cond (is_end l.part) (eqb l.place end_place) (not (eqb l.place end_place))) refl)
  where
    agree : (a b : Bool) → cond a b (not b) ≡ true → a ≡ b
    agree true b e = sym e
    agree false true e = e
    agree false false e = refl

-- the end adds nothing
end-stores : (p : Part) (s : State) (l : Layout) (body : List ℕ) → is_end p ≡ true → stored_in p s l body ≡ s
end-stores Head s l body e = let z : ◌≡◌ {A = ℕ} 0 1 = cc in absurd (omega arith)
end-stores Row s l body e = let z : ◌≡◌ {A = ℕ} 0 1 = cc in absurd (omega arith)
end-stores Drift s l body e = let z : ◌≡◌ {A = ℕ} 0 1 = cc in absurd (omega arith)
end-stores Initial s l body e = let z : ◌≡◌ {A = ℕ} 0 1 = cc in absurd (omega arith)
end-stores Input s l body e = let z : ◌≡◌ {A = ℕ} 0 1 = cc in absurd (omega arith)
end-stores Direction s l body e = let z : ◌≡◌ {A = ℕ} 0 1 = cc in absurd (omega arith)
end-stores Guard s l body e = let z : ◌≡◌ {A = ℕ} 0 1 = cc in absurd (omega arith)
end-stores End s l body e = refl

module _ (file : List ℕ) (at : ℕ) (s t : State) where
  abbrev here : Record
  here = record_at file at

  -- refused: at the record, which where no byte is left is the length of the file
  pub advances-refused : {e : FileRefusal} → at ≤ length file → Advances file at s (Err e) t → read_from file at s ≡ Err (record { refusal = e; offset = at })
  advances-refused {e} h a =
      let some : refusal s here ≡ 0 → ⊥ = λ z. omega (arith, file_number-some e, a) in
      told some ∙ sym (refused-as e at a)
    where
      told : (refusal s here ≡ 0 → ⊥) → read_from file at s ≡ refused (refusal s here) at
      told some = elim (dec_lt at (length file)) [ yes k ↦ read_from-refused file at s refl some k | no k ↦ read_from-nothing file at s refl some (omega (arith, k)) ∙ ap (refused (refusal s here)) (omega (arith, k)) ]

  -- a whole record
  module _ (z : refusal s here ≡ 0) where
    stands : here ≡ whole (record_kind here) (record_body here)
    stands = whole-of-refusal s here z

    passes : refusal s (whole (record_kind here) (record_body here)) ≡ 0
    passes = sym (ap (refusal s) stands) ∙ z

    inside : at + 1 + length (record_body here) ≤ length file
    inside = (whole_of file at (record_kind here) (record_body here) stands).within

  -- reading goes on behind it
  pub advances-next : {next : ℕ} → Advances file at s (Ok (Some next)) t → (at < next) × (next ≤ length file) × (read_from file next t ≡ read_from file at s)
  advances-next {next} a =
      let z = a.0 in
      let w = inside z in
      let parts = refusal-zero s (record_kind here) (record_body here) (passes z) in (
        omega (arith, a.2.1),
        omega (arith, a.2.1, w),
        ap₂ (read_from file) a.2.1 a.1 ∙ sym (read_from-next file at s (record { stands = stands z; allowed = parts.0; passes = parts.1; other = a.2.0 })),
      )

  -- the end
  module _ (a : Advances file at s (Ok None) t) where
    pub advances-inside : at + 1 ≤ length file
    advances-inside = let w = inside a.0 in omega arith

    pub advances-more : at + 1 < length file → read_from file at s ≡ Err (record { refusal = BehindEnd; offset = at + 1 })
    advances-more h = read_from-more file at s (stands a.0) (passes a.0) a.2 h ∙ sym (refused-as BehindEnd (at + 1) refl)

    pub advances-end : length file ≤ at + 1 → read_from file at s ≡ read_as t.model
    unfolding stored
    advances-end h = read_from-end file at s (stands a.0) (passes a.0) a.2 h ∙ ap (λ (x : State). read_as x.model) (sym (a.1 ∙ end-stores (part_of (record_kind here)) s (layout_of (record_kind here)) (record_body here) a.2))

-- ---- the answers by the record that stands at the offset

module _ (file : List ℕ) (at : ℕ) (s t : State) where
  pub advances-nothing : record_at file at ≡ nothing → Advances file at s (Err Ends) t
  unfolding refusal
  advances-nothing is = ap (refusal s) is

  pub advances-unknown : {kind : ℕ} → record_at file at ≡ unknown kind → Advances file at s (Err UnknownKind) t
  unfolding refusal
  advances-unknown is = ap (refusal s) is

  module _ (kind : ℕ) where
    -- a kind that is refused, whether its body is there or not
    advances-short-kind : (e : FileRefusal) → record_at file at ≡ short kind → kind_number s kind ≡ file_number e → Advances file at s (Err e) t
    advances-short-kind e is n = ap (refusal s) is ∙ refusal-short-kind s kind (λ z. omega (arith, file_number-some e)) ∙ n

    advances-short : record_at file at ≡ short kind → kind_number s kind ≡ 0 → Advances file at s (Err Ends) t
    advances-short is z = ap (refusal s) is ∙ refusal-short s kind z

    -- both, by what admitting the kind gives
    pub advances-cut : (admitted : Result Layout FileRefusal) → record_at file at ≡ short kind → Admits s kind admitted → Advances file at s (result_and admitted (Err Ends)) t
    advances-cut (Ok l) is h = advances-short is h.0
    advances-cut (Err e) is h = advances-short-kind e is h

    module _ (body : List ℕ) (is : record_at file at ≡ whole kind body) where
      pub advances-whole-kind : (e : FileRefusal) → kind_number s kind ≡ file_number e → Advances file at s (Err e) t
      advances-whole-kind e n = ap (refusal s) is ∙ refusal-whole-kind s kind body (λ z. omega (arith, file_number-some e)) ∙ n

      module _ (passes : kind_number s kind ≡ 0) where
        -- by its layout
        pub advances-value : (e : FileRefusal) → layout_number s (layout_of kind) body ≡ file_number e → Advances file at s (Err e) t
        unfolding body_number
        advances-value e n = ap (refusal s) is ∙ refusal-whole s kind body passes ∙ n

        module _ (z : layout_number s (layout_of kind) body ≡ 0) (after : t ≡ stored_in (part_of kind) s (layout_of kind) body) where
          none : refusal s (record_at file at) ≡ 0
          unfolding body_number
          none = ap (refusal s) is ∙ refusal-whole s kind body passes ∙ z

          stores : t ≡ stored_record s (record_at file at)
          unfolding stored
          stores = after ∙ sym (ap (stored_record s) is)

          pub advances-behind : eqb (layout_of kind).place end_place ≡ false → Advances file at s (Ok (Some (at + 1 + length body))) t
          advances-behind other = (none, stores, (ap (λ (r : Record). is_end (part_of (record_kind r))) is ∙ is_end-place kind _ (whole_length file at kind body is) ∙ other, sym (ap (behind at) is)))

          pub advances-at-end : eqb (layout_of kind).place end_place ≡ true → Advances file at s (Ok None) t
          advances-at-end end = (none, stores, ap (λ (r : Record). is_end (part_of (record_kind r))) is ∙ is_end-place kind _ (whole_length file at kind body is) ∙ end)
