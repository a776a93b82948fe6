-- Laws of `record_at`. In order: its four cases, each from what the file holds at the offset; back from the case to the file;
-- a record that stands anywhere in a file; files that agree from the record on, or as far as it reaches; what the record step's
-- kind and number tell. Assumes nothing.
use mathlib.Core.Path.{◌≡◌, refl, sym, ap, ap₂, subst, ◌∙◌}
use mathlib.Core.List.{List, [], ◌∷◌, ◌++◌}
use Prim.Native.Nat.{ℕ, zero, suc, ◌+◌, ◌-◌, ◌≤◌, ◌<◌}
use native.Mathlib.Decide.{dec_lt}
use native.Mathlib.Omega.{arith}
use borrow.Author.Tests.{lt-ltb, le-ltb, le-leb, lt-leb}
use lib.ListN.{length, get_or, take, drop, length-append, length-take, length-drop, get_or-eq_default}
use lib.Seq.{length-take-le, take-append_seam, take-take, get_or-take, get_or-drop, get_or-append_seam, drop-append-add}
use mir.Syntax.{w8}
use mir.Val.{Fits}
use denote.Ref.{Bor}
use Rattle.records.specs.Kinds.{BodyLength, body_bytes, body_unknown, body_length}
use Rattle.records.specs.Records.{Record, whole, short, unknown, nothing, record_of, record_at, record_number, record_kind, record_body, Step, step_number, step_kind, step_body, RecordStep}
use Rattle.records.proofs.KnownKinds.{kind-above-zero, body_length-le}
use Rattle.integers.proofs.Machine.{AllBytes}

-- ---- the four cases

module _ (file : List ℕ) (at : ℕ) where
  pub record_at-nothing : length file ≤ at → record_at file at ≡ nothing
  unfolding record_at
  record_at-nothing h = simp (le-ltb at (length file) h)

  module _ (inside : at < length file) where
    record_at-inside : (b : BodyLength) → body_length (get_or file at 0) ≡ b → record_at file at ≡ record_of (get_or file at 0) b (drop (at + 1) file)
    unfolding record_at
    record_at-inside b e =
        simp (lt-ltb at (length file) inside) (ap (λ (l : BodyLength). record_of (get_or file at 0) l (drop (at + 1) file)) e)

    pub record_at-unknown : body_length (get_or file at 0) ≡ body_unknown → record_at file at ≡ unknown (get_or file at 0)
    record_at-unknown e = record_at-inside body_unknown e

    module _ (n : ℕ) (known : body_length (get_or file at 0) ≡ body_bytes n) where
      left : length (drop (at + 1) file) ≡ length file - (at + 1)
      left = length-drop (at + 1) file

      pub record_at-short : length file < at + 1 + n → record_at file at ≡ short (get_or file at 0)
      record_at-short h = record_at-inside (body_bytes n) known ∙ simp (lt-leb n (length (drop (at + 1) file)) (omega (arith, left)))

      pub record_at-whole : at + 1 + n ≤ length file → record_at file at ≡ whole (get_or file at 0) (take n (drop (at + 1) file))
      record_at-whole h = record_at-inside (body_bytes n) known ∙ simp (le-leb n (length (drop (at + 1) file)) (omega (arith, left)))

-- ---- back from the case to the file

-- What stands at an offset, with what the file holds there.
pub data StandsAt (file : List ℕ) (at : ℕ) : Record → Type 0 where
  at-nothing : length file ≤ at → StandsAt file at nothing
  at-unknown : at < length file → body_length (get_or file at 0) ≡ body_unknown → StandsAt file at (unknown (get_or file at 0))
  at-short : (n : ℕ) → at < length file → body_length (get_or file at 0) ≡ body_bytes n → length file < at + 1 + n → StandsAt file at (short (get_or file at 0))
  at-whole : (n : ℕ) → body_length (get_or file at 0) ≡ body_bytes n → at + 1 + n ≤ length file → StandsAt file at (whole (get_or file at 0) (take n (drop (at + 1) file)))

pub record_at-is : (file : List ℕ) (at : ℕ) → StandsAt file at (record_at file at)
record_at-is file at = elim (dec_lt at (length file)) [ yes l ↦ inside l (body_length (get_or file at 0)) refl | no g ↦ beyond (omega (arith, g)) ]
  where
    beyond : length file ≤ at → StandsAt file at (record_at file at)
    beyond h = subst (StandsAt file at) (sym (record_at-nothing file at h)) (at-nothing h)

    inside : at < length file → (b : BodyLength) → body_length (get_or file at 0) ≡ b → StandsAt file at (record_at file at)
    inside l body_unknown e = subst (StandsAt file at) (sym (record_at-unknown file at l e)) (at-unknown l e)
    inside l (body_bytes n) e = elim (dec_lt (length file) (at + 1 + n)) [ yes s ↦ subst (StandsAt file at) (sym (record_at-short file at l n e s)) (at-short n l e s) | no g ↦ enough (omega (arith, g)) ]
      where
        enough : at + 1 + n ≤ length file → StandsAt file at (record_at file at)
        enough h = subst (StandsAt file at) (sym (record_at-whole file at l n e h)) (at-whole n e h)

-- A whole record: its kind is the byte at the offset, its body the bytes after it, as many as the kind has.
pub record Whole (file : List ℕ) (at kind : ℕ) (body : List ℕ) : Type 0 where
  pub kind-is : kind ≡ get_or file at 0
  pub length-is : body_length kind ≡ body_bytes (length body)
  pub within : at + 1 + length body ≤ length file
  pub body_is : body ≡ take (length body) (drop (at + 1) file)

pub whole_of : (file : List ℕ) (at kind : ℕ) (body : List ℕ) → record_at file at ≡ whole kind body → Whole file at kind body
whole_of file at kind body = by-case (record_at file at) (record_at-is file at)
  where
    by-case : (r : Record) → StandsAt file at r → r ≡ whole kind body → Whole file at kind body
    by-case r (at-nothing h) e = let z : ◌≡◌ {A = ℕ} 0 1 = cc in absurd (omega arith)
    by-case r (at-unknown l u) e = let z : ◌≡◌ {A = ℕ} 0 1 = cc in absurd (omega arith)
    by-case r (at-short n l known h) e = let z : ◌≡◌ {A = ℕ} 0 1 = cc in absurd (omega arith)
    by-case r (at-whole n known h) e =
        let first : get_or file at 0 ≡ kind = cc in
        let part : take n (drop (at + 1) file) ≡ body = cc in
        let many : length body ≡ n = ap length (sym part) ∙ length-take-le n (drop (at + 1) file) (omega (arith, length-drop (at + 1) file)) in
        record {
          kind-is = sym first;
          length-is = ap body_length (sym first) ∙ known ∙ ap body_bytes (sym many);
          within = omega arith;
          body_is = sym part ∙ ap (λ (m : ℕ). take m (drop (at + 1) file)) (sym many);
        }

-- The body of a whole record has exactly as many bytes as its kind says.
pub whole_length : (file : List ℕ) (at kind : ℕ) (body : List ℕ) → record_at file at ≡ whole kind body → body_length kind ≡ body_bytes (length body)
whole_length file at kind body e = (whole_of file at kind body e).length-is

-- In a file of bytes the body of a record is bytes.
pub whole-bytes : (file : List ℕ) (at kind : ℕ) (body : List ℕ) → record_at file at ≡ whole kind body → AllBytes file → AllBytes body
whole-bytes file at kind body e bytes i =
    let part = (whole_of file at kind body e).body_is in
    elim (dec_lt i (length body)) [
      | yes l ↦
          subst (Fits w8)
          (sym (ap (λ (b : List ℕ). get_or b i 0) part ∙ get_or-take (length body) (drop (at + 1) file) i 0 l ∙ get_or-drop (at + 1) file i 0))
          (bytes (at + 1 + i))
      | no g ↦ subst (Fits w8) (sym (get_or-eq_default body 0 {n = i} (omega (arith, g)))) (record { fits = omega arith })
    ]

-- ---- a record that stands in a file

pub record_at-stands : (prefix : List ℕ) (kind : ℕ) (body rest : List ℕ) → body_length kind ≡ body_bytes (length body) → record_at (prefix ++ kind ∷ (body ++ rest)) (length prefix) ≡ whole kind body
record_at-stands prefix kind body rest known =
    record_at-whole (prefix ++ kind ∷ (body ++ rest)) (length prefix) (omega (arith, whole-size)) (length body) (ap body_length first ∙ known) (omega (arith, whole-size))
    ∙ ap₂ whole first part
  where
    whole-size : length (prefix ++ kind ∷ (body ++ rest)) ≡ length prefix + (1 + (length body + length rest))
    whole-size = simp length-append (omega arith)

    first : get_or (prefix ++ kind ∷ (body ++ rest)) (length prefix) 0 ≡ kind
    first = get_or-append_seam prefix kind (body ++ rest) 0

    part : take (length body) (drop (length prefix + 1) (prefix ++ kind ∷ (body ++ rest))) ≡ body
    part = ap (take (length body)) (drop-append-add prefix (kind ∷ (body ++ rest)) 1) ∙ take-append_seam body rest

-- ---- files that agree from the record on

-- One byte more before it makes no difference.
pub record_at-cons : (byte : ℕ) (file : List ℕ) (at : ℕ) → record_at (byte ∷ file) (suc at) ≡ record_at file at
record_at-cons byte file at = by-case (record_at file at) (record_at-is file at)
  where
    by-case : (r : Record) → StandsAt file at r → record_at (byte ∷ file) (suc at) ≡ r
    by-case r (at-nothing h) = record_at-nothing (byte ∷ file) (suc at) (omega arith)
    by-case r (at-unknown l u) = record_at-unknown (byte ∷ file) (suc at) (omega arith) u
    by-case r (at-short n l known h) = record_at-short (byte ∷ file) (suc at) (omega arith) n known (omega arith)
    by-case r (at-whole n known h) =
        let next : suc at + 1 ≡ suc (at + 1) = omega arith in
        record_at-whole (byte ∷ file) (suc at) (omega arith) n known (omega arith)
        ∙ ap (λ (k : ℕ). whole (get_or file at 0) (take n (drop k (byte ∷ file)))) next

-- ---- files that agree as far as the record reaches

part-take : (s n m : ℕ) (l : List ℕ) → s + n ≤ m → take n (drop s (take m l)) ≡ take n (drop s l)
part-take zero n m l h = take-take n m l (omega arith)
part-take (suc s) n zero l h = absurd (omega arith)
part-take (suc s) n (suc m) [] h = refl
part-take (suc s) n (suc m) (x ∷ l) h = part-take s n m l (omega arith)

-- The first m bytes of the file reach to the end of the record: its kind byte, and its body where the kind is known.
pub record Reaches (m : ℕ) (file : List ℕ) (at : ℕ) : Type 0 where
  pub kind-reached : at < m
  pub body-reached : (n : ℕ) → body_length (get_or file at 0) ≡ body_bytes n → at + 1 + n ≤ m

-- No record is longer than 50 bytes, its kind and the longest body.
pub reaches-of-le : (m : ℕ) (file : List ℕ) (at : ℕ) → at + 50 ≤ m → Reaches m file at
reaches-of-le m file at h = record { kind-reached = omega arith; body-reached = λ n known. omega (arith, body_length-le _ n known) }

-- What they hold at the offset is what the file holds there.
pub record_at-take : (m : ℕ) (file : List ℕ) (at : ℕ) → Reaches m file at → record_at (take m file) at ≡ record_at file at
record_at-take m file at reach = by-case (record_at file at) (record_at-is file at)
  where
    first : get_or (take m file) at 0 ≡ get_or file at 0
    first = get_or-take m file at 0 reach.kind-reached

    by-case : (r : Record) → StandsAt file at r → record_at (take m file) at ≡ r
    by-case r (at-nothing h) = record_at-nothing (take m file) at (simp length-take (omega arith))
    by-case r (at-unknown l u) =
        record_at-unknown (take m file) at (simp length-take (omega arith)) (ap body_length first ∙ u) ∙ ap unknown first
    by-case r (at-short n l known h) =
        record_at-short (take m file) at (simp length-take (omega arith)) n (ap body_length first ∙ known) (simp length-take (omega arith))
        ∙ ap short first
    by-case r (at-whole n known h) =
        let end = reach.body-reached n known in
        record_at-whole (take m file) at (simp length-take (omega arith)) n (ap body_length first ∙ known) (simp length-take (omega arith))
        ∙ ap₂ whole first (part-take (at + 1) n m file end)

-- As many bytes as stand before a whole record and in it reach to its end.
pub reaches_whole : (m : ℕ) (file : List ℕ) (at kind : ℕ) (body : List ℕ) → Whole file at kind body → at + 1 + length body ≤ m → Reaches m file at
reaches_whole m file at kind body w h =
    record { kind-reached = omega arith; body-reached = λ n e. omega (arith, as_many n (sym w.length-is ∙ ap body_length w.kind-is ∙ e)) }
  where
    as_many : (n : ℕ) → body_bytes (length body) ≡ body_bytes n → length body ≡ n
    as_many n e = cc

-- Where they reach to the end of a record, it stands in every file that begins with them.
pub record_at-within : (m : ℕ) (file rest : List ℕ) (at : ℕ) → m ≤ length file → Reaches m file at → record_at (take m file ++ rest) at ≡ record_at file at
record_at-within m file rest at h reach =
    sym (record_at-take m other at there) ∙ ap (λ (l : List ℕ). record_at l at) same ∙ record_at-take m file at reach
  where
    other : List ℕ
    other = take m file ++ rest

    same : take m other ≡ take m file
    same = ap (λ (k : ℕ). take k other) (sym (length-take-le m file h)) ∙ take-append_seam (take m file) rest

    first : get_or other at 0 ≡ get_or file at 0
    first = sym (get_or-take m other at 0 reach.kind-reached) ∙ ap (λ (l : List ℕ). get_or l at 0) same ∙ get_or-take m file at 0 reach.kind-reached

    there : Reaches m other at
    there = record { kind-reached = reach.kind-reached; body-reached = λ n known. reach.body-reached n (sym (ap body_length first) ∙ known) }

-- ---- what the record step's kind and number tell

whole-only : (r : Record) → record_number r ≡ 0 → r ≡ whole (record_kind r) (record_body r)
whole-only (whole kind body) e = refl
whole-only (short kind) e = absurd (omega arith)
whole-only (unknown kind) e = absurd (omega arith)
whole-only nothing e = absurd (omega arith)

unknown-only : (r : Record) → record_number r ≡ 2 → r ≡ unknown (record_kind r)
unknown-only (whole kind body) e = absurd (omega arith)
unknown-only (short kind) e = absurd (omega arith)
unknown-only (unknown kind) e = refl
unknown-only nothing e = absurd (omega arith)

short-only : (r : Record) → record_number r ≡ 1 → (record_kind r ≡ 0 → ⊥) → r ≡ short (record_kind r)
short-only (whole kind body) e ne = absurd (omega arith)
short-only (short kind) e ne = refl
short-only (unknown kind) e ne = absurd (omega arith)
short-only nothing e ne = absurd (ne refl)

nothing-only : {file : List ℕ} {at : ℕ} (r : Record) → StandsAt file at r → record_number r ≡ 1 → record_kind r ≡ 0 → r ≡ nothing
nothing-only r (at-nothing h) e z = refl
nothing-only r (at-unknown l u) e z = absurd (omega arith)
nothing-only {file} {at} r (at-short n l known h) e z = absurd (omega (arith, kind-above-zero (get_or file at 0) n known))
nothing-only r (at-whole n known h) e z = absurd (omega arith)

number-le : (r : Record) → record_number r ≤ 2
number-le (whole kind body) = omega arith
number-le (short kind) = omega arith
number-le (unknown kind) = omega arith
number-le nothing = omega arith

module _ {file : Bor (List ℕ)} {at : ℕ} {step : Step} (s : RecordStep file at step) where
  pub record_step-whole : step_number step ≡ 0 → record_at file.now at ≡ whole (step_kind step) (step_body step)
  record_step-whole e = whole-only (record_at file.now at) (sym s.number_is ∙ e) ∙ ap₂ whole (sym s.kind-is) (sym s.body_is)

  pub record_step-unknown : step_number step ≡ 2 → record_at file.now at ≡ unknown (step_kind step)
  record_step-unknown e = unknown-only (record_at file.now at) (sym s.number_is ∙ e) ∙ ap unknown (sym s.kind-is)

  pub record_step-nothing : step_number step ≡ 1 → step_kind step ≡ 0 → record_at file.now at ≡ nothing
  record_step-nothing e z = nothing-only (record_at file.now at) (record_at-is file.now at) (sym s.number_is ∙ e) (sym s.kind-is ∙ z)

  pub record_step-short : step_number step ≡ 1 → (step_kind step ≡ 0 → ⊥) → record_at file.now at ≡ short (step_kind step)
  record_step-short e ne = short-only (record_at file.now at) (sym s.number_is ∙ e) (λ z. ne (s.kind-is ∙ z)) ∙ ap short (sym s.kind-is)

  pub record_step-number-le : step_number step ≤ 2
  record_step-number-le = omega (arith, s.number_is, number-le (record_at file.now at))
