-- Laws of reading on from an offset. In order: the number of a record; a record that reading goes on behind; where reading stops;
-- what the reading is by the record at the offset. Assumes nothing.
use mathlib.Core.Path.{◌≡◌, refl, sym, ap, ap₂, ◌∙◌}
use mathlib.Core.Bool.{Bool, true, false, cond, not, ◌&&◌}
use mathlib.Core.List.{List}
use Prim.Native.Nat.{ℕ, zero, suc, ◌+◌, ◌-◌, ◌≤◌, ◌<◌}
use native.Mathlib.Decide.{dec_lt}
use native.Mathlib.Omega.{arith}
use borrow.Author.Tests.{eq-eqb, ne_eqb, eqb-true, eqb-false, lt-ltb, le-ltb, not-true}
use lib.Dec.{eqb, ltb}
use lib.ListN.{length}
use Rattle.integers.proofs.Booleans.{and-true, and-false}
use Rattle.arrays.proofs.FirstOf.{first_of-none, first_of-some, first_of-zero}
use Rattle.records.specs.Kinds.{part_of}
use Rattle.records.specs.Records.{Record, whole, short, unknown, nothing, record_at, record_kind, record_body}
use Rattle.records.proofs.RecordAt.{whole_of}
use Rattle.reader.specs.declared.state.State.{State}
use Rattle.reader.specs.Values.{body_number}
use Rattle.reader.specs.Refusals.{kind_number, refusal, stored}
use Rattle.reader.specs.Reading.{is_end, Stop, stop_here, goes_on, behind, stored_record, stop_for, number_at, offset_at, refused, read_as, reading_at, read_from}

-- ---- the number of a record

module _ (s : State) (kind : ℕ) where
  pub refusal-short-kind : (kind_number s kind ≡ 0 → ⊥) → refusal s (short kind) ≡ kind_number s kind
  unfolding refusal
  refusal-short-kind ne = first_of-some (kind_number s kind) 1 ne

  pub refusal-short : kind_number s kind ≡ 0 → refusal s (short kind) ≡ 1
  unfolding refusal
  refusal-short z = first_of-none 1 z

  module _ (body : List ℕ) where
    pub refusal-whole : kind_number s kind ≡ 0 → refusal s (whole kind body) ≡ body_number s kind body
    unfolding refusal
    refusal-whole z = first_of-none (body_number s kind body) z

    pub refusal-whole-kind : (kind_number s kind ≡ 0 → ⊥) → refusal s (whole kind body) ≡ kind_number s kind
    unfolding refusal
    refusal-whole-kind ne = first_of-some (kind_number s kind) (body_number s kind body) ne

    -- back: a whole record that is not refused
    pub refusal-zero : refusal s (whole kind body) ≡ 0 → (kind_number s kind ≡ 0) × (body_number s kind body ≡ 0)
    unfolding refusal
    refusal-zero z = first_of-zero (kind_number s kind) (body_number s kind body) z

-- a record that is not refused is whole
pub whole-of-refusal : (s : State) (r : Record) → refusal s r ≡ 0 → r ≡ whole (record_kind r) (record_body r)
unfolding refusal
whole-of-refusal s nothing z = absurd (omega arith)
whole-of-refusal s (unknown kind) z = absurd (omega arith)
whole-of-refusal s (short kind) z = absurd (omega (arith, (first_of-zero (kind_number s kind) 1 z).1))
whole-of-refusal s (whole kind body) z = refl

-- ---- a record that reading goes on behind

-- What such a record is known to be: whole, inside the file, of an allowed kind and with a body that passes, and not the end.
pub record GoesOn (file : List ℕ) (at : ℕ) (s : State) (kind : ℕ) (body : List ℕ) : Type 0 where
  pub stands : record_at file at ≡ whole kind body
  pub allowed : kind_number s kind ≡ 0
  pub passes : body_number s kind body ≡ 0
  pub other : is_end (part_of kind) ≡ false

module _ (file : List ℕ) (at : ℕ) (s : State) where
  abbrev here : Record
  here = record_at file at

  pub goes_on-of : (kind : ℕ) (body : List ℕ) → GoesOn file at s kind body → goes_on s here ≡ true
  goes_on-of kind body g =
      ap (goes_on s) g.stands
      ∙ ap₂ ◌&&◌ (eq-eqb (refusal s (whole kind body)) 0 (refusal-whole s kind body g.allowed ∙ g.passes)) (ap not g.other)

  pub goes_on-true : goes_on s here ≡ true → GoesOn file at s (record_kind here) (record_body here)
  goes_on-true t =
      let both = and-true (eqb (refusal s here) 0) (not (is_end (part_of (record_kind here)))) t in
      let z = eqb-true (refusal s here) 0 both.0 in
      let w = whole-of-refusal s here z in
      let parts = refusal-zero s (record_kind here) (record_body here) (sym (ap (refusal s) w) ∙ z) in
      record {
        stands = w;
        allowed = parts.0;
        passes = parts.1;
        other = not-true _ both.1;
      }

  goes_on-refused : (refusal s here ≡ 0 → ⊥) → goes_on s here ≡ false
  goes_on-refused ne = ap (λ (t : Bool). t && not (is_end (part_of (record_kind here)))) (ne_eqb (refusal s here) 0 ne)

  -- ---- where reading stops

  stop_for-next : (turns : ℕ) → goes_on s here ≡ true → stop_for (suc turns) file at s ≡ stop_for turns file (behind at here) (stored_record s here)
  unfolding stop_for
  stop_for-next turns t = ap (λ (b : Bool). cond b (stop_for turns file (behind at here) (stored_record s here)) (stop_here at s)) t

  stop_for-here : (turns : ℕ) → goes_on s here ≡ false → stop_for (suc turns) file at s ≡ stop_here at s
  unfolding stop_for
  stop_for-here turns t = ap (λ (b : Bool). cond b (stop_for turns file (behind at here) (stored_record s here)) (stop_here at s)) t

module _ (file : List ℕ) where
  -- What holds at the start, and is kept by each record that reading goes on behind, holds where it stops.
  pub stop_for-ind : (P : Stop → Type 0) → ((at : ℕ) (s : State) (kind : ℕ) (body : List ℕ) → P (stop_here at s) → GoesOn file at s kind body → P (stop_here (at + 1 + length body) (stored s kind body))) → (turns at : ℕ) (s : State) → P (stop_here at s) → P (stop_for turns file at s)
  unfolding stop_for
  stop_for-ind P keep zero at s p = p
  stop_for-ind P keep (suc turns) at s p = split (goes_on s (record_at file at)) refl (λ q. stop_for-ind P keep turns (behind at (record_at file at)) (stored_record s (record_at file at)) q)
    where
      split : (b : Bool) → goes_on s (record_at file at) ≡ b → (P (stop_here (behind at (record_at file at)) (stored_record s (record_at file at))) → P (stop_for turns file (behind at (record_at file at)) (stored_record s (record_at file at)))) → P (cond b (stop_for turns file (behind at (record_at file at)) (stored_record s (record_at file at))) (stop_here at s))
      split true t go = go (keep at s (record_kind (record_at file at)) (record_body (record_at file at)) p (goes_on-true file at s t))
      split false t go = p

  -- Reading goes forward, and not behind the end of the file.
  pub stop_for-forward : (turns at : ℕ) (s : State) → at ≤ (stop_for turns file at s).at
  stop_for-forward turns at s = stop_for-ind (λ p. at ≤ p.at) (λ a t kind body h g. omega arith) turns at s (omega arith)

  pub stop_for-inside : (turns at : ℕ) (s : State) → at ≤ length file → (stop_for turns file at s).at ≤ length file
  stop_for-inside turns at s = stop_for-ind (λ p. p.at ≤ length file) (λ a t kind body h g. (whole_of file a kind body g.stands).within) turns at s

  -- More turns than the file has bytes left make no difference.
  pub stop_for-enough : (m n at : ℕ) (s : State) → length file - at < m → length file - at < n → stop_for m file at s ≡ stop_for n file at s
  unfolding stop_for
  stop_for-enough zero n at s h k = absurd (omega arith)
  stop_for-enough (suc m) zero at s h k = absurd (omega arith)
  stop_for-enough (suc m) (suc n) at s h k = split (goes_on s (record_at file at)) refl (λ a b. stop_for-enough m n (behind at (record_at file at)) (stored_record s (record_at file at)) a b)
    where
      split : (b : Bool) → goes_on s (record_at file at) ≡ b → (length file - behind at (record_at file at) < m → length file - behind at (record_at file at) < n → stop_for m file (behind at (record_at file at)) (stored_record s (record_at file at)) ≡ stop_for n file (behind at (record_at file at)) (stored_record s (record_at file at))) → cond b (stop_for m file (behind at (record_at file at)) (stored_record s (record_at file at))) (stop_here at s) ≡ cond b (stop_for n file (behind at (record_at file at)) (stored_record s (record_at file at))) (stop_here at s)
      split true t go =
          let w = (whole_of file at (record_kind (record_at file at)) (record_body (record_at file at)) (goes_on-true file at s t).stands).within in
          go (omega arith) (omega arith)
      split false t go = refl

  -- With that many, reading stops before a record that it does not go on behind.
  pub stop_for-stops : (turns at : ℕ) (s : State) → length file - at < turns → goes_on (stop_for turns file at s).state (record_at file (stop_for turns file at s).at) ≡ false
  unfolding stop_for
  stop_for-stops zero at s h = absurd (omega arith)
  stop_for-stops (suc turns) at s h = split (goes_on s (record_at file at)) refl (λ k. stop_for-stops turns (behind at (record_at file at)) (stored_record s (record_at file at)) k)
    where
      stopped : Stop → Type 0
      stopped p = goes_on p.state (record_at file p.at) ≡ false

      split : (b : Bool) → goes_on s (record_at file at) ≡ b → (length file - behind at (record_at file at) < turns → stopped (stop_for turns file (behind at (record_at file at)) (stored_record s (record_at file at)))) → stopped (cond b (stop_for turns file (behind at (record_at file at)) (stored_record s (record_at file at))) (stop_here at s))
      split true t go =
          let w = (whole_of file at (record_kind (record_at file at)) (record_body (record_at file at)) (goes_on-true file at s t).stands).within in
          go (omega arith)
      split false t go = t

-- ---- the reading, by the record at the offset

module _ (file : List ℕ) (at : ℕ) (s : State) where
  pub read_from-next : {kind : ℕ} {body : List ℕ} → GoesOn file at s kind body → read_from file at s ≡ read_from file (at + 1 + length body) (stored s kind body)
  unfolding read_from
  read_from-next {kind} {body} g =
      let w = (whole_of file at kind body g.stands).within in
      ap (reading_at file)
      (stop_for-next file at s (length file - at) (goes_on-of file at s kind body g)
      ∙ ap (λ (r : Record). stop_for (length file - at) file (behind at r) (stored_record s r)) g.stands
      ∙ stop_for-enough file (length file - at) (suc (length file - (at + 1 + length body))) (at + 1 + length body) (stored s kind body) (omega arith) (omega arith))

  read_from-here : goes_on s (record_at file at) ≡ false → read_from file at s ≡ reading_at file (stop_here at s)
  unfolding read_from
  read_from-here t = ap (reading_at file) (stop_for-here file at s (length file - at) t)

  -- a record that is refused
  module _ {number : ℕ} (e : refusal s (record_at file at) ≡ number) (ne : number ≡ 0 → ⊥) where
    some : refusal s (record_at file at) ≡ 0 → ⊥
    some z = ne (sym e ∙ z)

    told : {offset : ℕ} → cond (ltb at (length file)) at (length file) ≡ offset → read_from file at s ≡ refused number offset
    unfolding reading_at number_at offset_at
    told o =
        read_from-here (goes_on-refused file at s some)
        ∙ ap (λ (b : Bool). cond b (read_as s.model) (refused (number_at file (stop_here at s)) (offset_at file (stop_here at s)))) (ne_eqb (number_at file (stop_here at s)) 0 (λ z. some (first_of-zero (refusal s (record_at file at)) _ z).0))
        ∙ ap₂ refused (first_of-some (refusal s (record_at file at)) _ some ∙ e)
        (ap (λ (b : Bool). cond b (at + 1) (cond (ltb at (length file)) at (length file))) (ne_eqb (refusal s (record_at file at)) 0 some) ∙ o)

    pub read_from-refused : at < length file → read_from file at s ≡ refused number at
    read_from-refused h = told (ap (λ (b : Bool). cond b at (length file)) (lt-ltb at (length file) h))

    pub read_from-nothing : length file ≤ at → read_from file at s ≡ refused number (length file)
    read_from-nothing h = told (ap (λ (b : Bool). cond b at (length file)) (le-ltb at (length file) h))

  -- the end
  module _ {kind : ℕ} {body : List ℕ} (is : record_at file at ≡ whole kind body) (z : refusal s (whole kind body) ≡ 0) (end : is_end (part_of kind) ≡ true) where
    ends : {number : ℕ} → cond (ltb (at + 1) (length file)) 10 0 ≡ number → read_from file at s ≡ cond (eqb number 0) (read_as s.model) (refused number (at + 1))
    unfolding reading_at number_at offset_at
    ends {number} more =
        let none : refusal s (record_at file at) ≡ 0 = ap (refusal s) is ∙ z in
        read_from-here (ap (goes_on s) is ∙ ap (λ (b : Bool). eqb (refusal s (whole kind body)) 0 && not b) end ∙ and-false (eqb (refusal s (whole kind body)) 0))
        ∙ ap₂ (λ (n o : ℕ). cond (eqb n 0) (read_as s.model) (refused n o)) (first_of-none _ none ∙ more)
        (ap (λ (b : Bool). cond b (at + 1) (cond (ltb at (length file)) at (length file))) (eq-eqb (refusal s (record_at file at)) 0 none))

    pub read_from-more : at + 1 < length file → read_from file at s ≡ refused 10 (at + 1)
    read_from-more h = ends (ap (λ (b : Bool). cond b 10 0) (lt-ltb (at + 1) (length file) h))

    pub read_from-end : length file ≤ at + 1 → read_from file at s ≡ read_as s.model
    read_from-end h = ends (ap (λ (b : Bool). cond b 10 0) (le-ltb (at + 1) (length file) h))

-- Reading from an offset is reading on from each place that it comes to.
pub read_from-comes : (file : List ℕ) (turns at : ℕ) (s : State) → read_from file at s ≡ read_from file (stop_for turns file at s).at (stop_for turns file at s).state
read_from-comes file turns at s = stop_for-ind file (λ p. read_from file at s ≡ read_from file p.at p.state) (λ a t kind body e g. e ∙ read_from-next file a t g) turns at s refl

-- Two states in which the record at the offset has the same number and, where it is not refused, is not the end and leaves the same.
pub read_from-alike : (file : List ℕ) (at : ℕ) (s t : State) → refusal s (record_at file at) ≡ refusal t (record_at file at) → (refusal s (record_at file at) ≡ 0 → (is_end (part_of (record_kind (record_at file at))) ≡ false) × (stored_record s (record_at file at) ≡ stored_record t (record_at file at))) → read_from file at s ≡ read_from file at t
read_from-alike file at s t number next = split (eqb (refusal s here) 0) refl
  where
    here : Record
    here = record_at file at

    on : (u : State) → refusal u here ≡ 0 → is_end (part_of (record_kind here)) ≡ false → read_from file at u ≡ read_from file (behind at here) (stored_record u here)
    on u z other = read_from-next file at u (goes_on-true file at u (ap₂ ◌&&◌ (eq-eqb (refusal u here) 0 z) (ap not other)))

    split : (b : Bool) → eqb (refusal s here) 0 ≡ b → read_from file at s ≡ read_from file at t
    split true e =
        let z = eqb-true (refusal s here) 0 e in
        let same = next z in
        on s z same.0 ∙ ap (read_from file (behind at here)) same.1 ∙ sym (on t (sym number ∙ z) same.0)
    split false e =
        let ne = eqb-false (refusal s here) 0 e in
        elim (dec_lt at (length file)) [ yes h ↦ read_from-refused file at s refl ne h ∙ sym (read_from-refused file at t (sym number) ne h) | no k ↦ read_from-nothing file at s refl ne (omega (arith, k)) ∙ sym (read_from-nothing file at t (sym number) ne (omega (arith, k))) ]
