-- What is read from an offset on is settled by the state there, the bytes from there on, and how many stand before them; how reading
-- comes to a place, by the bytes before it. In order: one byte more before an offset; bytes before it; two files with the same bytes
-- up to a place. Assumes nothing.
use mathlib.Core.Path.{◌≡◌, refl, sym, ap, ap₂, ◌∙◌}
use mathlib.Core.Bool.{Bool, true, false, cond}
use mathlib.Core.List.{List, ◌∷◌, ◌++◌, []}
use Prim.Native.Nat.{ℕ, zero, suc, ◌+◌, ◌-◌, ◌≤◌}
use native.Mathlib.Decide.{dec_lt}
use native.Mathlib.Omega.{arith}
use borrow.Author.Tests.{lt-ltb, le-ltb}
use lib.Dec.{eqb, ltb}
use lib.ListN.{length, take, length-append}
use lib.Seq.{length-take-le}
use Rattle.arrays.specs.Tests.{first_of}
use Rattle.records.specs.Records.{Record, record_at, record_kind, record_body}
use Rattle.records.proofs.RecordAt.{whole_of, record_at-cons, Reaches, reaches_whole, record_at-within}
use Rattle.std.specs.Prelude.{Result, Ok, Err}
use Rattle.reachability.specs.declared.model.Model.{Model}
use Rattle.reader.specs.declared.refusals.Refused.{Refused}
use Rattle.reader.specs.declared.state.State.{State}
use Rattle.reader.specs.Refusals.{refusal}
use Rattle.reader.specs.Reading.{Stop, stop_here, goes_on, behind, stored_record, stop_for, number_at, offset_at, refused, read_as, reading_at, read_from}
use Rattle.reader.specs.LeftOut.{moved}
use Rattle.reader.proofs.ReadingOn.{goes_on-true, stop_for-forward, read_from-next, read_from-refused, read_from-comes}

-- ---- one byte more before an offset

abbrev moved_stop : Stop → Stop
moved_stop p = stop_here (suc p.at) p.state

ltb-suc : (a b : ℕ) → ltb (suc a) (suc b) ≡ ltb a b
ltb-suc a b = elim (dec_lt a b) [ yes h ↦ lt-ltb (suc a) (suc b) (omega arith) ∙ sym (lt-ltb a b h) | no k ↦ le-ltb (suc a) (suc b) (omega (arith, k)) ∙ sym (le-ltb a b (omega (arith, k))) ]

module _ (byte : ℕ) (file : List ℕ) where
  stop_for-cons : (turns at : ℕ) (s : State) → stop_for turns (byte ∷ file) (suc at) s ≡ moved_stop (stop_for turns file at s)
  unfolding stop_for
  stop_for-cons zero at s = refl
  stop_for-cons (suc turns) at s =
      ap (λ (r : Record). cond (goes_on s r) (stop_for turns (byte ∷ file) (behind (suc at) r) (stored_record s r)) (stop_here (suc at) s)) (record_at-cons byte file at)
      ∙ split (goes_on s (record_at file at)) (stop_for-cons turns (behind at (record_at file at)) (stored_record s (record_at file at)))
    where
      next : behind (suc at) (record_at file at) ≡ suc (behind at (record_at file at))
      next = omega arith

      split : (b : Bool) → stop_for turns (byte ∷ file) (suc (behind at (record_at file at))) (stored_record s (record_at file at)) ≡ moved_stop (stop_for turns file (behind at (record_at file at)) (stored_record s (record_at file at))) → cond b (stop_for turns (byte ∷ file) (behind (suc at) (record_at file at)) (stored_record s (record_at file at))) (stop_here (suc at) s) ≡ moved_stop (cond b (stop_for turns file (behind at (record_at file at)) (stored_record s (record_at file at))) (stop_here at s))
      split true go = ap (λ (k : ℕ). stop_for turns (byte ∷ file) k (stored_record s (record_at file at))) next ∙ go
      split false go = refl

  module _ (p : Stop) where
    abbrev here : Record
    here = record_at file p.at

    number-cons : number_at (byte ∷ file) (moved_stop p) ≡ number_at file p
    unfolding number_at
    number-cons =
        let next : suc p.at + 1 ≡ suc (p.at + 1) = omega arith in
        ap₂ (λ (r : Record) (b : Bool). first_of (refusal p.state r) (cond b 10 0)) (record_at-cons byte file p.at)
        (ap (λ (k : ℕ). ltb k (suc (length file))) next ∙ ltb-suc (p.at + 1) (length file))

    offset-cons : offset_at (byte ∷ file) (moved_stop p) ≡ suc (offset_at file p)
    unfolding offset_at
    offset-cons =
        ap₂ (λ (r : Record) (b : Bool). cond (eqb (refusal p.state r) 0) (suc p.at + 1) (cond b (suc p.at) (suc (length file)))) (record_at-cons byte file p.at) (ltb-suc p.at (length file))
        ∙ split (eqb (refusal p.state here) 0) (ltb p.at (length file))
      where
        split : (a b : Bool) → cond a (suc p.at + 1) (cond b (suc p.at) (suc (length file))) ≡ suc (cond a (p.at + 1) (cond b p.at (length file)))
        split true b = omega arith
        split false true = refl
        split false false = refl

    reading-cons : reading_at (byte ∷ file) (moved_stop p) ≡ moved 1 (reading_at file p)
    unfolding reading_at
    reading-cons =
        ap₂ (λ (n o : ℕ). cond (eqb n 0) (read_as p.state.model) (refused n o)) number-cons offset-cons
        ∙ split (eqb (number_at file p) 0)
      where
        split : (b : Bool) → cond b (read_as p.state.model) (refused (number_at file p) (suc (offset_at file p))) ≡ moved 1 (cond b (read_as p.state.model) (refused (number_at file p) (offset_at file p)))
        split true = refl
        split false = ap (refused (number_at file p)) (omega arith)

  read_from-cons : (at : ℕ) (s : State) → read_from (byte ∷ file) (suc at) s ≡ moved 1 (read_from file at s)
  unfolding read_from
  read_from-cons at s =
      let turns : suc (length file) - suc at ≡ length file - at = omega arith in
      ap (reading_at (byte ∷ file)) (ap (λ (k : ℕ). stop_for (suc k) (byte ∷ file) (suc at) s) turns ∙ stop_for-cons (suc (length file - at)) at s)
      ∙ reading-cons (stop_for (suc (length file - at)) file at s)

-- ---- bytes before an offset

at_offset : Refused → ℕ → Result Model Refused
at_offset e offset = Err (record { refusal = e.refusal; offset = offset })

moved-moved : (j k : ℕ) {m : ℕ} (r : Result Model Refused) → m ≡ j + k → moved j (moved k r) ≡ moved m r
unfolding at_offset
moved-moved j k (Ok m) e = refl
moved-moved j k (Err x) e = ap (at_offset x) (omega arith)

moved_none : (r : Result Model Refused) → moved 0 r ≡ r
unfolding at_offset
moved_none (Ok m) = refl
moved_none (Err x) = ap (at_offset x) (omega arith)

read_from-moved : (before rest : List ℕ) (s : State) → read_from (before ++ rest) (length before) s ≡ moved (length before) (read_from rest 0 s)
read_from-moved [] rest s = sym (moved_none (read_from rest 0 s))
read_from-moved (byte ∷ before) rest s =
    read_from-cons byte (before ++ rest) (length before) s ∙ ap (moved 1) (read_from-moved before rest s) ∙ moved-moved 1 (length before) (read_from rest 0 s) (omega arith)

-- equally many
pub read_from-rest : (before other rest : List ℕ) (s : State) → length before ≡ length other → read_from (before ++ rest) (length before) s ≡ read_from (other ++ rest) (length other) s
read_from-rest before other rest s e =
    read_from-moved before rest s ∙ ap (λ (k : ℕ). moved k (read_from rest 0 s)) e ∙ sym (read_from-moved other rest s)

-- more of them
pub read_from-more-before : (before more rest : List ℕ) (s : State) → read_from ((before ++ more) ++ rest) (length (before ++ more)) s ≡ moved (length more) (read_from (before ++ rest) (length before) s)
read_from-more-before before more rest s =
    read_from-moved (before ++ more) rest s
    ∙ sym (moved-moved (length more) (length before) (read_from rest 0 s) (simp length-append (omega arith)))
    ∙ sym (ap (moved (length more)) (read_from-moved before rest s))

-- ---- two files with the same bytes up to a place

-- Reading of the first comes to the place, and so does that of the second.
module _ (file rest : List ℕ) (m : ℕ) (inside : m ≤ length file) where
  abbrev other : List ℕ
  other = take m file ++ rest

  pub read_from-same-start : (turns at : ℕ) (s : State) → (stop_for turns file at s).at ≤ m → read_from other at s ≡ read_from other (stop_for turns file at s).at (stop_for turns file at s).state
  unfolding stop_for
  read_from-same-start zero at s h = refl
  read_from-same-start (suc turns) at s h = split (goes_on s (record_at file at)) refl (λ k. read_from-same-start turns (behind at (record_at file at)) (stored_record s (record_at file at)) k) h
    where
      next : Stop
      next = stop_for turns file (behind at (record_at file at)) (stored_record s (record_at file at))

      split : (b : Bool) → goes_on s (record_at file at) ≡ b → (next.at ≤ m → read_from other (behind at (record_at file at)) (stored_record s (record_at file at)) ≡ read_from other next.at next.state) → (cond b next (stop_here at s)).at ≤ m → read_from other at s ≡ read_from other (cond b next (stop_here at s)).at (cond b next (stop_here at s)).state
      split true t go k =
          let g = goes_on-true file at s t in
          let end = stop_for-forward file turns (behind at (record_at file at)) (stored_record s (record_at file at)) in
          let w = whole_of file at (record_kind (record_at file at)) (record_body (record_at file at)) g.stands in
          let reach = reaches_whole m file at (record_kind (record_at file at)) (record_body (record_at file at)) w (omega (arith, end)) in
          read_from-next other at s (record { stands = record_at-within m file rest at inside reach ∙ g.stands; allowed = g.allowed; passes = g.passes; other = g.other })
          ∙ go k
      split false t go k = refl

  -- A file that is refused at a record which lies in the same bytes is refused alike, whatever stands behind them.
  pub read_from-refused-before : (turns at : ℕ) (s : State) → Reaches m file (stop_for turns file at s).at → (refusal (stop_for turns file at s).state (record_at file (stop_for turns file at s).at) ≡ 0 → ⊥) → read_from other at s ≡ read_from file at s
  read_from-refused-before turns at s reach ne =
      read_from-same-start turns at s (omega (arith, reach.kind-reached))
      ∙ read_from-refused other stop t (ap (refusal t) (record_at-within m file rest stop inside reach)) ne (omega (arith, reach.kind-reached, length-take-le m file inside, length-append (take m file) rest))
      ∙ sym (read_from-comes file turns at s ∙ read_from-refused file stop t refl ne (omega (arith, reach.kind-reached)))
    where
      stop : ℕ
      stop = (stop_for turns file at s).at

      t : State
      t = (stop_for turns file at s).state
