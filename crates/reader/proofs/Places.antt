-- A place that reading comes to after so many records of a file. In order: bytes put in there; what the record there brings, and every
-- later one keeps, of the model that is read. Assumes nothing.
use mathlib.Core.Path.{◌≡◌, refl, sym, ap, ap₂, ◌∙◌}
use mathlib.Core.Bool.{Bool, true, false, not, ◌&&◌}
use mathlib.Core.List.{List, ◌++◌}
use Prim.Native.Nat.{ℕ, suc, ◌-◌, ◌≤◌}
use native.Mathlib.Decide.{dec_lt}
use native.Mathlib.Omega.{arith}
use borrow.Author.Tests.{eqb-true, eqb-false}
use lib.Dec.{eqb}
use lib.ListN.{length, take, drop, take-append-drop}
use lib.Seq.{length-take-le}
use Rattle.records.specs.Kinds.{part_of}
use Rattle.records.specs.Records.{Record, record_at, record_kind}
use Rattle.std.specs.Prelude.{Ok}
use Rattle.reachability.specs.declared.model.Model.{Model}
use Rattle.reader.specs.declared.state.State.{State}
use Rattle.reader.specs.Models.{start}
use Rattle.reader.specs.Refusals.{kind_number, refusal, stored}
use Rattle.reader.specs.Reading.{is_end, behind, stored_record, stop_for, stop_from, refused, read_from, read_model}
use Rattle.reader.specs.LeftOut.{put_in, moved}
use Rattle.reader.proofs.ReadingOn.{goes_on-true, stop_for-ind, stop_for-inside, read_from-next, read_from-refused, read_from-nothing, read_from-comes}
use Rattle.reader.proofs.ReadingRest.{read_from-more-before, read_from-same-start}
use Rattle.reader.proofs.ReadModels.{read_from-model}

-- ---- bytes put in at a place that reading comes to

-- Where they bring reading to a state from which the rest of the file is read as it was from the place, the file with them is read as the
-- file: the same model, or the same number with the offset higher by so many.
pub read_model-put-in : (file : List ℕ) (turns : ℕ) (more : List ℕ) (t : State) → ((before rest : List ℕ) → read_from (before ++ (more ++ rest)) (length before) (stop_for turns file 0 start).state ≡ read_from ((before ++ more) ++ rest) (length (before ++ more)) t) → read_from file (stop_for turns file 0 start).at t ≡ read_from file (stop_for turns file 0 start).at (stop_for turns file 0 start).state → read_model (put_in more (stop_for turns file 0 start).at file) ≡ moved (length more) (read_model file)
unfolding read_model
read_model-put-in file turns more t brings on =
    read_from-same-start file (more ++ rest) at inside turns 0 start (omega arith)
    ∙ ap (λ (k : ℕ). read_from (before ++ (more ++ rest)) k s) (sym size)
    ∙ brings before rest
    ∙ read_from-more-before before more rest t
    ∙ ap (moved (length more)) (ap₂ (λ (f : List ℕ) (k : ℕ). read_from f k t) (take-append-drop at file) size ∙ on ∙ sym (read_from-comes file turns 0 start))
  where
    at : ℕ
    at = (stop_for turns file 0 start).at

    s : State
    s = (stop_for turns file 0 start).state

    before : List ℕ
    before = take at file

    rest : List ℕ
    rest = drop at file

    inside : at ≤ length file
    inside = stop_for-inside file turns 0 start (omega arith)

    size : length before ≡ at
    size = length-take-le at file inside

-- ---- what holds behind a record holds of the model

-- Of a file that is read: what the record at a place brings, which is then not the end, and every later one keeps, holds of the state
-- whose model is read.
pub read_model-behind : (P : State → Type 0) → ((s : State) (kind : ℕ) (body : List ℕ) → kind_number s kind ≡ 0 → P s → P (stored s kind body)) → (file : List ℕ) (turns : ℕ) → (refusal (stop_for turns file 0 start).state (record_at file (stop_for turns file 0 start).at) ≡ 0 → (is_end (part_of (record_kind (record_at file (stop_for turns file 0 start).at))) ≡ false) × P (stored_record (stop_for turns file 0 start).state (record_at file (stop_for turns file 0 start).at))) → {m : Model} → read_model file ≡ Ok m → (last : State) × P last × (m ≡ last.model)
unfolding read_model
read_model-behind P keeps file turns brings {m} e = by (eqb (refusal s here) 0) refl
  where
    at : ℕ
    at = (stop_for turns file 0 start).at

    s : State
    s = (stop_for turns file 0 start).state

    here : Record
    here = record_at file at

    comes : read_from file 0 start ≡ read_from file at s
    comes = read_from-comes file turns 0 start

    never : (number offset : ℕ) → read_from file at s ≡ refused number offset → ⊥
    never number offset is = let z = sym (comes ∙ is) ∙ e in let u : ◌≡◌ {A = ℕ} 0 1 = cc in omega arith

    by : (b : Bool) → eqb (refusal s here) 0 ≡ b → (last : State) × P last × (m ≡ last.model)
    by true t =
        let z = eqb-true (refusal s here) 0 t in
        let is = comes ∙ read_from-next file at s (goes_on-true file at s (ap₂ ◌&&◌ t (ap not (brings z).0))) in (
          (stop_from file (behind at here) (stored_record s here)).state,
          stop_for-ind file (λ p. P p.state) (λ a u kind body k g. keeps u kind body g.allowed k) (suc (length file - behind at here)) (behind at here) (stored_record s here) (brings z).1,
          read_from-model file (behind at here) (stored_record s here) (sym is ∙ e),
        )
    by false t =
        let ne = eqb-false (refusal s here) 0 t in
        absurd (elim (dec_lt at (length file)) [ yes h ↦ never _ _ (read_from-refused file at s refl ne h) | no k ↦ never _ _ (read_from-nothing file at s refl ne (omega (arith, k))) ])
