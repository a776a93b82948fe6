-- body_bytes that lead the reading from one state to another, wherever they stand: none; one part behind the other; one record; as many
-- records as a list has; up to the end of a file. Assumes nothing.
use mathlib.Core.Path.{◌≡◌, sym, ap, subst, ◌∙◌}
use mathlib.Core.Bool.{true, false}
use mathlib.Core.List.{List, [], ◌∷◌, ◌++◌, append_assoc, append-nil}
use Prim.Native.Nat.{ℕ, zero, suc, ◌<◌}
use native.Mathlib.Omega.{arith}
use lib.ListN.{length}
use Rattle.records.specs.Kinds.{body_bytes, body_length, layout_of, part_of}
use Rattle.text.specs.Text.{each}
use Rattle.columns.specs.Columns.{unused_zero}
use Rattle.reader.specs.declared.state.State.{State}
use Rattle.reader.specs.Models.{start}
use Rattle.reader.specs.Values.{value_number}
use Rattle.reader.specs.Refusals.{kind_number, stored}
use Rattle.reader.specs.Reading.{is_end, read_as, read_from, read_model}
use Rattle.reader.proofs.BodyNumbers.{body_number-value}
use Rattle.reader.proofs.RecordInPlace.{read_from-behind, read_from-stands-end}

-- Whatever stands before and behind: reading on from the bytes with s is reading on behind them with t.
pub record Leads (bytes : List ℕ) (s t : State) : Type 0 where
  pub on : (before after : List ℕ) → read_from (before ++ (bytes ++ after)) (length before) s ≡ read_from ((before ++ bytes) ++ after) (length (before ++ bytes)) t

pub leads-none : (s : State) → Leads [] s s
leads-none s = record { on = λ before after. ap (λ (l : List ℕ). read_from (l ++ after) (length l) s) (sym (append-nil before)) }

pub leads-then : {a b : List ℕ} {s t u : State} → Leads a s t → Leads b t u → Leads (a ++ b) s u
leads-then {a} {b} {s} {t} {u} p q =
    record {
      on = λ before after.
          ap (λ (l : List ℕ). read_from (before ++ l) (length before) s) (append_assoc a b after)
          ∙ p.on before (b ++ after)
          ∙ q.on (before ++ a) after
          ∙ ap (λ (l : List ℕ). read_from (l ++ after) (length l) u) (append_assoc before a b);
    }

-- the states may be told otherwise
pub leads-from : {a : List ℕ} {r s t : State} → r ≡ s → Leads a s t → Leads a r t
leads-from {a} {t = t} e p = subst (λ (x : State). Leads a x t) (sym e) p

pub leads-to : {a : List ℕ} {s t u : State} → Leads a s t → t ≡ u → Leads a s u
leads-to {a} {s} p e = subst (Leads a s) e p

-- A record that is not refused, and the state behind it.
pub record Taken (s : State) (kind : ℕ) (body : List ℕ) (t : State) : Type 0 where
  pub known : body_length kind ≡ body_bytes (length body)
  pub allowed : kind_number s kind ≡ 0
  pub unused : unused_zero s.model.n (layout_of kind) body ≡ true
  pub passes : value_number (part_of kind) s (layout_of kind) body ≡ 0
  pub other : is_end (part_of kind) ≡ false
  pub then : stored s kind body ≡ t

pub leads-record : {s t : State} (kind : ℕ) (body : List ℕ) → Taken s kind body t → Leads (kind ∷ body) s t
leads-record {s} {t} kind body r =
    leads-to
    (record { on = λ before after. read_from-behind before kind body after s r.known r.allowed (body_number-value s kind body r.unused ∙ r.passes) r.other })
    r.then

pub leads-each : (n : ℕ) (f : ℕ → List ℕ) (s : ℕ → State) → ((k : ℕ) → k < n → Leads (f k) (s k) (s (suc k))) → Leads (each n f) (s 0) (s n)
leads-each zero f s step = leads-none (s 0)
leads-each (suc n) f s step = leads-then (leads-each n f s (λ k h. step k (omega arith))) (step n (omega arith))

-- up to the end of the file
pub leads-end : {bytes : List ℕ} {t : State} → Leads bytes start t → kind_number t 0xFF ≡ 0 → read_model (bytes ++ (0xFF ∷ [])) ≡ read_as t.model
unfolding read_model
leads-end {bytes} {t} p may = p.on [] (0xFF ∷ []) ∙ read_from-stands-end bytes t may
