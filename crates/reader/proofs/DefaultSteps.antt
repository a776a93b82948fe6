-- File 4: the default in the head in place of 0 changes nothing in the reading of a file. Assumes nothing.
use mathlib.Core.Path.{◌≡◌, refl, sym, ap, ◌∙◌}
use mathlib.Core.Bool.{Bool, true, false, ◌&&◌}
use mathlib.Core.List.{List, ◌∷◌, []}
use Prim.Native.Nat.{ℕ}
use native.Mathlib.Omega.{arith}
use Rattle.records.specs.Kinds.{body_length, layout_of}
use Rattle.numbers.specs.Numbers.{little_endian}
use Rattle.records.specs.Order.{may_follow}
use Rattle.records.proofs.RecordAt.{record_at-stands}
use Rattle.stepping.specs.Refusals.{dimension_ok}
use Rattle.columns.proofs.ColumnLaws.{unused_zero-none}
use Rattle.reader.specs.Models.{start, usual_steps, with_head}
use Rattle.reader.specs.Values.{head_ok, unless, body_number}
use Rattle.reader.specs.Refusals.{kind_number, refusal, stored}
use Rattle.reader.specs.Reading.{refused, read_from, read_model}
use Rattle.reader.proofs.BodyNumbers.{body_number-value}
use Rattle.reader.proofs.ReadingOn.{refusal-whole, read_from-refused}
use Rattle.reader.proofs.RecordInPlace.{read_from-stands}
use Rattle.reader.proofs.ReadingRest.{read_from-rest}

module _ (n : ℕ) (rest : List ℕ) where
  -- A head of n coordinates and so many steps, below 256; then any bytes.
  abbrev body : ℕ → List ℕ
  body steps = n ∷ steps ∷ 0 ∷ []

  abbrev headed : ℕ → List ℕ
  headed steps = 0x01 ∷ n ∷ steps ∷ 0 ∷ rest

  fits : kind_number start 0x01 ≡ 0
  unfolding kind_number may_follow layout_of start
  fits = refl

  -- a head has no entries
  values : (steps : ℕ) → body_number start 0x01 (body steps) ≡ unless (head_ok (body steps)) 4
  unfolding layout_of
  values steps = body_number-value start 0x01 (body steps) (unused_zero-none start.model.n (layout_of 0x01) (body steps) refl)

  taken : (steps : ℕ) → head_ok (body steps) ≡ true → read_model (headed steps) ≡ read_from (headed steps) 4 (with_head start (layout_of 0x01) (body steps))
  unfolding read_model body_length layout_of stored
  taken steps ok = read_from-stands [] 0x01 (body steps) rest start refl fits (values steps ∙ ap (λ (b : Bool). unless b 4) ok) refl

  told : (steps : ℕ) → head_ok (body steps) ≡ false → read_model (headed steps) ≡ refused 4 0
  unfolding read_model body_length layout_of
  told steps ok =
      read_from-refused (headed steps) 0 start
      (ap (refusal start) (record_at-stands [] 0x01 (body steps) rest refl) ∙ refusal-whole start 0x01 (body steps) fits ∙ values steps ∙ ap (λ (b : Bool). unless b 4) ok)
      (λ e. omega arith) (omega arith)

  -- The same model, or the same number and offset, whatever n is and whatever stands behind the head.
  pub read_model-default : read_model (0x01 ∷ n ∷ 0 ∷ 0 ∷ rest) ≡ read_model (0x01 ∷ n ∷ usual_steps ∷ 0 ∷ rest)
  unfolding little_endian with_head
  read_model-default = split (dimension_ok n) refl
    where
      split : (b : Bool) → dimension_ok n ≡ b → read_model (headed 0) ≡ read_model (headed usual_steps)
      split true e =
          let ok = ap (λ (b : Bool). b && true) e in
          taken 0 ok ∙ read_from-rest (0x01 ∷ body 0) (0x01 ∷ body usual_steps) rest (with_head start (layout_of 0x01) (body 0)) refl ∙ sym (taken usual_steps ok)
      split false e =
          let ok = ap (λ (b : Bool). b && true) e in
          told 0 ok ∙ sym (told usual_steps ok)
