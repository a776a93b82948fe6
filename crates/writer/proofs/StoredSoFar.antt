-- A model that was read is a stored one: its lists have the lengths of its arrays and its levels fit 64 bits, at the start and behind
-- every record. Assumes nothing.
use mathlib.Core.Path.{◌≡◌, refl, sym, subst, ◌∙◌}
use mathlib.Core.Bool.{Bool, true, false, cond}
use mathlib.Core.List.{List}
use Prim.Native.Nat.{ℕ, suc, ◌-◌, ◌<◌}
use native.Mathlib.Decide.{dec_lt}
use native.Mathlib.Omega.{arith}
use lib.Dec.{ltb}
use lib.IntN.{ℤ, pos}
use lib.ListN.{length, set, length-set}
use lib.Seq.{set_out, get_or-set_same, get_or-set_other}
use mir.Syntax.{w64}
use mir.Val.{SFits}
use Rattle.integers.specs.Sums.{vector}
use Rattle.integers.proofs.Machine.{AllBytes, length-tabulate, get_or-replicate-default}
use Rattle.std.specs.Prelude.{Ok}
use Rattle.reachability.specs.declared.model.Model.{Model}
use Rattle.reachability.specs.declared.sets.Set.{Set}
use Rattle.reachability.specs.Lengths.{Lengths, SetLengths}
use Rattle.reachability.specs.Sets.{zero_box}
use Rattle.numbers.specs.Numbers.{signed_at}
use Rattle.numbers.proofs.TwosComplement.{signed_at-fits}
use Rattle.records.specs.declared.kinds.Layout.{Layout}
use Rattle.records.specs.declared.kinds.Part.{Part}
use Rattle.records.specs.declared.kinds.Part.TheVariants.{Head, Row, Drift, Initial, Input, Direction, Guard, End}
use Rattle.records.specs.Kinds.{layout_of, part_of}
use Rattle.records.proofs.RecordAt.{whole-bytes}
use Rattle.columns.specs.Columns.{six_at, entry_at}
use Rattle.filling.specs.Models.{zeros, blank_set, blank_model}
use Rattle.filling.proofs.PutRow.{length-put_row}
use Rattle.reader.specs.declared.state.State.{State}
use Rattle.reader.specs.Models.{start, with_head, with_row, with_drift, with_point, with_set_point, with_direction, with_guard}
use Rattle.reader.specs.Refusals.{stored_in, stored}
use Rattle.reader.specs.Reading.{read_model}
use Rattle.reader.proofs.ReadingOn.{GoesOn, stop_for-ind}
use Rattle.reader.proofs.ReadModels.{read_from-model}
use Rattle.writer.specs.OneForm.{Stored}

-- ---- levels

zero-fits : SFits w64 (pos 0)
zero-fits = record { sfits = omega arith }

level-set : (levels : List ℤ) (g : ℕ) (x : ℤ) → SFits w64 x → ((j : ℕ) → SFits w64 (vector levels j)) → (j : ℕ) → SFits w64 (vector (set levels g x) j)
level-set levels g x f old j =
    elim (dec_lt g (length levels)) [
      | yes h ↦ elim (dec_lt j g) [ yes l ↦ kept (λ e. omega arith) | no k ↦ elim (dec_lt g j) [ yes l ↦ kept (λ e. omega arith) | no q ↦ new h (omega (arith, k, q)) ] ]
      | no h ↦ subst (λ (l : List ℤ). SFits w64 (vector l j)) (sym (set_out levels g x (omega (arith, h)))) (old j)
    ]
  where
    kept : (j ≡ g → ⊥) → SFits w64 (vector (set levels g x) j)
    kept ne = subst (SFits w64) (sym (get_or-set_other levels g j x (pos 0) ne)) (old j)

    new : g < length levels → g ≡ j → SFits w64 (vector (set levels g x) j)
    new h e = subst (λ (k : ℕ). SFits w64 (vector (set levels g x) k)) e (subst (SFits w64) (sym (get_or-set_same levels g x (pos 0) h)) f)

-- ---- each record

module _ (s : State) (l : Layout) (body : List ℕ) (bytes : AllBytes body) (st : Stored s.model) where
  abbrev long : Lengths s.model
  long = st.lengths

  point-long : (set : Set) → SetLengths set → SetLengths (with_point set l body)
  unfolding with_point
  point-long set h = record { points = length-put_row set.count (six_at body l.first) set.points ∙ h.points }

  input-long : (b : Bool) → SetLengths (cond b zero_box s.model.input)
  unfolding zero_box
  input-long true = record { points = refl }
  input-long false = long.input

  stored-part : (p : Part) → Stored (stored_in p s l body).model
  unfolding with_head with_row with_drift with_set_point with_direction with_guard six_at
  stored-part Head = record { lengths = record { motion = long.motion; drift = long.drift; initial = long.initial; input = long.input; questions = long.questions }; levels = st.levels }
  stored-part Row = record { lengths = record { motion = record { matrix = length-put_row s.rows _ _ ∙ long.motion.matrix }; drift = long.drift; initial = long.initial; input = long.input; questions = long.questions }; levels = st.levels }
  stored-part Drift = record { lengths = record { motion = long.motion; drift = length-tabulate 6 (entry_at body l.first); initial = long.initial; input = long.input; questions = long.questions }; levels = st.levels }
  stored-part Initial = record { lengths = record { motion = long.motion; drift = long.drift; initial = point-long s.model.initial long.initial; input = long.input; questions = long.questions }; levels = st.levels }
  stored-part Input = record { lengths = record { motion = long.motion; drift = long.drift; initial = long.initial; input = point-long s.model.input long.input; questions = long.questions }; levels = st.levels }
  stored-part Direction =
      record {
        lengths =
            record {
              motion = long.motion;
              drift = long.drift;
              initial = long.initial;
              input = input-long (ltb s.place 9);
              questions = record { entries = length-put_row s.model.questions.directions _ _ ∙ long.questions.entries; watched = long.questions.watched; levels = long.questions.levels };
            };
        levels = st.levels;
      }
  stored-part Guard =
      record {
        lengths =
            record {
              motion = long.motion;
              drift = long.drift;
              initial = long.initial;
              input = long.input;
              questions = record { entries = long.questions.entries; watched = length-set s.model.questions.watched _ _ ∙ long.questions.watched; levels = length-set s.model.questions.levels _ _ ∙ long.questions.levels };
            };
        levels = level-set s.model.questions.levels s.model.questions.guards (signed_at 8 body 1) (signed_at-fits w64 body 1 bytes) st.levels;
      }
  stored-part End = st

stored-start : Stored start.model
unfolding start blank_model blank_set zeros
stored-start =
    record {
      lengths =
          record {
            motion = record { matrix = refl };
            drift = refl;
            initial = record { points = refl };
            input = record { points = refl };
            questions = record { entries = refl; watched = refl; levels = refl };
          };
      levels = λ g. subst (SFits w64) (sym (get_or-replicate-default 16 g (pos 0))) zero-fits;
    }

-- ---- the file

module _ (file : List ℕ) (bytes : AllBytes file) where
  next : (at : ℕ) (s : State) (kind : ℕ) (body : List ℕ) → Stored s.model → GoesOn file at s kind body → Stored (stored s kind body).model
  unfolding stored
  next at s kind body st g = stored-part s (layout_of kind) body (whole-bytes file at kind body g.stands bytes) st (part_of kind)

  -- Of every file that is read.
  pub read_model-stored : {m : Model} → read_model file ≡ Ok m → Stored m
  unfolding read_model
  read_model-stored e =
      subst Stored (sym (read_from-model file 0 start e))
      (stop_for-ind file (λ p. Stored p.state.model) next (suc (length file - 0)) 0 start stored-start)
