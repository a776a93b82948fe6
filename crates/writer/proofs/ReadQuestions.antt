-- The directions and the guards that were written, read one by one. Assumes nothing.
use mathlib.Core.Path.{◌≡◌, refl, sym, ap, ap₂, subst, ◌∙◌}
use mathlib.Core.Bool.{Bool, true, false, cond, not, ◌&&◌}
use mathlib.Core.List.{List, [], ◌∷◌, append-nil}
use Prim.Native.Nat.{ℕ, zero, suc, ◌+◌, ◌*◌, ◌≤◌, ◌<◌}
use native.Mathlib.Decide.{dec_lt}
use native.Mathlib.Numerals.{add-one}
use native.Mathlib.Omega.{arith}
use borrow.Author.Tests.{lt-leb, lt-ltb, ne_eqb}
use lib.Dec.{leb, eqb}
use lib.IntN.{ℤ, pos, nat_abs}
use lib.ListN.{get_or, set, get_or-eq_default}
use mir.Syntax.{w64}
use mir.Val.{SFits}
use Rattle.integers.specs.Sums.{vector, matrix, tabulate}
use Rattle.integers.proofs.Machine.{get_or-tabulate, length-tabulate}
use Rattle.integers.proofs.Sums.{all_below-cong}
use Rattle.arrays.proofs.Tests.{Small, all_between-of}
use Rattle.limits.specs.Limits.{direction_limit, all_zero}
use Rattle.reachability.specs.declared.model.Model.{Model}
use Rattle.numbers.specs.Numbers.{signed_at, signed_bytes}
use Rattle.numbers.proofs.Written.{length-signed_bytes, signed_at-signed_bytes}
use Rattle.records.specs.Kinds.{body_bytes, body_length, layout_of}
use Rattle.records.specs.Places.{direction_place, guard_place}
use Rattle.records.specs.Order.{may_follow}
use Rattle.columns.specs.Columns.{six_at}
use Rattle.columns.proofs.ColumnLaws.{unused_zero-none}
use Rattle.filling.specs.Models.{set_set, put_row, input_at}
use Rattle.filling.proofs.FromTheFront.{kept, kept_more, kept_rows, put_row-kept}
use Rattle.reader.specs.declared.state.State.{State}
use Rattle.reader.specs.Models.{set_directions, set_guards, state_of, with_direction, with_guard}
use Rattle.reader.specs.Values.{within, unless, direction_ok}
use Rattle.reader.specs.Refusals.{kind_number, stored}
use Rattle.writer.specs.Writing.{six_bytes, direction_records, guard_records}
use Rattle.writer.proofs.Bits.{length-six_bytes}
use Rattle.writer.proofs.Leading.{Leads, leads-record, leads-each, leads-to, Taken}
use Rattle.writer.proofs.Bodies.{Fits32, six-written, unused-written}

-- ---- the directions

-- a row of six by itself
row_small : (limit : ℕ) (xs : List ℤ) (d : ℕ) → ((i : ℕ) → i < 6 → nat_abs (matrix xs d i) ≤ limit) → Small limit (tabulate 6 (matrix xs d))
row_small limit xs d h = record { at = λ p i l. small (6 * p + i) }
  where
    small : (k : ℕ) → nat_abs (vector (tabulate 6 (matrix xs d)) k) ≤ limit
    small k = elim (dec_lt k 6) [ yes l ↦ subst (λ (z : ℤ). nat_abs z ≤ limit) (sym (get_or-tabulate 6 (matrix xs d) k (pos 0) l)) (h k l) | no g ↦ subst (λ (z : ℤ). nat_abs z ≤ limit) (sym (get_or-eq_default (tabulate 6 (matrix xs d)) (pos 0) {n = k} (omega (arith, g, length-tabulate 6 (matrix xs d))))) (omega arith) ]

row-nonzero : (xs : List ℤ) (d : ℕ) → all_zero (tabulate 6 (matrix xs d)) 0 ≡ all_zero xs d
row-nonzero xs d =
    all_below-cong 6 (λ i. eqb (nat_abs (matrix (tabulate 6 (matrix xs d)) 0 i)) 0) (λ i. eqb (nat_abs (matrix xs d i)) 0)
    (λ i h. ap (λ (z : ℤ). eqb (nat_abs z) 0) (ap (vector (tabulate 6 (matrix xs d))) (first i) ∙ get_or-tabulate 6 (matrix xs d) i (pos 0) h))
  where
    first : (i : ℕ) → 6 * 0 + i ≡ i
    first i = omega arith

-- Every direction of a model that is accepted. The first one settles the input set.
module _ (m : Model) (place rows count : ℕ) (xs : List ℤ) (fits : Fits32 xs) (few : count ≤ 16) (small : (d i : ℕ) → i < 6 → nat_abs (matrix xs d i) ≤ direction_limit) (beyond : (d i : ℕ) → i < 6 → m.n ≤ i → matrix xs d i ≡ pos 0) (nonzero : (d : ℕ) → d < count → all_zero xs d ≡ false) (may : may_follow place 0x30 ≡ true) where
  abbrev settled : Model
  settled = set_set true m (input_at place m)

  at : ℕ → State
  at zero = state_of place rows (set_directions m 0 (kept_rows 0 xs))
  at (suc d) = state_of direction_place rows (set_directions settled (suc d) (kept_rows (suc d) xs))

  module _ (d : ℕ) (h : d < count) where
    six-is : six_at (six_bytes xs d) 0 ≡ tabulate 6 (matrix xs d)
    six-is = six-written xs fits d []

    passes : direction_ok (layout_of 0x30) (six_bytes xs d) ≡ true
    unfolding direction_ok layout_of
    passes =
        ap₂ ◌&&◌ (ap (within direction_limit) six-is ∙ all_between-of direction_limit (tabulate 6 (matrix xs d)) (row_small direction_limit xs d (small d)))
        (ap not (ap (λ (six : List ℤ). all_zero six 0) six-is ∙ row-nonzero xs d ∙ nonzero d h))

    room : leb 16 d ≡ false
    room = lt-leb 16 d (omega arith)

    stored_row : put_row (kept_rows d xs) d (six_at (six_bytes xs d) 0) ≡ kept_rows (suc d) xs
    stored_row = ap (put_row (kept_rows d xs) d) six-is ∙ put_row-kept d xs (tabulate 6 (matrix xs d)) (λ i l. get_or-tabulate 6 (matrix xs d) i (pos 0) l)

    next : (s : State) → s.model.questions.directions ≡ d → s.model.questions.entries ≡ kept_rows d xs → s.model.n ≡ m.n → may_follow s.place 0x30 ≡ true → stored s 0x30 (six_bytes xs d) ≡ at (suc d) → Taken s 0x30 (six_bytes xs d) (at (suc d))
    unfolding body_length layout_of kind_number
    next s count-is entries-are same ok then =
        record {
          known = ap body_bytes (sym (length-six_bytes xs d));
          allowed = ap₂ (λ (a b : Bool). cond a (cond b 9 0) 3) ok (ap (leb 16) count-is ∙ room);
          unused = unused-written xs fits d [] s.model.n (layout_of 0x30) refl refl (λ i b l. beyond d i l (subst (λ (k : ℕ). k ≤ i) same b));
          passes = ap (λ (b : Bool). unless b 7) passes;
          other = refl;
          then = then;
        }

  step : (d : ℕ) → d < count → Leads (cond (eqb d 0) 0x30 0x30 ∷ six_bytes xs d) (at d) (at (suc d))
  unfolding at stored with_direction layout_of may_follow
  step zero h =
      leads-record 0x30 (six_bytes xs 0)
      (next 0 h (at 0) refl refl refl may (ap (λ (l : List ℤ). state_of direction_place rows (set_directions settled 1 l)) (stored_row 0 h)))
  step (suc d) h =
      subst (λ (k : ℕ). Leads (k ∷ six_bytes xs (suc d)) (at (suc d)) (at (suc (suc d)))) (sym (either (eqb (suc d) 0)))
      (leads-record 0x30 (six_bytes xs (suc d))
      (next (suc d) h (at (suc d)) refl refl refl refl
      (ap (λ (k : ℕ). state_of direction_place rows (set_directions settled k (put_row (kept_rows (suc d) xs) (suc d) (six_at (six_bytes xs (suc d)) 0)))) (add-one (suc d))
      ∙ ap (λ (l : List ℤ). state_of direction_place rows (set_directions settled (suc (suc d)) l)) (stored_row (suc d) h))))
    where
      either : (b : Bool) → ◌≡◌ {A = ℕ} (cond b 0x30 0x30) 0x30
      either true = refl
      either false = refl

  pub directions-lead : 1 ≤ count → kept_rows count xs ≡ xs → Leads (direction_records count xs) (state_of place rows (set_directions m 0 (kept_rows 0 xs))) (state_of direction_place rows (set_directions settled count xs))
  unfolding at
  directions-lead some all = leads-to (leads-each count (λ k. cond (eqb k 0) 0x30 0x30 ∷ six_bytes xs k) at step) (last count some refl)
    where
      last : (k : ℕ) → 1 ≤ k → k ≡ count → at k ≡ state_of direction_place rows (set_directions settled k xs)
      last zero h e = absurd (omega arith)
      last (suc k) h e = ap (λ (l : List ℤ). state_of direction_place rows (set_directions settled (suc k) l)) (ap (λ (j : ℕ). kept_rows j xs) e ∙ all)

-- ---- the guards

module _ (m : Model) (rows count : ℕ) (watched : List ℕ) (levels : List ℤ) (few : count ≤ 16) (watches : (g : ℕ) → g < count → get_or watched g 0 < m.questions.directions) (fits : (g : ℕ) → SFits w64 (vector levels g)) where
  abbrev guards_place : ℕ → ℕ
  guards_place g = cond (eqb g 0) direction_place guard_place

  abbrev with-guards : ℕ → State
  with-guards g = state_of (guards_place g) rows (set_guards m g (kept 0 g watched) (kept (pos 0) g levels))

  abbrev body : ℕ → List ℕ
  body g = get_or watched g 0 ∷ signed_bytes 8 (vector levels g)

  level-read : (g : ℕ) → signed_at 8 (body g) 1 ≡ vector levels g
  level-read g =
      ap (λ (l : List ℕ). signed_at 8 (get_or watched g 0 ∷ l) 1) (sym (append-nil (signed_bytes 8 (vector levels g))))
      ∙ signed_at-signed_bytes w64 (vector levels g) (get_or watched g 0 ∷ []) [] (fits g)

  may-stand : (b : Bool) → may_follow (cond b direction_place guard_place) 0x40 ≡ true
  unfolding may_follow
  may-stand true = refl
  may-stand false = refl

  guard-taken : (g : ℕ) → g < count → Taken (with-guards g) 0x40 (body g) (with-guards (suc g))
  unfolding body_length layout_of kind_number stored with_guard
  guard-taken g h =
      record {
        known = ap (λ (k : ℕ). body_bytes (suc k)) (sym (length-signed_bytes 8 (vector levels g)));
        allowed = ap₂ (λ (a b : Bool). cond a (cond b 9 0) 3) (may-stand (eqb g 0)) (lt-leb 16 g (omega arith));
        unused = unused_zero-none m.n (layout_of 0x40) (body g) refl;
        passes = ap (λ (b : Bool). unless b 8) (lt-ltb (get_or watched g 0) m.questions.directions (watches g h));
        other = refl;
        then =
            ap (λ (x : ℤ). state_of guard_place rows (set_guards m (g + 1) (set (kept 0 g watched) g (get_or watched g 0)) (set (kept (pos 0) g levels) g x))) (level-read g)
            ∙ ap₂ (λ (w : List ℕ) (l : List ℤ). state_of guard_place rows (set_guards m (g + 1) w l)) (kept_more 0 g watched) (kept_more (pos 0) g levels)
            ∙ ap₂ (λ (b : Bool) (k : ℕ). state_of (cond b direction_place guard_place) rows (set_guards m k (kept 0 (suc g) watched) (kept (pos 0) (suc g) levels))) (sym (ne_eqb (suc g) 0 (λ e. omega arith))) (add-one g);
      }

  pub guards-lead : Leads (guard_records count watched levels) (with-guards 0) (with-guards count)
  guards-lead = leads-each count (λ g. 0x40 ∷ body g) with-guards (λ g h. leads-record 0x40 (body g) (guard-taken g h))

  -- the end may stand behind them
  pub guards-end : kind_number (with-guards count) 0xFF ≡ 0
  unfolding kind_number layout_of may_follow
  guards-end = either (eqb count 0)
    where
      either : (b : Bool) → ◌≡◌ {A = ℕ} (cond (may_follow (cond b direction_place guard_place) 0xFF) (cond (leb 16 0) 9 0) 3) 0
      either true = refl
      either false = refl
