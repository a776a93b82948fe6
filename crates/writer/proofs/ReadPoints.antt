-- The points of a set that were written, read one by one: of either set, of any shape. In order: what is known of the kinds of points; a
-- set with one point more; one record; all of them. Assumes nothing.
use mathlib.Core.Path.{◌≡◌, refl, sym, ap, ap₂, subst, ◌∙◌}
use mathlib.Core.Bool.{Bool, true, false, cond}
use mathlib.Core.List.{List, [], ◌∷◌}
use Prim.Native.Nat.{ℕ, zero, suc, ◌+◌, ◌≤◌, ◌<◌}
use native.Mathlib.Numerals.{add-one}
use native.Mathlib.Omega.{arith}
use borrow.Author.Tests.{lt-leb, ne_eqb, eqb-true, leb-true}
use lib.Dec.{leb, eqb}
use lib.IntN.{ℤ, pos}
use lib.ListN.{length, replicate}
use Rattle.integers.specs.Sums.{matrix, tabulate}
use Rattle.integers.proofs.Booleans.{and-true}
use Rattle.integers.proofs.Machine.{get_or-tabulate}
use Rattle.arrays.specs.Tests.{first_of}
use Rattle.arrays.proofs.Tests.{zero_outside-column}
use Rattle.reachability.specs.declared.sets.Shape.{Shape}
use Rattle.reachability.specs.declared.sets.Shape.TheVariants.{Box, Zonotope, Vertices}
use Rattle.reachability.specs.declared.sets.Set.{Set}
use Rattle.reachability.specs.declared.model.Model.{Model}
use Rattle.reachability.specs.Sets.{count_ok, set_ok}
use Rattle.reachability.specs.Entering.{entering_ok}
use Rattle.reachability.proofs.sets.Facts.{counted_of, set-facts}
use Rattle.records.specs.declared.kinds.Layout.{Layout}
use Rattle.records.specs.declared.kinds.Part.{Part}
use Rattle.records.specs.declared.kinds.Part.TheVariants.{Initial, Input}
use Rattle.records.specs.Kinds.{body_bytes, body_length, layout_of, part_of}
use Rattle.records.specs.Order.{may_follow}
use Rattle.columns.specs.Columns.{six_at}
use Rattle.filling.specs.Models.{zeros, blank_set, set_of, set_set, put_row, shape_of}
use Rattle.filling.proofs.FromTheFront.{kept-none, kept_rows, put_row-kept, rows_all}
use Rattle.reader.specs.declared.state.State.{State}
use Rattle.reader.specs.Models.{state_of, with_point, with_set_point}
use Rattle.reader.specs.Values.{is_upper, unless, point_number_of, point_number, value_number}
use Rattle.reader.specs.Refusals.{count_of, kind_number, stored_in, stored}
use Rattle.reader.specs.Reading.{is_end}
use Rattle.writer.specs.Writing.{six_bytes, vector_records, first_kind, other_kind, is_box}
use Rattle.writer.proofs.Bits.{length-six_bytes}
use Rattle.writer.proofs.Leading.{Leads, leads-record, leads-each, leads-to, Taken}
use Rattle.writer.proofs.Bodies.{Fits32, six-written, unused-written}
use Rattle.writer.proofs.SetSoFar.{so_far, point-passes, entering-passes}

no-boolean : true ≡ false → ⊥
no-boolean e = let z : ◌≡◌ {A = ℕ} 1 0 = ap (λ (b : Bool). cond b 1 0) e in omega arith

-- ---- the kinds of points

abbrev pub part_kind : Bool → ℕ
part_kind input = cond input 0x20 0x10

abbrev set_part : Bool → Part
set_part input = cond input Input Initial

-- A kind of a point of this set and of this shape.
record PointKind (input : Bool) (shape : Shape) (kind : ℕ) : Type 0 where
  part-is : part_of kind ≡ set_part input
  first-is : (layout_of kind).first ≡ 0
  width_is : (layout_of kind).width ≡ 4
  length-is : body_length kind ≡ body_bytes 24
  shape_is : shape_of (layout_of kind).point ≡ shape

first-point : (input : Bool) (shape : Shape) → PointKind input shape (first_kind (part_kind input) shape)
unfolding layout_of body_length
first-point true Box = record { part-is = refl; first-is = refl; width_is = refl; length-is = refl; shape_is = refl }
first-point true Zonotope = record { part-is = refl; first-is = refl; width_is = refl; length-is = refl; shape_is = refl }
first-point true Vertices = record { part-is = refl; first-is = refl; width_is = refl; length-is = refl; shape_is = refl }
first-point false Box = record { part-is = refl; first-is = refl; width_is = refl; length-is = refl; shape_is = refl }
first-point false Zonotope = record { part-is = refl; first-is = refl; width_is = refl; length-is = refl; shape_is = refl }
first-point false Vertices = record { part-is = refl; first-is = refl; width_is = refl; length-is = refl; shape_is = refl }

other-point : (input : Bool) (shape : Shape) → PointKind input shape (other_kind (part_kind input) shape)
unfolding layout_of body_length
other-point true Box = record { part-is = refl; first-is = refl; width_is = refl; length-is = refl; shape_is = refl }
other-point true Zonotope = record { part-is = refl; first-is = refl; width_is = refl; length-is = refl; shape_is = refl }
other-point true Vertices = record { part-is = refl; first-is = refl; width_is = refl; length-is = refl; shape_is = refl }
other-point false Box = record { part-is = refl; first-is = refl; width_is = refl; length-is = refl; shape_is = refl }
other-point false Zonotope = record { part-is = refl; first-is = refl; width_is = refl; length-is = refl; shape_is = refl }
other-point false Vertices = record { part-is = refl; first-is = refl; width_is = refl; length-is = refl; shape_is = refl }

-- neither a lower corner nor a centre is an upper corner; a vertex list needs no other kind
first-lower : (input : Bool) (shape : Shape) → is_upper (layout_of (first_kind (part_kind input) shape)).point ≡ false
unfolding layout_of
first-lower true Box = refl
first-lower true Zonotope = refl
first-lower true Vertices = refl
first-lower false Box = refl
first-lower false Zonotope = refl
first-lower false Vertices = refl

other-upper : (input : Bool) (shape : Shape) → is_upper (layout_of (other_kind (part_kind input) shape)).point ≡ true → shape ≡ Box
unfolding layout_of
other-upper input Box e = refl
other-upper true Zonotope e = absurd (no-boolean (sym e))
other-upper false Zonotope e = absurd (no-boolean (sym e))
other-upper true Vertices e = absurd (no-boolean (sym e))
other-upper false Vertices e = absurd (no-boolean (sym e))

first-room : (input : Bool) (shape : Shape) → 0 < (layout_of (first_kind (part_kind input) shape)).most
unfolding layout_of
first-room true Box = omega arith
first-room true Zonotope = omega arith
first-room true Vertices = omega arith
first-room false Box = omega arith
first-room false Zonotope = omega arith
first-room false Vertices = omega arith

-- Refusals 9: no accepted set has more points than its kinds allow
other-room : (input : Bool) (shape : Shape) (count : ℕ) → count_ok shape count ≡ true → count ≤ (layout_of (other_kind (part_kind input) shape)).most
unfolding layout_of
other-room true Box count t = omega (arith, eqb-true count 2 t)
other-room false Box count t = omega (arith, eqb-true count 2 t)
other-room true Zonotope count t = leb-true count 9 (and-true (leb 2 count) (leb count 9) t).1
other-room false Zonotope count t = leb-true count 9 (and-true (leb 2 count) (leb count 9) t).1
other-room true Vertices count t = leb-true count 16 (and-true (leb 1 count) (leb count 16) t).1
other-room false Vertices count t = leb-true count 16 (and-true (leb 1 count) (leb count 16) t).1

-- File 5: the second point behind the first, and each other behind the one before; a box has two
second-may : (input : Bool) (shape : Shape) → may_follow (layout_of (first_kind (part_kind input) shape)).place (other_kind (part_kind input) shape) ≡ true
unfolding layout_of may_follow
second-may true Box = refl
second-may true Zonotope = refl
second-may true Vertices = refl
second-may false Box = refl
second-may false Zonotope = refl
second-may false Vertices = refl

other-may : (input : Bool) (shape : Shape) (count : ℕ) → count_ok shape count ≡ true → 2 < count → may_follow (layout_of (other_kind (part_kind input) shape)).place (other_kind (part_kind input) shape) ≡ true
unfolding layout_of may_follow
other-may input Box count t h = absurd (omega (arith, eqb-true count 2 t))
other-may true Zonotope count t h = refl
other-may true Vertices count t h = refl
other-may false Zonotope count t h = refl
other-may false Vertices count t h = refl

-- a box has two points
two-of-box : (shape : Shape) (count : ℕ) → count_ok shape count ≡ true → shape ≡ Box → 2 ≡ count
two-of-box Box count t e = sym (eqb-true count 2 t)
two-of-box Zonotope count t e = absurd (no-boolean (sym (ap is_box e)))
two-of-box Vertices count t e = absurd (no-boolean (sym (ap is_box e)))

-- ---- a model with a set put in

set-of-set : (input : Bool) (m : Model) (s : Set) → set_of input (set_set input m s) ≡ s
set-of-set true m s = refl
set-of-set false m s = refl

set-set : (input : Bool) (m : Model) (s t : Set) → set_set input (set_set input m s) t ≡ set_set input m t
set-set true m s t = refl
set-set false m s t = refl

abbrev set-with : Shape → ℕ → List ℤ → Set
set-with shape count xs = record { shape = shape; count = count; points = xs }

so_far-count : (shape : Shape) (k : ℕ) (xs : List ℤ) → (so_far shape k xs).count ≡ k
unfolding so_far
so_far-count shape zero xs = refl
so_far-count shape (suc k) xs = refl

so_far-points : (shape : Shape) (k : ℕ) (xs : List ℤ) → (so_far shape k xs).points ≡ kept_rows k xs
unfolding so_far
so_far-points shape zero xs = refl
so_far-points shape (suc k) xs = refl

-- ---- one record

-- A point of a set that is accepted, where the first k points are in.
module _ (input : Bool) (m : Model) (rows : ℕ) (shape : Shape) (count : ℕ) (xs : List ℤ) (few : m.n ≤ 6) (ok : set_ok m.n shape count xs ≡ true) (enters : input ≡ true → entering_ok shape count xs m.drift ≡ true) (fits : Fits32 xs) where
  abbrev at : ℕ → ℕ → State
  at place k = state_of place rows (set_set input m (so_far shape k xs))

  module _ (kind : ℕ) (of : PointKind input shape kind) (k : ℕ) (h : k < count) where
    abbrev l : Layout
    l = layout_of kind

    six-is : six_at (six_bytes xs k) l.first ≡ tabulate 6 (matrix xs k)
    six-is = ap (six_at (six_bytes xs k)) of.first-is ∙ six-written xs fits k []

    -- the set with this point
    one_more : with_point (so_far shape k xs) l (six_bytes xs k) ≡ so_far shape (suc k) xs
    unfolding with_point so_far
    one_more =
        ap (λ (p : List ℤ). set-with (shape_of l.point) ((so_far shape k xs).count + 1) p) (ap₂ (λ (p : List ℤ) (j : ℕ). put_row p j (six_at (six_bytes xs k) l.first)) (so_far-points shape k xs) (so_far-count shape k xs) ∙ ap (put_row (kept_rows k xs) k) six-is ∙ put_row-kept k xs (tabulate 6 (matrix xs k)) (λ i b. get_or-tabulate 6 (matrix xs k) i (pos 0) b))
        ∙ ap₂ (λ (s : Shape) (c : ℕ). set-with s c (kept_rows (suc k) xs)) of.shape_is (ap (λ (c : ℕ). c + 1) (so_far-count shape k xs) ∙ add-one k)

    taken : (place : ℕ) → may_follow place kind ≡ true → k < l.most → (is_upper l.point ≡ true → (shape ≡ Box) × (suc k ≡ count)) → Taken (at place k) kind (six_bytes xs k) (at l.place (suc k))
    unfolding kind_number stored with_set_point
    taken place may room upper =
        record {
          known = of.length-is ∙ ap body_bytes (sym (length-six_bytes xs k));
          allowed = allowed;
          unused = unused-written xs fits k [] m.n l of.width_is of.first-is (λ i b c. zero_outside-column count m.n xs (set-facts m.n shape count xs ok).outside k i c b);
          passes = passes;
          other = ap is_end of.part-is ∙ not_end input;
          then = then;
        }
      where
        s : State
        s = at place k

        counts : (b : Bool) → count_of (set_part b) (state_of place rows (set_set b m (so_far shape k xs))) ≡ (so_far shape k xs).count
        counts true = refl
        counts false = refl

        allowed : kind_number s kind ≡ 0
        allowed =
            let count-is : count_of l.part s ≡ k = ap (λ (p : Part). count_of p s) of.part-is ∙ counts input ∙ so_far-count shape k xs in
            ap₂ (λ (a b : Bool). cond a (cond b 9 0) 3) may (ap (leb l.most) count-is ∙ lt-leb l.most k room)

        values : (b : Bool) (t : State) → value_number (set_part b) t l (six_bytes xs k) ≡ point_number b t l (six_bytes xs k)
        values true t = refl
        values false t = refl

        passes : value_number (part_of kind) s l (six_bytes xs k) ≡ 0
        passes =
            ap (λ (p : Part). value_number p s l (six_bytes xs k)) of.part-is
            ∙ values input s
            ∙ ap (λ (t : Set). point_number_of input m.n l.point t m.drift) (ap (λ (t : Set). with_point t l (six_bytes xs k)) (set-of-set input m (so_far shape k xs)) ∙ one_more)
            ∙ ap₂ (λ (a b : Bool). first_of (unless a 6) (unless b 17)) (point-passes m.n count shape xs k ok h few l.point upper) (entering-passes m.n count shape xs k ok h input m.drift enters)

        not_end : (b : Bool) → is_end (set_part b) ≡ false
        not_end true = refl
        not_end false = refl

        stores : (b : Bool) (t : State) → stored_in (set_part b) t l (six_bytes xs k) ≡ with_set_point b t l (six_bytes xs k)
        stores true t = refl
        stores false t = refl

        then : stored s kind (six_bytes xs k) ≡ at l.place (suc k)
        then =
            ap (λ (p : Part). stored_in p s l (six_bytes xs k)) of.part-is
            ∙ stores input s
            ∙ ap (λ (t : Set). state_of l.place rows (set_set input s.model t)) (ap (λ (t : Set). with_point t l (six_bytes xs k)) (set-of-set input m (so_far shape k xs)) ∙ one_more)
            ∙ ap (state_of l.place rows) (set-set input m (so_far shape k xs) (so_far shape (suc k) xs))

  -- ---- all of them

  abbrev first : ℕ
  first = first_kind (part_kind input) shape

  abbrev other : ℕ
  other = other_kind (part_kind input) shape

  -- The place behind k points.
  pub points_place : ℕ → ℕ → ℕ
  points_place place zero = place
  points_place place (suc zero) = (layout_of first).place
  points_place place (suc (suc k)) = (layout_of other).place

  counted : count_ok shape count ≡ true
  counted = (and-true (count_ok shape count) _ ok).0

  step : (place : ℕ) → may_follow place first ≡ true → (k : ℕ) → k < count → Leads (cond (eqb k 0) first other ∷ six_bytes xs k) (at (points_place place k) k) (at (points_place place (suc k)) (suc k))
  unfolding points_place
  step place may zero h =
      leads-record first (six_bytes xs 0)
      (taken first (first-point input shape) 0 h place may (first-room input shape) (λ e. absurd (no-boolean (sym e ∙ first-lower input shape))))
  step place may (suc zero) h =
      leads-record other (six_bytes xs 1)
      (taken other (other-point input shape) 1 h (layout_of first).place (second-may input shape) (omega (arith, h, other-room input shape count counted)) (λ e. upper e))
    where
      upper : is_upper (layout_of other).point ≡ true → (shape ≡ Box) × (2 ≡ count)
      upper e = let box = other-upper input shape e in (box, two-of-box shape count counted box)
  step place may (suc (suc k)) h =
      subst (λ (b : Bool). Leads (cond b first other ∷ six_bytes xs (suc (suc k))) (at (layout_of other).place (suc (suc k))) (at (layout_of other).place (suc (suc (suc k))))) (sym (ne_eqb (suc (suc k)) 0 (λ e. omega arith)))
      (leads-record other (six_bytes xs (suc (suc k)))
      (taken other (other-point input shape) (suc (suc k)) h (layout_of other).place (other-may input shape count counted (omega arith)) (omega (arith, h, other-room input shape count counted)) (λ e. absurd (more e))))
    where
      more : is_upper (layout_of other).point ≡ true → ⊥
      more e = omega (arith, two-of-box shape count counted (other-upper input shape e), h)

  -- the place behind all of them
  place-behind : (s : Shape) → s ≡ shape → count_ok s count ≡ true → (place : ℕ) → points_place place count ≡ (layout_of other).place
  unfolding points_place
  place-behind s e t place = behind count (some s t) (least s e t)
    where
      some : (s : Shape) → count_ok s count ≡ true → 1 ≤ count
      some s t = (counted_of s count t).some

      least : (s : Shape) → s ≡ shape → count_ok s count ≡ true → count ≡ 1 → first ≡ other
      least Box e t one = absurd (omega (arith, eqb-true count 2 t))
      least Zonotope e t one = absurd (omega (arith, leb-true 2 count (and-true (leb 2 count) (leb count 9) t).0))
      least Vertices e t one = ap (first_kind (part_kind input)) (sym e) ∙ ap (other_kind (part_kind input)) e

      behind : (k : ℕ) → 1 ≤ k → (k ≡ 1 → first ≡ other) → points_place place k ≡ (layout_of other).place
      behind zero h same = absurd (omega arith)
      behind (suc zero) h same = ap (λ (kind : ℕ). (layout_of kind).place) (same refl)
      behind (suc (suc k)) h same = refl

  all_in : so_far shape count xs ≡ set-with shape count xs
  unfolding so_far
  all_in = whole count (counted_of shape count counted).some refl
    where
      whole : (k : ℕ) → 1 ≤ k → k ≡ count → so_far shape k xs ≡ set-with shape k xs
      whole zero h e = absurd (omega arith)
      whole (suc k) h e = ap (set-with shape (suc k)) (ap (λ (j : ℕ). kept_rows j xs) e ∙ rows_all count m.n xs (set-facts m.n shape count xs ok).outside)

  pub points-lead : (place : ℕ) → may_follow place first ≡ true → Leads (vector_records first other count xs) (at place 0) (state_of (layout_of other).place rows (set_set input m (set-with shape count xs)))
  unfolding points_place
  points-lead place may =
      leads-to (leads-each count (λ k. cond (eqb k 0) first other ∷ six_bytes xs k) (λ k. at (points_place place k) k) (step place may))
      (ap₂ (λ (p : ℕ) (s : Set). state_of p rows (set_set input m s)) (place-behind shape refl counted place) all_in)

-- A set without a point is the blank set.
pub so_far-none : (shape : Shape) (xs : List ℤ) → length xs ≡ 96 → so_far shape 0 xs ≡ blank_set
unfolding so_far blank_set zeros
so_far-none shape xs e = ap (set-with Box 0) (kept-none (pos 0) xs ∙ ap (λ (k : ℕ). replicate k (pos 0)) e)
