-- What each part of a state that the reader reaches satisfies, and that one record more of the part keeps it. In order: the six
-- entries of a body; n, the steps and the matrix; a set; the drift; directions; guards. The place is the one in the order of records. Not
-- here: the whole state (`AcceptedSoFar`). Assumes nothing.
use mathlib.Core.Path.{◌≡◌, refl, sym, ap, ap₂, subst, ◌∙◌}
use mathlib.Core.Bool.{Bool, true, false, not, cond, ◌&&◌, ◌||◌}
use mathlib.Core.List.{List}
use Prim.Native.Nat.{ℕ, ◌+◌, ◌*◌, ◌≤◌, ◌<◌, max}
use native.Mathlib.Decide.{dec_lt}
use native.Mathlib.Omega.{arith}
use borrow.Author.Tests.{le-leb, eq-eqb, eqb-true, leb-true, ltb-true, ltb-false}
use lib.Dec.{leb, ltb}
use lib.ListN.{length, get_or-eq_default}
use lib.IntN.{ℤ, pos, nat_abs}
use Rattle.std.specs.Prelude.{Option, Some, None}
use Rattle.integers.specs.Sums.{vector, tabulate}
use Rattle.integers.proofs.Sums.{all_below-intro}
use Rattle.integers.proofs.Machine.{get_or-tabulate}
use Rattle.integers.proofs.Booleans.{and-true}
use Rattle.arrays.proofs.Tests.{all_between-at, Zeros, Small, zero_outside-of}
use Rattle.stepping.specs.Limits.{entry_limit}
use Rattle.stepping.specs.Refusals.{dimension_ok}
use Rattle.reachability.specs.declared.sets.Shape.TheVariants.{Box, Zonotope, Vertices}
use Rattle.reachability.specs.declared.sets.Set.{Set}
use Rattle.reachability.specs.Sets.{points, count_ok, ordered_ok, reach_limit, reach_ok, set_ok, reach_within, zero_box}
use Rattle.reachability.specs.Entering.{entering_reach, entering_ok}
use Rattle.limits.specs.Limits.{direction_limit, steps_ok, all_zero}
use Rattle.reachability.specs.Limits.{set_accepted}
use Rattle.records.specs.declared.kinds.Layout.{Layout}
use Rattle.records.specs.declared.kinds.Point.{Point}
use Rattle.records.specs.declared.kinds.Point.TheVariants.{Lower, Upper, Centre, Generator, Vertex}
use Rattle.records.specs.Places.{start_place, rows_place, matrix_place, drift_place, input_place, direction_place}
use Rattle.filling.specs.Models.{shape_of, zeros, blank_set, put_row}
use Rattle.columns.specs.Columns.{entry_at, unused_zero, six_at}
use Rattle.columns.proofs.ColumnLaws.{entry_zero-is, column_zero-whole, unused_zero-at}
use Rattle.reader.specs.Models.{row_place, with_point}
use Rattle.reader.specs.Values.{is_upper, within, drift_ok, point_ok, entering_point_ok, direction_ok}
use Rattle.filling.proofs.PutRow.{length-put_row}
use Rattle.reader.proofs.RowsOfSix.{vector-zeros, zeros-put_row, small-put_row, Nonzero, nonzero-put_row, Guarded}
use Rattle.reader.proofs.OrderFacts.{is_done, is_done-early, is_done-centre, point_place, point_may, point_most, PointOf, point-low}

-- ---- the six entries of a body

-- Those beyond n are zero.
abbrev pub Beyond : ℕ → List ℤ → Type 0
Beyond n six = (i : ℕ) → n ≤ i → vector six i ≡ pos 0

-- what the test of number 16 says of entries of 4 bytes
pub six_at-beyond : (n : ℕ) (l : Layout) (body : List ℕ) → l.width ≡ 4 → unused_zero n l body ≡ true → Beyond n (six_at body l.first)
unfolding six_at
six_at-beyond n l body plain z i h = elim (dec_lt i 6) [ yes k ↦ get_or-tabulate 6 (entry_at body l.first) i (pos 0) k ∙ entry_zero-is body l.first i (sym (column_zero-whole l.first l.width body i (λ e. omega (arith, plain, e))) ∙ unused_zero-at n l body z (omega (arith, plain)) i h k) | no g ↦ get_or-eq_default (tabulate 6 (entry_at body l.first)) (pos 0) {n = i} (omega (arith, g)) ]

-- ---- n, the steps and the matrix

pub record FrameAt (place rows n steps : ℕ) (matrix : List ℤ) : Type 0 where
  pub dimension : start_place < place → dimension_ok n ≡ true
  pub steps-ok : start_place < place → steps_ok steps ≡ true
  pub few : place ≡ rows_place → rows < n
  pub all : rows_place < place → rows ≡ n
  pub matrix-length : length matrix ≡ 36
  pub matrix-zeros : Zeros rows n matrix
  pub matrix-small : Small entry_limit matrix

pub n-most : (n : ℕ) → dimension_ok n ≡ true → n ≤ 6
n-most n t = leb-true n 6 (and-true (leb 1 n) (leb n 6) t).1

pub n-least : (n : ℕ) → dimension_ok n ≡ true → 1 ≤ n
n-least n t = leb-true 1 n (and-true (leb 1 n) (leb n 6) t).0

module _ {place rows n steps : ℕ} {matrix : List ℤ} (f : FrameAt place rows n steps matrix) where
  -- at a later place
  pub frame_on : (next : ℕ) → rows_place < place → rows_place < next → FrameAt next rows n steps matrix
  frame_on next h k =
      record {
        dimension = λ l. f.dimension (omega arith);
        steps-ok = λ l. f.steps-ok (omega arith);
        few = λ e. absurd (omega arith);
        all = λ l. f.all h;
        matrix-length = f.matrix-length;
        matrix-zeros = f.matrix-zeros;
        matrix-small = f.matrix-small;
      }

  -- one row more
  pub frame_row : (l : Layout) (six : List ℤ) → place ≡ rows_place → l.place ≡ matrix_place → ((i : ℕ) → i < 6 → nat_abs (vector six i) ≤ entry_limit) → Beyond n six → FrameAt (row_place l (rows + 1) n) (rows + 1) n steps (put_row matrix rows six)
  frame_row l six e next small beyond =
      let room : 6 * rows + 6 ≤ length matrix = omega (arith, f.few e, n-most n (f.dimension (omega arith)), f.matrix-length) in
      record {
        dimension = λ l. f.dimension (omega arith);
        steps-ok = λ l. f.steps-ok (omega arith);
        few = λ p. left (ltb (rows + 1) n) refl p;
        all = λ p. full (ltb (rows + 1) n) refl p;
        matrix-length = length-put_row rows six matrix ∙ f.matrix-length;
        matrix-zeros = zeros-put_row n matrix rows six room beyond f.matrix-zeros;
        matrix-small = small-put_row entry_limit matrix rows six room small f.matrix-small;
      }
    where
      left : (b : Bool) → ltb (rows + 1) n ≡ b → ◌≡◌ {A = ℕ} (cond b rows_place l.place) rows_place → rows + 1 < n
      left true t p = ltb-true (rows + 1) n t
      left false t p = absurd (omega arith)

      full : (b : Bool) → ltb (rows + 1) n ≡ b → rows_place < cond b rows_place l.place → rows + 1 ≡ n
      full true t p = absurd (omega arith)
      full false t p = omega (arith, ltb-false (rows + 1) n t, f.few e)

-- ---- a set whose places begin at `base`

pub record Held (n : ℕ) (set : Set) : Type 0 where
  pub length-is : length set.points ≡ 96
  pub outside : Zeros set.count n set.points
  pub most : set.count ≤ 16

-- What the place tells: no point yet; the shape and the count behind the points that another may follow; a whole set.
pub record SetAt (base place n : ℕ) (set : Set) : Type 0 where
  pub held : Held n set
  pub none : place < base → set ≡ blank_set
  pub box : place ≡ base → (set.shape ≡ Box) × (set.count ≡ 1)
  pub zonotope : base + 2 ≤ place → place ≤ base + 3 → (set.shape ≡ Zonotope) × (1 ≤ set.count)
  pub vertices : place ≡ base + 4 → set.shape ≡ Vertices
  pub done : is_done base place ≡ true → set_accepted n set ≡ true

module _ {base place n : ℕ} {set : Set} (s : SetAt base place n set) where
  pub none-count : place < base → set.count ≡ 0
  unfolding blank_set
  none-count h = ap (λ (x : Set). x.count) (s.none h)

  -- before its own points
  pub set-early : (next : ℕ) → place < base → next < base → SetAt base next n set
  set-early next h k =
      record {
        held = s.held;
        none = λ l. s.none h;
        box = λ e. absurd (omega arith);
        zonotope = λ l m. absurd (omega arith);
        vertices = λ e. absurd (omega arith);
        done = λ t. absurd (is_done-early base next (omega arith) t);
      }

  -- behind its own points
  pub set-late : (next : ℕ) → base + 4 < next → is_done base place ≡ true → SetAt base next n set
  set-late next k t =
      record {
        held = s.held;
        none = λ l. absurd (omega arith);
        box = λ e. absurd (omega arith);
        zonotope = λ l m. absurd (omega arith);
        vertices = λ e. absurd (omega arith);
        done = λ u. s.done t;
      }

-- one point more
module _ (base place n : ℕ) (set : Set) (l : Layout) (body : List ℕ) (s : SetAt base place n set) (of : PointOf base place l) (few : set.count < l.most) (beyond : Beyond n (six_at body l.first)) (ok : point_ok n l.point (with_point set l body) ≡ true) where
  abbrev count : ℕ
  count = set.count + 1

  abbrev block : List ℤ
  block = put_row set.points set.count (six_at body l.first)

  most-is : (p : Option Point) → point_most p ≤ 16
  most-is None = omega arith
  most-is (Some Lower) = omega arith
  most-is (Some Upper) = omega arith
  most-is (Some Centre) = omega arith
  most-is (Some Generator) = omega arith
  most-is (Some Vertex) = omega arith

  count-few : set.count < 16
  count-few = omega (arith, few, of.most-le, most-is l.point)

  room : 6 * set.count + 6 ≤ length set.points
  room = omega (arith, count-few, s.held.length-is)

  block-zeros : Zeros count n block
  block-zeros = zeros-put_row n set.points set.count (six_at body l.first) room beyond s.held.outside

  -- what the test of number 6 says
  reach-ok : reach_ok (shape_of l.point) count (points block) ≡ true
  unfolding point_ok with_point
  reach-ok = (and-true (leb 1 count && leb count 16) _ (and-true (reach_within (shape_of l.point) count block) _ ok).0).1

  ordered : is_upper l.point ≡ true → ordered_ok n Box (points block) ≡ true
  unfolding point_ok with_point
  ordered u = (and-true (leb n 6) _ (tested (is_upper l.point) _ u (and-true (reach_within (shape_of l.point) count block) _ ok).1)).1
    where
      tested : (u b : Bool) → u ≡ true → not u || b ≡ true → b ≡ true
      tested u b t e = sym (ap (λ (x : Bool). not x || b) t) ∙ e

  -- the set with its point, where its count and its corners are right
  whole : {p : Option Point} → l.point ≡ p → count_ok (shape_of p) count ≡ true → ordered_ok n (shape_of p) (points block) ≡ true → set_ok n (shape_of l.point) count block ≡ true
  whole e c o =
      ap₂ ◌&&◌ (ap (λ (q : Option Point). count_ok (shape_of q) count) e ∙ c)
      (ap₂ ◌&&◌ (zero_outside-of count n block block-zeros) (ap₂ ◌&&◌ reach-ok (ap (λ (q : Option Point). ordered_ok n (shape_of q) (points block)) e ∙ o)))

  -- by the point, what its set is and what the next point may be
  record Behind (p : Option Point) (next : ℕ) : Type 0 where
    box : next ≡ base → (shape_of p ≡ Box) × (count ≡ 1)
    zonotope : base + 2 ≤ next → next ≤ base + 3 → shape_of p ≡ Zonotope
    vertices : next ≡ base + 4 → shape_of p ≡ Vertices
    done : is_done base next ≡ true → set_ok n (shape_of l.point) count block ≡ true

  behind : (p : Option Point) → l.point ≡ p → point_may base place p ≡ true → set.count < point_most p → Behind p (point_place base p)
  behind None e m c = let z : ◌≡◌ {A = ℕ} 0 1 = cc in absurd (omega arith)
  behind (Some Lower) e m c =
      record {
        box = λ f. (refl, ap (λ (k : ℕ). k + 1) (none-count s (ltb-true place base m)));
        zonotope = λ a b. absurd (omega arith);
        vertices = λ f. absurd (omega arith);
        done = λ t. absurd (is_done-early base base (omega arith) t);
      }
  behind (Some Upper) e m c =
      record {
        box = λ f. absurd (omega arith);
        zonotope = λ a b. absurd (omega arith);
        vertices = λ f. absurd (omega arith);
        done = λ t. whole e (eq-eqb count 2 (omega (arith, (s.box (eqb-true place base m)).1))) (ordered (ap is_upper e));
      }
  behind (Some Centre) e m c =
      record {
        box = λ f. absurd (omega arith);
        zonotope = λ a b. refl;
        vertices = λ f. absurd (omega arith);
        done = λ t. absurd (is_done-centre base (base + 2) refl t);
      }
  behind (Some Generator) e m c =
      let both = and-true (leb (base + 2) place) (leb place (base + 3)) m in
      let some = (s.zonotope (leb-true (base + 2) place both.0) (leb-true place (base + 3) both.1)).1 in
      record {
        box = λ f. absurd (omega arith);
        zonotope = λ a b. refl;
        vertices = λ f. absurd (omega arith);
        done = λ t. whole e (ap₂ ◌&&◌ (le-leb 2 count (omega (arith, some))) (le-leb count 9 (omega arith))) refl;
      }
  behind (Some Vertex) e m c =
      record {
        box = λ f. absurd (omega arith);
        zonotope = λ a b. absurd (omega arith);
        vertices = λ f. refl;
        done = λ t. whole e (ap₂ ◌&&◌ (le-leb 1 count (omega arith)) (le-leb count 16 (omega arith))) refl;
      }

  here : Behind l.point l.place
  here = subst (Behind l.point) (sym of.place_is) (behind l.point refl of.may (omega (arith, few, of.most-le)))

  pub set-point : SetAt base l.place n (with_point set l body)
  unfolding with_point
  set-point =
      record {
        held = record { length-is = length-put_row set.count (six_at body l.first) set.points ∙ s.held.length-is; outside = block-zeros; most = omega (arith, count-few) };
        none = λ k. absurd (omega (arith, point-low of));
        box = here.box;
        zonotope = λ a b. (here.zonotope a b, omega arith);
        vertices = here.vertices;
        done = here.done;
      }

-- ---- the drift, and what enters with it

pub record DriftAt (place n : ℕ) (set : Set) (drift : List ℤ) : Type 0 where
  pub none : place < drift_place → drift ≡ zeros 6
  pub beyond : Beyond n drift
  pub small : (i : ℕ) → nat_abs (vector drift i) ≤ reach_limit
  pub entering : is_done input_place place ≡ true → entering_ok set.shape set.count set.points drift ≡ true

-- a drift, before the points of the input set
pub drift-early : {n : ℕ} {set : Set} {drift : List ℤ} (next : ℕ) → next < input_place → (next < drift_place → drift ≡ zeros 6) → Beyond n drift → ((i : ℕ) → nat_abs (vector drift i) ≤ reach_limit) → DriftAt next n set drift
drift-early next h none beyond small = record { none = none; beyond = beyond; small = small; entering = λ t. absurd (is_done-early input_place next (omega arith) t) }

pub drift-blank : {n : ℕ} {set : Set} (next : ℕ) → next < input_place → DriftAt next n set (zeros 6)
drift-blank next h =
    drift-early next h (λ l. refl) (λ i l. vector-zeros 6 i) (λ i. subst (λ (z : ℤ). nat_abs z ≤ reach_limit) (sym (vector-zeros 6 i)) (omega arith))

-- the record
pub drift-new : {n : ℕ} {set : Set} (l : Layout) (body : List ℕ) → drift_place ≤ l.place → l.place < input_place → Beyond n (six_at body l.first) → drift_ok l body ≡ true → DriftAt l.place n set (six_at body l.first)
unfolding drift_ok
drift-new l body k h beyond ok = drift-early l.place h (λ p. absurd (omega arith)) beyond (all_between-at reach_limit (six_at body l.first) ok)

module _ {place n : ℕ} {set : Set} {drift : List ℤ} (d : DriftAt place n set drift) where
  -- with one point more
  pub drift-point : (l : Layout) (body : List ℕ) → drift_place ≤ l.place → entering_point_ok true (with_point set l body) drift ≡ true → DriftAt l.place n (with_point set l body) drift
  drift-point l body k ok =
      let points = with_point set l body in
      record { none = λ p. absurd (omega arith); beyond = d.beyond; small = d.small; entering = λ t. (and-true (leb 1 points.count && leb points.count 16) _ ok).1 }

  -- behind the points of the input set
  pub drift-late : (next : ℕ) → drift_place ≤ next → is_done input_place place ≡ true → DriftAt next n set drift
  drift-late next k t = record { none = λ p. absurd (omega arith); beyond = d.beyond; small = d.small; entering = λ u. d.entering t }

  -- with points of zeros
  pub entering-zeros : (count : ℕ) → entering_ok Box count (zeros 96) drift ≡ true
  entering-zeros count =
      all_below-intro 6 (λ i. leb (entering_reach Box count (zeros 96) drift i) reach_limit)
      (λ i h. le-leb (entering_reach Box count (zeros 96) drift i) reach_limit (alone i (nat_abs (vector drift i)) (ap nat_abs (vector-zeros 96 (6 * 0 + i))) (ap nat_abs (vector-zeros 96 (6 * 1 + i))) (d.small i)))
    where
      alone : (i w : ℕ) → nat_abs (points (zeros 96) 0 i) ≡ 0 → nat_abs (points (zeros 96) 1 i) ≡ 0 → w ≤ reach_limit → max (nat_abs (points (zeros 96) 0 i)) (nat_abs (points (zeros 96) 1 i)) + w ≤ reach_limit
      alone i w p q h = omega arith

  -- File 10: behind a direction, with the input set that no record told
  pub drift-zero-box : (next : ℕ) → drift_place ≤ next → DriftAt next n zero_box drift
  unfolding zero_box zeros
  drift-zero-box next k = record { none = λ p. absurd (omega arith); beyond = d.beyond; small = d.small; entering = λ u. entering-zeros 2 }

-- ---- directions and guards

pub record DirectionsAt (place n count : ℕ) (entries : List ℤ) : Type 0 where
  pub entries-length : length entries ≡ 96
  pub entries-zeros : Zeros count n entries
  pub entries-small : Small direction_limit entries
  pub nonzero : Nonzero count entries
  pub few : count ≤ 16
  pub some : direction_place ≤ place → 1 ≤ count

module _ {place n count : ℕ} {entries : List ℤ} (d : DirectionsAt place n count entries) where
  pub directions-early : (next : ℕ) → next < direction_place → DirectionsAt next n count entries
  directions-early next k = record { entries-length = d.entries-length; entries-zeros = d.entries-zeros; entries-small = d.entries-small; nonzero = d.nonzero; few = d.few; some = λ l. absurd (omega arith) }

  pub directions-late : (next : ℕ) → direction_place ≤ place → DirectionsAt next n count entries
  directions-late next k = record { entries-length = d.entries-length; entries-zeros = d.entries-zeros; entries-small = d.entries-small; nonzero = d.nonzero; few = d.few; some = λ l. d.some k }

  -- one direction more
  pub directions-more : (l : Layout) (body : List ℕ) → count < 16 → Beyond n (six_at body l.first) → direction_ok l body ≡ true → DirectionsAt l.place n (count + 1) (put_row entries count (six_at body l.first))
  unfolding direction_ok
  directions-more l body h beyond ok =
      let both = and-true (within direction_limit (six_at body l.first)) _ ok in
      let room : 6 * count + 6 ≤ length entries = omega (arith, d.entries-length) in
      record {
        entries-length = length-put_row count (six_at body l.first) entries ∙ d.entries-length;
        entries-zeros = zeros-put_row n entries count (six_at body l.first) room beyond d.entries-zeros;
        entries-small = small-put_row direction_limit entries count (six_at body l.first) room (λ i k. all_between-at direction_limit (six_at body l.first) both.0 i) d.entries-small;
        nonzero = nonzero-put_row entries count (six_at body l.first) room (turned (all_zero (six_at body l.first) 0) both.1) d.nonzero;
        few = omega arith;
        some = λ p. omega arith;
      }
    where
      turned : (b : Bool) → not b ≡ true → b ≡ false
      turned true e = sym e
      turned false e = refl

pub record GuardsAt (directions guards : ℕ) (watched : List ℕ) (levels : List ℤ) : Type 0 where
  pub watched-length : length watched ≡ 16
  pub few : guards ≤ 16
  pub guarded : Guarded directions guards watched levels
