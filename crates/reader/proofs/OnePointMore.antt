-- Sets 16, as a file is read: a point behind another point of its set makes a set with one point more, and the new point is the one
-- in the body. So Sets 17 to 19 hold of what the reader tests and stores point by point. In order: any set so far; the sets at a
-- place that reading comes to. Assumes nothing.
use mathlib.Core.Path.{◌≡◌, refl, sym, subst, ◌∙◌}
use mathlib.Core.Bool.{Bool, true, false}
use mathlib.Core.List.{List}
use Prim.Native.Nat.{ℕ, ◌+◌, ◌≤◌, ◌<◌}
use native.Mathlib.Decide.{dec_lt}
use native.Mathlib.Omega.{arith}
use borrow.Author.Tests.{eqb-true, leb-true, ltb-true, le-ltb}
use lib.Dec.{leb, ltb}
use lib.ListN.{length}
use lib.IntN.{pos}
use Rattle.std.specs.Prelude.{Option, Some, None}
use Rattle.integers.proofs.Machine.{get_or-tabulate}
use Rattle.integers.proofs.Booleans.{and-true, or-false}
use Rattle.records.specs.declared.kinds.Part.{Part}
use Rattle.records.specs.declared.kinds.Part.TheVariants.{Initial, Input}
use Rattle.records.specs.declared.kinds.Layout.{Layout}
use Rattle.records.specs.declared.kinds.Point.{Point}
use Rattle.records.specs.declared.kinds.Point.TheVariants.{Lower, Upper, Centre, Generator, Vertex}
use Rattle.records.specs.Places.{initial_place, input_place}
use Rattle.records.specs.Kinds.{layout_of, part_of}
use Rattle.records.proofs.KnownKinds.{most-le}
use Rattle.reachability.specs.declared.sets.Set.{Set}
use Rattle.reachability.specs.OneMore.{OneMore, new_point}
use Rattle.reader.specs.declared.state.State.{State}
use Rattle.filling.specs.Models.{shape_of}
use Rattle.columns.specs.Columns.{entry_at, six_at}
use Rattle.reader.specs.Models.{with_point}
use Rattle.reader.specs.Refusals.{count_of, kind_number}
use Rattle.reader.specs.Points.{state_after, set_before, set_with, PointAt}
use Rattle.reader.proofs.order.KindNumbers.{kind_number-zero, count-lt}
use Rattle.reader.proofs.RowsOfSix.{matrix-put_row-same, matrix-put_row-other}
use Rattle.reader.proofs.OrderFacts.{point_may, point_fact, PointOf, point-of, fact, order-fact}
use Rattle.reader.proofs.PartsSoFar.{SetAt, none-count}
use Rattle.reader.proofs.AcceptedSoFar.{AcceptedSoFar}
use Rattle.reader.proofs.ReadModels.{reachable-stop}

-- ---- any set so far

-- the new point is the record's
new-point-at : (set : Set) (l : Layout) (body : List ℕ) → length set.points ≡ 96 → set.count < 16 → (i : ℕ) → i < 6 → new_point set (with_point set l body) i ≡ entry_at body l.first i
unfolding with_point six_at
new-point-at set l body e few i h =
    matrix-put_row-same set.points set.count (six_at body l.first) (omega arith) i h ∙ get_or-tabulate 6 (entry_at body l.first) i (pos 0) h

module _ (base place n : ℕ) (set : Set) (l : Layout) (body : List ℕ) (s : SetAt base place n set) (of : PointOf base place l) (some : 1 ≤ set.count) where
  -- before its first point a set has none
  begun : place < base → ⊥
  begun h = omega (arith, none-count s h, some)

  -- the point before is one of the same shape
  alike : (p : Option Point) → point_may base place p ≡ true → shape_of p ≡ set.shape
  alike None m = let z : ◌≡◌ {A = ℕ} 0 1 = cc in absurd (omega arith)
  alike (Some Lower) m = absurd (begun (ltb-true place base m))
  alike (Some Upper) m = sym (s.box (eqb-true place base m)).0
  alike (Some Centre) m = absurd (begun (ltb-true place base m))
  alike (Some Generator) m =
      let both = and-true (leb (base + 2) place) (leb place (base + 3)) m in
      sym (s.zonotope (leb-true (base + 2) place both.0) (leb-true place (base + 3) both.1)).0
  alike (Some Vertex) m = sym (s.vertices (eqb-true place (base + 4) (or-false (ltb place base) _ m (le-ltb place base (elim (dec_lt place base) [ yes h ↦ absurd (begun h) | no g ↦ omega (arith, g) ])))))

  one-more-at : OneMore set (with_point set l body)
  unfolding with_point
  one-more-at =
      record {
        shape_is = alike l.point of.may;
        count-is = refl;
        points-are = λ k i h m. matrix-put_row-other set.points set.count (six_at body l.first) k i m (λ e. omega arith);
      }

-- ---- the sets at a place that reading comes to

module _ (file : List ℕ) (turns kind : ℕ) (body : List ℕ) where
  abbrev s : State
  s = state_after file turns

  so_far : AcceptedSoFar s
  so_far = (reachable-stop file turns).so_far

  abbrev l : Layout
  l = layout_of kind

  fact_of : (p : Part) → part_of kind ≡ p → kind_number s kind ≡ 0 → (fact p s.place l ≡ true) × (count_of p s < 16)
  fact_of p e may =
      let both = kind_number-zero s kind may in
      (subst (λ (q : Part). fact q s.place l ≡ true) e (order-fact s.place kind both.0), count-lt s l both.1 (most-le kind) e)

  -- Sets 16: the record gives its set one point more.
  pub one_more : (input : Bool) → PointAt file turns input kind → OneMore (set_before file turns input) (set_with file turns input kind body)
  unfolding fact
  one_more false p =
      one-more-at initial_place s.place s.model.n s.model.initial l body so_far.initial
      (point-of initial_place s.place l (and-true (point_fact initial_place s.place l) _ (fact_of Initial p.part p.allowed).0).0) p.some
  one_more true p =
      one-more-at input_place s.place s.model.n s.model.input l body so_far.input
      (point-of input_place s.place l (and-true (point_fact input_place s.place l) _ (fact_of Input p.part p.allowed).0).0) p.some

  -- File 3: the new point is the one in the body.
  pub new-point : (input : Bool) → PointAt file turns input kind → (i : ℕ) → i < 6 → new_point (set_before file turns input) (set_with file turns input kind body) i ≡ entry_at body l.first i
  new-point false p i h = new-point-at s.model.initial l body so_far.initial.held.length-is (fact_of Initial p.part p.allowed).1 i h
  new-point true p i h = new-point-at s.model.input l body so_far.input.held.length-is (fact_of Input p.part p.allowed).1 i h
