-- What the order of records tells of the place where a kind may stand: one test of every pair of `order`, which antt computes.
-- Assumes nothing.
use mathlib.Core.Path.{◌≡◌, refl, sym, ap, ◌∙◌, ap₂}
use mathlib.Core.Bool.{Bool, true, false, ◌&&◌, ◌||◌}
use mathlib.Core.List.{List, ◌∷◌, []}
use Prim.Native.Nat.{ℕ, ◌+◌, ◌≤◌}
use native.Mathlib.Omega.{arith}
use borrow.Author.Tests.{ne_eqb, eqb-true, le-leb, lt-leb, leb-true}
use lib.Dec.{eqb, leb, ltb}
use Rattle.std.specs.Prelude.{Option, Some, None}
use Rattle.integers.proofs.Booleans.{and-true, or-true}
use Rattle.records.specs.declared.kinds.Part.{Part}
use Rattle.records.specs.declared.kinds.Part.TheVariants.{Head, Row, Drift, Initial, Input, Direction, Guard, End}
use Rattle.records.specs.declared.kinds.Layout.{Layout}
use Rattle.records.specs.declared.kinds.Point.{Point}
use Rattle.records.specs.declared.kinds.Point.TheVariants.{Lower, Upper, Centre, Generator, Vertex}
use Rattle.records.specs.Places.{start_place, rows_place, matrix_place, drift_place, initial_place, input_place, direction_place, guard_place}
use Rattle.records.specs.Kinds.{layout_of, part_of}
use Rattle.records.specs.Order.{order, listed, may_follow}

-- neither of two tests
never : (a b : Bool) → a ≡ false → b ≡ false → a || b ≡ true → ⊥
never a b e f t = let z : ◌≡◌ {A = ℕ} 0 1 = cc (ap₂ ◌||◌ e f) in omega arith

-- ---- what every pair passes holds where a kind may stand

abbrev pub every : (ℕ → ℕ → Bool) → List (ℕ × ℕ) → Bool
every p [] = true
every p (e ∷ es) = p e.0 e.1 && every p es

or_cases : (a b : Bool) → a || b ≡ true → (C : Type 0) → (a ≡ true → C) → (b ≡ true → C) → C
or_cases true b e C f g = f refl
or_cases false b e C f g = g e

listed_at : (p : ℕ → ℕ → Bool) (place kind : ℕ) (es : List (ℕ × ℕ)) → every p es ≡ true → listed place kind es ≡ true → p place kind ≡ true
listed_at p place kind [] t l = let z : ◌≡◌ {A = ℕ} 0 1 = cc in absurd (omega arith)
listed_at p place kind (e ∷ es) t l =
    let both = and-true (p e.0 e.1) (every p es) t in
    or_cases (eqb e.0 place && eqb e.1 kind) (listed place kind es) l (p place kind ≡ true) (λ here. found (and-true (eqb e.0 place) (eqb e.1 kind) here) both.0) (λ rest. listed_at p place kind es both.1 rest)
  where
    found : (eqb e.0 place ≡ true) × (eqb e.1 kind ≡ true) → p e.0 e.1 ≡ true → p place kind ≡ true
    found q h = sym (ap (λ (a : ℕ). p a kind) (eqb-true e.0 place q.0)) ∙ sym (ap (λ (b : ℕ). p e.0 b) (eqb-true e.1 kind q.1)) ∙ h

pub order-at : (p : ℕ → ℕ → Bool) → every p order ≡ true → (place kind : ℕ) → may_follow place kind ≡ true → p place kind ≡ true
unfolding may_follow
order-at p t place kind m = listed_at p place kind order t m

-- ---- the facts, part by part

-- No record leads back.
pub order-rises : (place kind : ℕ) → may_follow place kind ≡ true → place ≤ (layout_of kind).place
unfolding layout_of
order-rises place kind m = leb-true place (layout_of kind).place (order-at (λ a b. leb a (layout_of b).place) refl place kind m)

-- The set whose places begin at `base` is whole: behind its upper corner, a generator or a vertex, and behind it.
abbrev pub is_done : ℕ → ℕ → Bool
is_done base place = eqb place (base + 1) || leb (base + 3) place

pub is_done-late : (base place : ℕ) → base + 3 ≤ place → is_done base place ≡ true
is_done-late base place h = ap (λ (b : Bool). eqb place (base + 1) || b) (le-leb (base + 3) place h) ∙ or-true (eqb place (base + 1))

pub is_done-early : (base place : ℕ) → place ≤ base → is_done base place ≡ true → ⊥
is_done-early base place h t = never (eqb place (base + 1)) (leb (base + 3) place) (ne_eqb place (base + 1) (λ e. omega arith)) (lt-leb (base + 3) place (omega arith)) t

pub is_done-centre : (base place : ℕ) → place ≡ base + 2 → is_done base place ≡ true → ⊥
is_done-centre base place h t = never (eqb place (base + 1)) (leb (base + 3) place) (ne_eqb place (base + 1) (λ e. omega arith)) (lt-leb (base + 3) place (omega arith)) t

-- The place behind a point of that set.
abbrev pub point_place : ℕ → Option Point → ℕ
point_place base None = base
point_place base (Some Lower) = base
point_place base (Some Upper) = base + 1
point_place base (Some Centre) = base + 2
point_place base (Some Generator) = base + 3
point_place base (Some Vertex) = base + 4

-- Where it may stand: an upper corner behind the lower one, a generator behind the centre or a generator, a vertex behind a vertex; and
-- a lower corner, a centre and a vertex where no point was before.
abbrev pub point_may : ℕ → ℕ → Option Point → Bool
point_may base place None = false
point_may base place (Some Lower) = ltb place base
point_may base place (Some Upper) = eqb place base
point_may base place (Some Centre) = ltb place base
point_may base place (Some Generator) = leb (base + 2) place && leb place (base + 3)
point_may base place (Some Vertex) = ltb place base || eqb place (base + 4)

-- How many points the set may have with it.
abbrev pub point_most : Option Point → ℕ
point_most None = 16
point_most (Some Lower) = 16
point_most (Some Upper) = 16
point_most (Some Centre) = 16
point_most (Some Generator) = 9
point_most (Some Vertex) = 16

-- Entries of 4 bytes.
abbrev pub is_plain : Layout → Bool
is_plain l = eqb l.width 4

abbrev pub point_fact : ℕ → ℕ → Layout → Bool
point_fact base place l =
    (eqb l.place (point_place base l.point) && leb l.most (point_most l.point)) && (is_plain l && point_may base place l.point)

-- A kind of a point of that set, where it may stand.
pub record PointOf (base place : ℕ) (l : Layout) : Type 0 where
  pub place_is : l.place ≡ point_place base l.point
  pub most-le : l.most ≤ point_most l.point
  pub plain : l.width ≡ 4
  pub may : point_may base place l.point ≡ true

pub point-of : (base place : ℕ) (l : Layout) → point_fact base place l ≡ true → PointOf base place l
point-of base place l t =
    let both = and-true (eqb l.place (point_place base l.point) && leb l.most (point_most l.point)) (is_plain l && point_may base place l.point) t in
    let a = and-true (eqb l.place (point_place base l.point)) (leb l.most (point_most l.point)) both.0 in
    let b = and-true (is_plain l) (point_may base place l.point) both.1 in
    record {
      place_is = eqb-true l.place (point_place base l.point) a.0;
      most-le = leb-true l.most (point_most l.point) a.1;
      plain = eqb-true l.width 4 b.0;
      may = b.1;
    }

point-range : (base : ℕ) (p : Option Point) → (base ≤ point_place base p) × (point_place base p ≤ base + 4)
point-range base None = (omega arith, omega arith)
point-range base (Some Lower) = (omega arith, omega arith)
point-range base (Some Upper) = (omega arith, omega arith)
point-range base (Some Centre) = (omega arith, omega arith)
point-range base (Some Generator) = (omega arith, omega arith)
point-range base (Some Vertex) = (omega arith, omega arith)

pub point-low : {base place : ℕ} {l : Layout} → PointOf base place l → base ≤ l.place
point-low {base} {place} {l} p = omega (arith, p.place_is, (point-range base l.point).0)

pub point-high : {base place : ℕ} {l : Layout} → PointOf base place l → l.place ≤ base + 4
point-high {base} {place} {l} p = omega (arith, p.place_is, (point-range base l.point).1)

unfoldable pub fact : Part → ℕ → Layout → Bool
fact Head place l = eqb place start_place && eqb l.place rows_place
fact Row place l = eqb place rows_place && eqb l.place matrix_place
fact Drift place l = eqb place matrix_place && (eqb l.place drift_place && is_plain l)
fact Initial place l = point_fact initial_place place l && (leb matrix_place place && ltb place input_place)
fact Input place l = point_fact input_place place l && (is_done initial_place place && leb matrix_place place)
fact Direction place l = (eqb l.place direction_place && is_plain l) && ((is_done initial_place place && leb matrix_place place) && (ltb place input_place || is_done input_place place))
fact Guard place l = eqb l.place guard_place && leb direction_place place
fact End place l = leb direction_place place

pub order-fact : (place kind : ℕ) → may_follow place kind ≡ true → fact (part_of kind) place (layout_of kind) ≡ true
unfolding fact layout_of
order-fact place kind m = order-at (λ a b. fact (part_of b) a (layout_of b)) refl place kind m
