-- `coefficients::rounded`: the product counts whole halves of 65,536 times x. An even number of them leaves less than a half over, an
-- odd one a half or more, and a half alone where the product is no more than those halves. Assumes nothing.
use Rattle.integers.proofs.Basics.{◌≡◌, sym, ap, subst, ◌∙◌, ℕ, ◌*◌, ◌+◌, ◌≤◌, arith, pos, w32, to_z, SFits, true, false}
use Rattle.std.proofs.Common.{◌/◌, ◌%◌, ◌^◌, T, ltb, le→leb, ltb-false, ltb-true}
use mir.Facts.{to_z_pos}
use lib.Ieee.{Float, binary64, fits, lt, of_int, in_float, to_unsigned}
use lib.Ieee.Positive.{num, den, den_pos}
use Rattle.stepping.specs.Limits.{matrix_unit}
use Rattle.coefficients.specs.Inner.{InRange, magnitude_entry}
use Rattle.integers.proofs.NearestEven.{Halves, nearest_even-halves}
use Rattle.coefficients.proofs.Fitting.{Counted, counted, halves_of, scaled_of}
use Rattle.coefficients.proofs.rounded.Goals as goal

-- the halves that were counted, and what they make
record Of (x : Float) (halves : ℕ) : Type 0 where
  few : halves ≤ 262144
  laws : Halves (matrix_unit * num x) (den x) halves
  compared : lt (of_int binary64 (pos halves)) (scaled_of x) ≡ ltb (halves * den x) (2 * (matrix_unit * num x))

of : (x : Float) (halves : ℕ) → Counted x → halves ≡ halves_of x → Of x halves
of x halves n is =
    subst (Of x) (sym is)
    (record { few = n.few; laws = nearest_even-halves (matrix_unit * num x) (den x) (den_pos x); compared = n.compared })

-- that x is stored as it is
counted-x : (x : Float) → fits binary64 x ≡ true → InRange x → Counted x
counted-x x e r = counted x (subst T (sym e) tt) r

pub truncating_f64_to_u64-halves-requires-clause-lower_bound : goal.truncating_f64_to_u64-halves-requires-clause-lower_bound
truncating_f64_to_u64-halves-requires-clause-lower_bound c = (counted-x c.args.x c.well_formed.0.1 c.requires).cut.above

pub truncating_f64_to_u64-halves-requires-clause-upper_bound : goal.truncating_f64_to_u64-halves-requires-clause-upper_bound
truncating_f64_to_u64-halves-requires-clause-upper_bound c = (counted-x c.args.x c.well_formed.0.1 c.requires).cut.below

known : (x : Float) → fits binary64 x ≡ true → InRange x → (halves : ℕ) → halves ≡ to_unsigned 64 (scaled_of x) → Of x halves
known x fit range halves is = let n = counted-x x fit range in of x halves n (is ∙ n.cut.is)

module _ {x : Float} {halves : ℕ} (n : Of x halves) where
  fits-small : (k : ℕ) → k ≤ halves / 2 + 1 → SFits w32 (pos k)
  fits-small k h = record { sfits = omega (arith, n.few) }

  -- where k is the entry
  read : (k : ℕ) → k ≤ halves / 2 + 1 → magnitude_entry x ≡ pos k → to_z w32 k ≡ magnitude_entry x
  read k h e = to_z_pos w32 (omega (arith, n.few)) ∙ sym e

  -- of an odd number of halves the product may be more
  odd-more : halves % 2 ≡ 1 → lt (of_int binary64 (pos halves)) (scaled_of x) ≡ true → magnitude_entry x ≡ pos (halves / 2 + 1)
  odd-more odd t = ap pos (n.laws.more odd (ltb-true _ _ (sym n.compared ∙ t)))

  odd-tied : halves % 2 ≡ 1 → lt (of_int binary64 (pos halves)) (scaled_of x) ≡ false → magnitude_entry x ≡ pos (halves / 2 + halves / 2 % 2)
  odd-tied odd t = ap pos (n.laws.tied odd (ltb-false _ _ (sym n.compared ∙ t)))

pub overflow_cast-result : goal.overflow_cast-result
overflow_cast-result c = fits-small (known c.args.x c.well_formed.0.1 c.requires _ c.truncating_f64_to_u64-halves.ensures) _ (omega arith)

pub returns-then-halves-eq0 : goal.returns-then-halves-eq0
returns-then-halves-eq0 c =
    let n = known c.args.x c.well_formed.0.1 c.requires _ c.truncating_f64_to_u64-halves.ensures in
    read n _ (omega arith) (ap pos (n.laws.even c.if-halves-eq0.true))

pub int_to_float-halves : goal.int_to_float-halves
unfolding in_float
int_to_float-halves c = le→leb _ (2 ^ 53) (omega (arith, (known c.args.x c.well_formed.0.1 c.requires _ c.truncating_f64_to_u64-halves.ensures).few))

pub overflow_cast-result-then-halves-scaled : goal.overflow_cast-result-then-halves-scaled
overflow_cast-result-then-halves-scaled c = fits-small (known c.args.x c.well_formed.0.1 c.requires _ c.truncating_f64_to_u64-halves.ensures) _ (omega arith)

pub returns-then-halves-scaled : goal.returns-then-halves-scaled
returns-then-halves-scaled c =
    let n = known c.args.x c.well_formed.0.1 c.requires _ c.truncating_f64_to_u64-halves.ensures in
    read n _ (omega arith) (odd-more n (omega (arith, c.if-halves-eq0.false)) c.if-halves-scaled.true)

pub overflow_cast-result-2 : goal.overflow_cast-result-2
overflow_cast-result-2 c = fits-small (known c.args.x c.well_formed.0.1 c.requires _ c.truncating_f64_to_u64-halves.ensures) _ (omega arith)

pub returns : goal.returns
returns c =
    let n = known c.args.x c.well_formed.0.1 c.requires _ c.truncating_f64_to_u64-halves.ensures in
    read n _ (omega arith) (odd-tied n (omega (arith, c.if-halves-eq0.false)) c.if-halves-scaled.false)
