-- `text::put_decimal` meets its contract: digit after digit is put in front of those that stand there, until there are as many as the
-- number has. Assumes nothing.
use Rattle.integers.proofs.Basics.{◌≡◌, sym, ap, ◌∙◌, ℕ, suc, ◌+◌, ◌-◌, ◌≤◌, arith, rules, length, set}
use mathlib.Core.List.{List, [], ◌∷◌}
use Prim.Native.Nat.{◌%◌}
use Rattle.text.specs.Text.{digit}
use Rattle.text.specs.Put.{splice}
use Rattle.text.proofs.Putting.{splice-before, splice-none, puts-fits}
use Rattle.text.proofs.Decimals.{digits-none, digits_more, digits-all, length-decimal}
use Rattle.text.proofs.put_decimal.Goals as goal

-- the end, from `places`
module _ (c : goal.After-places) where
  inside : c.args.at + c.places.result ≤ length c.args.out.now
  inside = omega (arith, c.full.ensures.enough c.if-full.false, c.places.ensures, length-decimal c.args.n)

pub overflow_add-end : goal.overflow_add-end
overflow_add-end c = search (rules, inside c)

pub loop-i-init : goal.loop-i-init
loop-i-init c =
    record { t = []; digits = digits-none c.args.n; here = omega arith; from = omega arith; text = sym (splice-none c.args.out.now (c.args.at + c.places.result)) }

pub bounds-out-i : goal.bounds-out-i
bounds-out-i c = omega (arith, c.full.ensures.enough c.if-full.false, c.places.ensures, length-decimal c.args.n)

pub loop-i-preserved : goal.loop-i-preserved
loop-i-preserved c =
    let so = c.loop-i.invariant in
    let i = c.loop-i.i - 1 in
    let this = digit (c.loop-i.rest % 10) in
    let next : c.loop-i.i ≡ suc i = omega arith in
    record {
      t = this ∷ so.t;
      digits = digits_more c.args.n c.loop-i.rest so.t (omega (arith, so.here, c.places.ensures)) so.digits;
      here = omega (arith, so.here);
      from = omega arith;
      text = ap (λ (x : List ℕ). set x i this) (so.text ∙ ap (λ (k : ℕ). splice c.args.out.now k so.t) next) ∙ splice-before c.args.out.now so.t i this (omega (arith, c.full.ensures.enough c.if-full.false, c.places.ensures, length-decimal c.args.n));
    }

pub returns : goal.returns
returns c =
    let so = c.loop-i.invariant in
    let first : c.loop-i.i ≡ c.args.at = omega (arith, so.from) in
    let all = digits-all c.args.n c.loop-i.rest so.t (omega (arith, so.here, c.places.ensures)) so.digits in
    puts-fits (c.full.ensures.enough c.if-full.false)
    record {
      end = ap (λ (k : ℕ). c.args.at + k) c.places.ensures;
      small = length-decimal c.args.n;
      room = omega (arith, c.full.ensures.enough c.if-full.false, c.places.ensures, length-decimal c.args.n);
      text = so.text ∙ ap (λ (k : ℕ). splice c.args.out.now k so.t) first ∙ ap (splice c.args.out.now c.args.at) (sym all);
    }
