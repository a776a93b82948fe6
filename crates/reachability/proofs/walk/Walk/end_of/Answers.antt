-- `reachability::walk::Walk::end_of` meets its contract: it is what its parts say, and every sum is inside its width. Assumes nothing.
use Rattle.integers.proofs.Basics.{◌≡◌, sym, ap, ap₂, subst, ◌∙◌, ℕ, ◌+◌, ◌*◌, ◌≤◌, arith, rules, ℤ, pos, ◌+ℤ◌, w64, SFits, to_z, of_z, to_z-of_z}
use Prim.Native.Nat.{◌/◌}
use lib.Dec.{lit≤, lit<}
use lib.IntN.{nat_abs}
use Rattle.integers.proofs.Order.{nat_abs-add}
use Rattle.integers.proofs.Machine.{read-given, sfits-of-nat_abs}
use mir.Facts.{to_z_pos}
use Rattle.stepping.specs.Recurrence.{half_up, bound_of, slack_of}
use Rattle.reachability.specs.SetsInner.{term_limit}
use Rattle.reachability.specs.WalkInner.{errors_limit, term_support, term_errors}
use Rattle.reachability.proofs.walk.Terms.{errors-small, sum_fits}
use Rattle.reachability.proofs.walk.Walk.end_of.Goals as goal

-- the supports, as they are read
supports-are : (x : ℤ) {h entered : ℤ} → to_z w64 (of_z w64 x) ≡ h → to_z w64 (of_z w64 entered) ≡ entered → nat_abs h + nat_abs entered ≤ 258 * term_limit → to_z w64 (of_z w64 (to_z w64 (of_z w64 x) +ℤ to_z w64 (of_z w64 entered))) ≡ h +ℤ entered
supports-are x {h} {entered} p q small = ap (λ (z : ℤ). to_z w64 (of_z w64 z)) (ap₂ ◌+ℤ◌ p q) ∙ to_z-of_z (sum_fits h entered small)

-- the raw bound is the supports and half of all errors, with at most 1 more: that it is 1 is settled where the bound is
module _ (h entered : ℤ) (supports : ℤ) (is : supports ≡ h +ℤ entered) (small : nat_abs h + nat_abs entered ≤ 258 * term_limit) (given more : ℕ) (given-small : given ≤ 258 * errors_limit) (few : more ≤ 1) where
  raw-is : supports +ℤ to_z w64 ((given + more) / 2) ≡ (h +ℤ entered) +ℤ pos ((given + more) / 2)
  raw-is = ap₂ ◌+ℤ◌ is (to_z_pos w64 {n = (given + more) / 2} (omega (arith, few, given-small)))

  raw-fits : SFits w64 (supports +ℤ to_z w64 ((given + more) / 2))
  raw-fits =
      subst (SFits w64) (sym raw-is)
      (sfits-of-nat_abs w64 {b = 258 * term_limit + (129 * errors_limit + 1)}
      (omega (arith, nat_abs-add (h +ℤ entered) (pos ((given + more) / 2)), nat_abs-add h entered, small, few, given-small))
      (lit< tt))

pub overflow_add-total : goal.overflow_add-total
overflow_add-total c = omega (arith, errors-small c.errors_of.ensures c.requires.terms.errors, c.requires.errors-small)

pub overflow_add-half : goal.overflow_add-half
overflow_add-half c = omega (arith, errors-small c.errors_of.ensures c.requires.terms.errors, c.requires.errors-small)

pub overflow_cast-half : goal.overflow_cast-half
overflow_cast-half c = record { sfits = omega (arith, errors-small c.errors_of.ensures c.requires.terms.errors, c.requires.errors-small) }

pub overflow_add-supports-2 : goal.overflow_add-supports-2
overflow_add-supports-2 c =
    let w = c.args.self.now in
    let s = c.args.initial.now in
    let small : nat_abs (term_support s.shape s.count s.points w.r) + nat_abs w.entered ≤ 258 * term_limit = omega (arith, c.requires.terms.support-small, c.requires.entered-small) in
    let read : to_z w64 (of_z w64 w.entered) ≡ w.entered = search rules in
    let is = supports-are c.support_of.result (read-given w64 c.support_of.result c.support_of.type_inv ∙ c.support_of.ensures) read small in
    raw-fits (term_support s.shape s.count s.points w.r) w.entered _ is small (c.errors_of.result + w.errors) _ (omega (arith, errors-small c.errors_of.ensures c.requires.terms.errors, c.requires.errors-small)) (lit≤ tt)

pub overflow_mul-half : goal.overflow_mul-half
overflow_mul-half c = omega (arith, errors-small c.errors_of.ensures c.requires.terms.errors, c.requires.errors-small)

pub returns : goal.returns
returns c =
    let w = c.args.self.now in
    let s = c.args.initial.now in
    let h : ℤ = term_support s.shape s.count s.points w.r in
    let small : nat_abs h + nat_abs w.entered ≤ 258 * term_limit = omega (arith, c.requires.terms.support-small, c.requires.entered-small) in
    let read : to_z w64 (of_z w64 w.entered) ≡ w.entered = search rules in
    let is = supports-are c.support_of.result (read-given w64 c.support_of.result c.support_of.type_inv ∙ c.support_of.ensures) read small in
    let given-small : c.errors_of.result + w.errors ≤ 258 * errors_limit = omega (arith, errors-small c.errors_of.ensures c.requires.terms.errors, c.requires.errors-small) in
    let given : c.errors_of.result + w.errors ≡ term_errors w.e c.args.reaches.now + w.errors = ap (λ (k : ℕ). k + w.errors) c.errors_of.ensures in
    let raw = to_z-of_z (raw-fits h w.entered _ is small (c.errors_of.result + w.errors) 1 given-small (lit≤ tt)) ∙ raw-is h w.entered _ is small (c.errors_of.result + w.errors) 1 given-small (lit≤ tt) ∙ ap (λ (t : ℕ). (h +ℤ w.entered) +ℤ pos (half_up t)) given in
    record {
      bound-is = c.bound_and_slack.ensures.bound-is ∙ ap bound_of raw;
      slack-is = c.bound_and_slack.ensures.slack-is ∙ ap₂ (λ (z : ℤ) (t : ℕ). pos (slack_of z (2 * half_up t))) raw given;
    }
