-- How many of each an accepted model has, and that what is written in one byte fits it. Assumes nothing.
use mathlib.Core.Path.{◌≡◌}
use mathlib.Core.Bool.{Bool, true, false, cond}
use Prim.Native.Nat.{ℕ, ◌≤◌}
use native.Mathlib.Omega.{arith}
use Rattle.limits.specs.Limits.{all_zero}
use Rattle.reachability.specs.Limits.{accepted}
use Rattle.reachability.specs.declared.model.Model.{Model}
use Rattle.reachability.proofs.model.Facts.{model-facts}
use Rattle.writer.specs.Writing.{is_zero_box, drift_count, input_count}
use Rattle.writer.specs.Inner.{Small}

pub record Counts (m : Model) : Type 0 where
  pub n : m.n ≤ 6
  pub drift : drift_count m.drift ≤ 1
  pub initial : m.initial.count ≤ 16
  pub input : input_count m.input ≤ 16
  pub directions : m.questions.directions ≤ 16
  pub guards : m.questions.guards ≤ 16
  pub watched : Small m.questions.guards m.questions.watched

one-or-none : (b : Bool) → cond b 0 1 ≤ 1
one-or-none true = omega arith
one-or-none false = omega arith

all-or-none : (b : Bool) {k : ℕ} → k ≤ 16 → cond b 0 k ≤ 16
all-or-none true h = omega arith
all-or-none false h = h

pub counts : (m : Model) → accepted m ≡ true → Counts m
counts m t =
    let facts = model-facts m t in
    record {
      n = facts.n-most;
      drift = one-or-none (all_zero m.drift 0);
      initial = facts.initial.counted.most;
      input = all-or-none (is_zero_box m.input) facts.input.counted.most;
      directions = facts.directions-most;
      guards = facts.guards-most;
      watched = λ g h. omega (arith, facts.watches g h, facts.directions-most);
    }
