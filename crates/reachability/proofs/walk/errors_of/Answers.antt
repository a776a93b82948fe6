-- `reachability::walk::errors_of` meets its contract: a turn adds one product, and each is small. Assumes nothing.
use Rattle.std.proofs.Common.{◌≡◌, ap, ap₂, ℕ, ◌+◌, ◌*◌, ◌≤◌, pos, arith, rules}
use Rattle.integers.specs.Sums.{magnitudes}
use Rattle.integers.proofs.RunningSum.{running-start, running_more, running-done_ℕ}
use Rattle.stepping.specs.Limits.{error_limit}
use Rattle.reachability.specs.Sets.{reach_limit}
use native.Mathlib.Nat.{mul-le-mul}
use Rattle.reachability.proofs.walk.errors_of.Goals as goal

pub loop-i-init : goal.loop-i-init
loop-i-init c = running-start 6 (λ j. pos (magnitudes c.args.e.now j * magnitudes c.args.reaches.now j)) (error_limit * reach_limit)

pub loop-i-preserved : goal.loop-i-preserved
loop-i-preserved c =
    let small : magnitudes c.args.e.now c.loop-i.i * magnitudes c.args.reaches.now c.loop-i.i ≤ error_limit * reach_limit = mul-le-mul (c.requires.small c.loop-i.i c.loop-i-test.true) (c.requires.reach-small c.loop-i.i c.loop-i-test.true) in
    let one : c.unsigned_abs.result ≡ magnitudes c.args.e.now c.loop-i.i = search rules in
    let two : c.unsigned_abs-in-loop-i.result ≡ magnitudes c.args.reaches.now c.loop-i.i = search rules in
    running_more c.loop-i.invariant c.loop-i-test.true small (ap (λ (k : ℕ). pos (c.loop-i.sum + k)) (ap₂ ◌*◌ one two))

pub returns : goal.returns
returns c = running-done_ℕ c.loop-i.invariant (omega arith)
