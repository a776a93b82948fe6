-- Figures 1 to 12, 16 to 22, 24 to 27 and 30 to 32, the marked cases (`specs.Cases`), hold, each by computation. Assumes nothing.
use mathlib.Core.Path.{◌≡◌, refl, sym, ap, ◌∙◌}
use mathlib.Core.Bool.{Bool, true, cond, ◌&&◌}
use mathlib.Core.List.{List}
use Rattle.std.specs.Prelude.{None, Some}
use Prim.Native.Nat.{ℕ, ◌+◌, ◌*◌}
use native.Mathlib.Omega.{arith}
use lib.ListN.{take}
use lib.Seq.{get_or-take}
use lib.IntN.{ℤ, pos}
use Rattle.integers.specs.Sums.{vector, sum, sum_ℕ, max_ℕ, all_below, tabulate}
use Rattle.stepping.specs.Recurrence.{greatest}
use Rattle.stepping.specs.Refusals.{dimension_ok}
use Rattle.reachability.specs.Sets.{largest, set_ok, ReachAnswer}
use Rattle.reachability.specs.OneMore.{OneMore, reach_at}
use Rattle.reachability.specs.Motion.{matrix_at, motion_ok}
use Rattle.reachability.specs.Recurrence.{walk, first_place}
use Rattle.reachability.specs.declared.sets.Set.{Set}
use Rattle.judge.specs.Cases.{none, ◌and◌, AllHold, cases}

-- What `reach` answers of a set that breaks no rule.
reached : {n : ℕ} {s : Set} {xs : List ℤ} → dimension_ok n && set_ok n s.shape s.count s.points ≡ true → xs ≡ tabulate 6 (λ i. pos (reach_at s i)) → ReachAnswer n s (Some xs)
reached {n} {s} ok e =
    record {
      answer = ap Some e ∙ sym (ap (λ (b : Bool). cond b (Some (tabulate 6 (λ i. pos (reach_at s i)))) None) ok);
      number = sym (ap (λ (b : Bool). cond b 0 11) ok);
    }

-- Two sets that begin with the same points.
grown : {s t : Set} → t.shape ≡ s.shape → t.count ≡ s.count + 1 → take (6 * s.count) t.points ≡ take (6 * s.count) s.points → OneMore s t
grown {s} {t} shape count same =
    record {
      shape_is = shape;
      count-is = count;
      points-are = λ k i h l. sym (get_or-take (6 * s.count) t.points (6 * k + i) (pos 0) (omega arith)) ∙ ap (λ (xs : List ℤ). vector xs (6 * k + i)) same ∙ get_or-take (6 * s.count) s.points (6 * k + i) (pos 0) (omega arith);
    }

pub marked : AllHold cases
unfolding sum sum_ℕ max_ℕ all_below greatest largest matrix_at motion_ok walk first_place
marked =
    (refl and refl and refl and none)
    and (refl and none)
    and (refl and none)
    and (refl and refl and refl and none)
    and (refl and refl and refl and refl and refl and refl and refl and none)
    and (refl and refl and refl and refl and none)
    and (refl and refl and none)
    and (refl and refl and none)
    and (refl and (reached refl refl) and none)
    and (refl and none)
    and (refl and none)
    and (refl and refl and none)
    and (refl and refl and refl and refl and refl and none)
    and (refl and refl and refl and refl and refl and refl and none)
    and (refl and refl and refl and refl and none)
    and (refl and refl and refl and refl and none)
    and (refl and refl and refl and refl and none)
    and ((grown refl refl refl) and refl and (reached refl refl) and refl and (reached refl refl) and none)
    and ((grown refl refl refl) and refl and (reached refl refl) and refl and (reached refl refl) and none)
    and (refl and refl and refl and none)
    and (refl and refl and refl and none)
    and (refl and refl and refl and none)
    and (refl and refl and refl and refl and refl and refl and none)
    and (refl and none)
    and (refl and refl and refl and refl and refl and refl and none)
    and (refl and refl and none)
    and none
