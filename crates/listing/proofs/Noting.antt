-- Notes on guards: one more guard, one more direction, all of them. Assumes nothing.
use mathlib.Core.Path.{◌≡◌, sym, subst, ◌∙◌}
use Prim.Native.Nat.{ℕ, ◌+◌, ◌≤◌, ◌<◌}
use mathlib.Core.List.{List}
use native.Mathlib.Omega.{arith}
use native.Mathlib.Nat.{eq-or-lt_of_le}
use mathlib.Core.Bool.{true}
use mathlib.Core.Logic.{◌⊎◌, inl, inr}
use borrow.Author.Count.{below_more}
use lib.ListN.{get_or, set, length-set}
use lib.Seq.{get_or-set_same, get_or-set_other}
use Rattle.reachability.specs.Limits.{accepted}
use Rattle.reachability.specs.declared.model.Model.{Model}
use Rattle.judge.specs.Answers.{Judged}
use Rattle.reachability.proofs.model.Facts.{model-facts}
use Rattle.listing.specs.Listing.{judge_of}
use Rattle.listing.specs.Inner.{beyond, Notes, Noted, AllNoted}

module _ (m : Model) where
  module _ (d : ℕ) (xs₀ : List Judged) where
    -- a guard of another direction
    pub notes-pass : (g : ℕ) (xs : List Judged) → (get_or m.questions.watched g 0 ≡ d → ⊥) → Notes m d g xs₀ xs → Notes m d (g + 1) xs₀ xs
    notes-pass g xs f n =
        record { long = n.long; here = below_more (λ j. get_or m.questions.watched j 0 ≡ d → get_or xs j beyond ≡ judge_of m j) g n.here (λ e. absurd (f e)); other = n.other }

    -- a guard of this direction
    pub notes-more : (g : ℕ) (xs : List Judged) (x : Judged) → g < 16 → get_or m.questions.watched g 0 ≡ d → x ≡ judge_of m g → Notes m d g xs₀ xs → Notes m d (g + 1) xs₀ (set xs g x)
    notes-more g xs x l w e n =
        record {
          long = length-set xs g x ∙ n.long;
          here =
              below_more (λ j. get_or m.questions.watched j 0 ≡ d → get_or (set xs g x) j beyond ≡ judge_of m j) g
              (λ j k f. get_or-set_other xs g j x beyond (λ z. before j k z) ∙ n.here j k f)
              (λ f. get_or-set_same xs g x beyond (subst (λ (y : ℕ). g < y) (sym n.long) l) ∙ e);
          other = λ j f. get_or-set_other xs g j x beyond (λ z. f (subst (λ (y : ℕ). get_or m.questions.watched y 0 ≡ d) (sym z) w)) ∙ n.other j f;
        }
      where
        before : (j : ℕ) → j < g → j ≡ g → ⊥
        before j k z = omega (arith, k, z)

  -- one direction more
  pub noted_more : (d : ℕ) (xs₀ xs : List Judged) → Noted m d xs₀ → Notes m d m.questions.guards xs₀ xs → Noted m (d + 1) xs
  noted_more d xs₀ xs n o = record { long = o.long; is = λ g l w. cases g l (eq-or-lt_of_le (within (get_or m.questions.watched g 0) w)) }
    where
      within : (k : ℕ) → k < d + 1 → k ≤ d
      within k h = omega (arith, h)

      apart : (k : ℕ) → k < d → k ≡ d → ⊥
      apart k h e = omega (arith, h, e)

      cases : (g : ℕ) → g < m.questions.guards → (get_or m.questions.watched g 0 ≡ d) ⊎ (get_or m.questions.watched g 0 < d) → get_or xs g beyond ≡ judge_of m g
      cases g l (inl e) = o.here g l e
      cases g l (inr h) = o.other g (apart (get_or m.questions.watched g 0) h) ∙ n.is g l h

  -- every guard watches a direction
  pub noted-all : (xs : List Judged) → accepted m ≡ true → Noted m m.questions.directions xs → AllNoted m xs
  noted-all xs ok n = record { guards-most = (model-facts m ok).guards-most; is = λ g l. n.is g l ((model-facts m ok).watches g l) }
