-- `reachability::model::accepts`: n has passed with the matrix, so that it fails no later test. Assumes nothing.
use Rattle.integers.proofs.Basics.{◌≡◌, refl, sym, ◌∙◌, Bool, true, false}
use mathlib.Core.Bool.{◌&&◌}
use Rattle.integers.proofs.Booleans.{and-skip, and-stop}
use Rattle.stepping.specs.Refusals.{dimension_ok}
use Rattle.limits.specs.Limits.{frame_ok}
use Rattle.reachability.specs.Motion.{motion_ok}
use Rattle.reachability.specs.Limits.{accepted, set_accepted, drift_accepted, questions_accepted}
use Rattle.reachability.specs.declared.model.Model.{Model}
use Rattle.reachability.proofs.motion.Laws.{motion-facts}
use Rattle.reachability.proofs.model.accepts.Goals as goal
use Rattle.reachability.proofs.model.accepts.Goals.{then-frame_ok, else-frame_ok, then-ok, else-ok}

-- the tests as the code joins them, the first of which tells that n is in its range, d
joined : (f d s t u q : Bool) → (f ≡ true → d ≡ true) → ((f && (d && s)) && (d && (t && u))) && q ≡ f && (s && (t && (u && q)))
joined false d s t u q h = refl
joined true false s t u q h = absurd (let e = h refl in cc)
joined true true false t u q h = refl
joined true true true false u q h = refl
joined true true true true u q h = refl

module _ (m : Model) where
  abbrev frame : Bool
  frame = frame_ok m.n m.steps m.motion.matrix

  abbrev initial : Bool
  initial = dimension_ok m.n && set_accepted m.n m.initial

  abbrev input : Bool
  input = dimension_ok m.n && (set_accepted m.n m.input && drift_accepted m.n m.input m.drift)

  accepted-is : ((frame && initial) && input) && questions_accepted m.n m.questions ≡ accepted m
  unfolding motion_ok
  accepted-is =
      joined frame (dimension_ok m.n) (set_accepted m.n m.initial) (set_accepted m.n m.input) (drift_accepted m.n m.input m.drift) (questions_accepted m.n m.questions)
      (λ e. (motion-facts m.n m.steps m.motion e).dimension)

pub returns-then-enters : goal.returns-then-enters
returns-then-enters c =
    let m = c.args.model in
    let first : c.if-frame_ok.value ≡ frame m && initial m = elim c.if-frame_ok.branch [ then-frame_ok w ↦ w.value-is ∙ w.ok.ensures ∙ sym (and-skip _ (sym c.frame_ok.ensures ∙ w.if-frame_ok.true)) | else-frame_ok w ↦ w.value-is ∙ w.if-frame_ok.false ∙ sym (and-stop _ (sym c.frame_ok.ensures ∙ w.if-frame_ok.false)) ] in
    let second : c.if-ok.value ≡ (frame m && initial m) && input m = elim c.if-ok.branch [ then-ok w ↦ w.value-is ∙ w.enters.ensures ∙ sym (and-skip _ (sym first ∙ w.if-ok.true)) | else-ok w ↦ w.value-is ∙ w.if-ok.false ∙ sym (and-stop _ (sym first ∙ w.if-ok.false)) ] in
    c.ok-then-enters.ensures ∙ sym (and-skip _ (sym second ∙ c.if-enters.true)) ∙ accepted-is m

pub returns-else-enters : goal.returns-else-enters
returns-else-enters c =
    let m = c.args.model in
    let first : c.if-frame_ok.value ≡ frame m && initial m = elim c.if-frame_ok.branch [ then-frame_ok w ↦ w.value-is ∙ w.ok.ensures ∙ sym (and-skip _ (sym c.frame_ok.ensures ∙ w.if-frame_ok.true)) | else-frame_ok w ↦ w.value-is ∙ w.if-frame_ok.false ∙ sym (and-stop _ (sym c.frame_ok.ensures ∙ w.if-frame_ok.false)) ] in
    let second : c.if-ok.value ≡ (frame m && initial m) && input m = elim c.if-ok.branch [ then-ok w ↦ w.value-is ∙ w.enters.ensures ∙ sym (and-skip _ (sym first ∙ w.if-ok.true)) | else-ok w ↦ w.value-is ∙ w.if-ok.false ∙ sym (and-stop _ (sym first ∙ w.if-ok.false)) ] in
    c.if-enters.false ∙ sym (and-stop _ (sym second ∙ c.if-enters.false)) ∙ accepted-is m
