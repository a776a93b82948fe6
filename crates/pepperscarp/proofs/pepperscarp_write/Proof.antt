-- `pepperscarp::pepperscarp_write` meets its contract, by that of `rewrite`, whose figure is small. Assumes nothing.
use Rattle.integers.proofs.Basics.{◌≡◌, sym, ap, subst, ◌∙◌, ℕ, ◌<◌, rules}
use mathlib.Core.List.{List}
use Rattle.std.specs.Prelude.{Result}
use Rattle.writer.specs.declared.RewriteRefusal.{RewriteRefusal}
use Rattle.writer.specs.Answers.{rewritten_figure, Rewrites}
use Rattle.pepperscarp.specs.Packing.{rewritten_packed, figure_limit}
use Rattle.pepperscarp.specs.Replies.{WriteReply}
use Rattle.pepperscarp.proofs.Figures.{rewritten-small}
use Rattle.pepperscarp.proofs.pepperscarp_write.Statement.{statement}
use Rattle.pepperscarp.proofs.pepperscarp_write.Tie as tie

reply : (file b : List ℕ) {a : Result ℕ RewriteRefusal} {c : List ℕ} {x : ℕ} → Rewrites file b a c → x ≡ rewritten_packed a → WriteReply file b x c
reply file b {c = c} r p =
    record { answer = p ∙ ap rewritten_packed r.answer; left = subst (λ (a : Result ℕ RewriteRefusal). Rewrites file b a c) r.answer r }

rewritten-requires : tie.Need-rewritten-requires
rewritten-requires c κs =
    subst (λ (a : Result ℕ RewriteRefusal). rewritten_figure a < figure_limit) (sym c.rewrite-answer.ensures.answer) (rewritten-small _ _)

returns : tie.Need-returns
returns c = reply _ _ c.rewrite-answer.ensures c.rewritten.ensures

pub pepperscarp_write_spec : {M : Type 1} → statement M
pepperscarp_write_spec = tie.close (tie.spec (λ c κs. search rules) rewritten-requires (λ c. search rules) returns)
