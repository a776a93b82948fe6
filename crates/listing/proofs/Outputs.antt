-- Texts put into an output: where there is room for a text, it is put; and so behind another text. Assumes nothing.
use mathlib.Core.Path.{◌≡◌, ◌∙◌}
use mathlib.Core.List.{List, ◌++◌}
use Prim.Native.Nat.{ℕ, ◌+◌, ◌≤◌}
use lib.ListN.{length}
use Rattle.text.specs.declared.output.Output.{Output}
use Rattle.text.specs.Output.{PutNext, PutsNext}
use Rattle.text.proofs.Putting.{put-most, puts-is, puts_then}

module _ {m : ℕ} {t : List ℕ} {a b : Output} where
  pub next-most : (n : ℕ) → m ≤ n → PutNext m t a b → PutNext n t a b
  next-most n h p = record { same = p.same; put = put-most n h p.put }

  pub next_fits : PutsNext m t a b → a.at + m ≤ length a.bytes.now → PutNext m t a b
  next_fits p h = record { same = p.same; put = p.puts.fits h }

  pub nexts-is : (u : List ℕ) → t ≡ u → PutsNext m t a b → PutsNext m u a b
  nexts-is u e p = record { same = p.same; puts = puts-is u e p.puts }

  -- a text behind another, where there is room for both
  pub nexts_then : {n : ℕ} {u : List ℕ} {c : Output} → PutNext m t a b → PutsNext n u b c → a.at + (m + n) ≤ length a.bytes.now → PutNext (m + n) (t ++ u) a c
  nexts_then p q h = record { same = q.same ∙ p.same; put = puts_then p.put q.puts h }
