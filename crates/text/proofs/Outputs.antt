-- Texts written one behind the other into an output: what one function put and what the next put behind it are one text. Assumes
-- nothing.
use mathlib.Core.Path.{◌≡◌, ◌∙◌}
use mathlib.Core.List.{List, ◌++◌}
use Prim.Native.Nat.{ℕ, ◌+◌, ◌*◌, ◌≤◌}
use lib.ListN.{length}
use Rattle.text.specs.declared.output.Output.{Output}
use Rattle.text.specs.Text.{each}
use Rattle.text.specs.Output.{PutNext, PutsNext}
use Rattle.text.proofs.Putting.{put_then, put_is, puts_whole}
use Rattle.text.proofs.Each.{put-each}

module _ {m : ℕ} {t : List ℕ} {a b : Output} where
  pub next_is : (u : List ℕ) → t ≡ u → PutNext m t a b → PutNext m u a b
  next_is u e p = record { same = p.same; put = put_is u e p.put }

  -- one text behind the other
  pub next_then : {n : ℕ} {u : List ℕ} {c : Output} → PutNext m t a b → PutNext n u b c → PutNext (m + n) (t ++ u) a c
  next_then p q = record { same = q.same ∙ p.same; put = put_then p.put q.put }

-- as a loop puts them
pub next-each : (size k : ℕ) (text : ℕ → List ℕ) {a b c : Output} → PutNext (size * k) (each k text) a b → PutNext size (text k) b c → PutNext (size * (k + 1)) (each (k + 1) text) a c
next-each size k text p q = record { same = q.same ∙ p.same; put = put-each size k text p.put q.put }

-- a text of known bytes and length, where there is room for it
pub next_whole : {w : List ℕ} {a b : Output} (t : List ℕ) (k : ℕ) → w ≡ t → length t ≡ k → a.at + k ≤ length a.bytes.now → PutsNext (length w) w a b → PutNext k t a b
next_whole t k same long room p = record { same = p.same; put = puts_whole t k same long room p.puts }
