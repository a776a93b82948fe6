-- Routines 17: texts written one behind the other into a lent buffer, with the index of the next. Definitions only. Assumes nothing.
use Rattle.std.specs.Prelude.{◌≡◌, List, ℕ}
use Rattle.text.specs.declared.output.Output.{Output}
use Rattle.text.specs.Put.{Put, Puts}

-- The text t, of at most so many bytes, stands behind what was written before, in the same buffer.
pub record PutNext (most : ℕ) (t : List ℕ) (b c : Output) : Type 0 where
  pub same : c.bytes.ghost_name ≡ b.bytes.ghost_name
  pub put : Put most b.at t b.bytes.now c.bytes.now c.at

-- Where so many bytes are left, the text is put; else nothing is written.
pub record PutsNext (room : ℕ) (t : List ℕ) (b c : Output) : Type 0 where
  pub same : c.bytes.ghost_name ≡ b.bytes.ghost_name
  pub puts : Puts room b.at t b.bytes.now c.bytes.now c.at
