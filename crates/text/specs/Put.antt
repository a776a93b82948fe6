-- Routines 17: a text written into a lent buffer, and what a function that writes one leaves and answers. Definitions only.
-- Assumes nothing.
use Rattle.std.specs.Prelude.{◌≡◌, Bool, true, false, List, ◌++◌, ℕ, ◌+◌, ◌≤◌, ◌<◌, length, take, drop}

-- A buffer with a text written over its bytes from an index on.
abbrev pub splice : List ℕ → ℕ → List ℕ → List ℕ
splice b at t = take at b ++ t ++ drop (at + length t) b

-- The text t, of at most so many bytes, stands in c from `at` up to r, and all else is as in b.
pub record Put (most at : ℕ) (t b c : List ℕ) (r : ℕ) : Type 0 where
  pub end : r ≡ at + length t
  pub small : length t ≤ most
  pub room : r ≤ length b
  pub text : c ≡ splice b at t

-- Where so many bytes are left from `at` on, the text is put; else nothing is written.
pub record Puts (room at : ℕ) (t b c : List ℕ) (r : ℕ) : Type 0 where
  pub fits : at + room ≤ length b → Put room at t b c r
  pub full : length b < at + room → (c ≡ b) × (r ≡ at)

-- Whether fewer than so many bytes are left from `at` on.
pub record ToldFull (size at room : ℕ) (told : Bool) : Type 0 where
  pub few : told ≡ true → size < at + room
  pub enough : told ≡ false → at + room ≤ size
