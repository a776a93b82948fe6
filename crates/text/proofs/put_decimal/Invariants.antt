-- What the loop of `text::put_decimal` keeps: the digits from i on stand in the buffer, and those of the rest are still to come.
use Rattle.integers.proofs.Basics.{◌≡◌, ℕ, ◌+◌, ◌≤◌, length}
use mathlib.Core.List.{List}
use Rattle.text.specs.Put.{splice}
use Rattle.text.proofs.Decimals.{Digits}
use Rattle.text.proofs.put_decimal.Given as goal

pub record DigitsPut (n : ℕ) (out₀ : List ℕ) (at end : ℕ) (out : List ℕ) (rest i : ℕ) : Type 0 where
  pub t : List ℕ
  pub digits : Digits n rest t
  pub here : i + length t ≡ end
  pub from : at ≤ i
  pub text : out ≡ splice out₀ i t

abbrev pub invariant-loop-i : goal.invariant-loop-i
invariant-loop-i l = DigitsPut l.n l.fn.out l.at l.end l.out l.rest l.i
