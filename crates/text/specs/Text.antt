-- Listing 2: words, numbers and lines as lists of bytes. Definitions only. Assumes nothing.
use Rattle.std.specs.Prelude.{cond, List, [], ◌∷◌, ◌++◌, ℕ, zero, suc, ◌+◌, ◌/◌, ◌%◌, ltb, ℤ, pos, negsuc}
use Prim.Native.Char.{code}
use Prim.Native.String.{String}
use Prim.Native.String.{[] as no_text, ◌∷◌ as ◌then◌}

-- The bytes of a quoted text in ASCII.
abbrev pub word : String → List ℕ
word no_text = []
word (c then s) = code c ∷ word s

-- The byte of a digit 0 to 9.
abbrev pub digit : ℕ → ℕ
digit d = 48 + d

-- The decimal digits of a number below 10 ^ places, without zeros in front.
abbrev pub decimal_for : ℕ → ℕ → List ℕ
decimal_for zero n = []
decimal_for (suc places) n = cond (ltb n 10) (digit n ∷ []) (decimal_for places (n / 10) ++ (digit (n % 10) ∷ []))

-- Listing 2: a number in decimal. None of 64 bits has more than twenty digits.
unfoldable pub decimal : ℕ → List ℕ
decimal n = decimal_for 20 n

-- Listing 2: a whole number that may be below 0.
abbrev pub signed_decimal : ℤ → List ℕ
signed_decimal (pos n) = decimal n
signed_decimal (negsuc n) = word "-" ++ decimal (suc n)

-- Listing 2: a line of two words with a number behind each, and its line feed.
abbrev pub line : List ℕ → ℕ → List ℕ → ℕ → List ℕ
line first a second b = first ++ decimal a ++ second ++ decimal b ++ word "\n"

-- The texts number 0 to n - 1, one behind the other.
abbrev pub each : ℕ → (ℕ → List ℕ) → List ℕ
each zero text = []
each (suc n) text = each n text ++ text n
