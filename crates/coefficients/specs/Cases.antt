-- Figures 23: fitted entries that were worked out by hand, as one list, and what it means that they hold. Definitions only.
-- Not here: the theorem (`proofs.WorkedEntries`). Assumes nothing.
use Rattle.std.specs.Prelude.{◌≡◌, ℕ, List, [], ◌∷◌, ℤ, pos, negsuc, Result, Ok, Err}
use Rattle.coefficients.specs.declared.EntryRefusal.{EntryRefusal}
use Rattle.coefficients.specs.declared.EntryRefusal.TheVariants.{Fitted}
use Rattle.coefficients.specs.Entries.{entry_of_bits}

-- Bits, and what they are answered by.
unfoldable pub worked : List (ℕ × Result ℤ EntryRefusal)
worked =
    -- 1.5, 2.5 and the same below 0, over 65,536: ties
    (0x3EF8_0000_0000_0000, Ok (pos 2))
    ∷ (0x3F04_0000_0000_0000, Ok (pos 2))
    ∷ (0xBEF8_0000_0000_0000, Ok (negsuc 1))
    ∷ (0xBF04_0000_0000_0000, Ok (negsuc 1))
    -- the next numbers above and below 2.5 / 65,536
    ∷ (0x3F04_0000_0000_0001, Ok (pos 3))
    ∷ (0x3F03_FFFF_FFFF_FFFF, Ok (pos 2))
    -- 2, -2 and the next number above 2
    ∷ (0x4000_0000_0000_0000, Ok (pos 131072))
    ∷ (0xC000_0000_0000_0000, Ok (negsuc 131071))
    ∷ (0x4000_0000_0000_0001, Err Fitted)
    -- both zeros, the smallest number above 0 and a half of 1 / 65,536
    ∷ (0x0000_0000_0000_0000, Ok (pos 0))
    ∷ (0x8000_0000_0000_0000, Ok (pos 0))
    ∷ (0x0000_0000_0000_0001, Ok (pos 0))
    ∷ (0x3EE0_0000_0000_0000, Ok (pos 0))
    -- both infinities and two NaNs
    ∷ (0x7FF0_0000_0000_0000, Err Fitted)
    ∷ (0xFFF0_0000_0000_0000, Err Fitted)
    ∷ (0x7FF8_0000_0000_0000, Err Fitted)
    ∷ (0xFFF0_0000_0000_0001, Err Fitted)
    ∷ []

-- Each is answered so.
abbrev pub Answered : List (ℕ × Result ℤ EntryRefusal) → Type 0
Answered [] = Unit {0}
Answered (p ∷ ps) = (entry_of_bits p.0 ≡ p.1) × Answered ps
