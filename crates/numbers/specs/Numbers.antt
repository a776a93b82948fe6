-- File 2: the numbers in a file, as they are read and as they are written. Definitions only. Assumes nothing.
use Rattle.std.specs.Prelude.{List, [], ◌∷◌, cond, ℕ, zero, suc, ◌+◌, ◌*◌, ◌-◌, ◌/◌, ◌%◌, ◌^◌, ltb, get_or, ℤ, pos, negsuc, ◌-ℤ◌}

-- File 2: the number of k bytes at the offset `at`, the least significant first. A byte beyond the end counts as 0 (Routines 13).
unfoldable pub little_endian : ℕ → List ℕ → ℕ → ℕ
little_endian zero bytes at = 0
little_endian (suc k) bytes at = get_or bytes at 0 + 256 * little_endian k bytes (suc at)

-- File 2: two's complement, where the numbers below `half` stand for themselves, and those from there on for 2 × half less.
abbrev pub twos_complement : ℕ → ℕ → ℤ
twos_complement half n = cond (ltb n half) (pos n) (pos n -ℤ pos (2 * half))

-- The signed number of k bytes at the offset `at`.
abbrev pub signed_at : ℕ → List ℕ → ℕ → ℤ
signed_at k bytes at = twos_complement (2 ^ (8 * k - 1)) (little_endian k bytes at)

-- ---- written

-- File 2: the k lowest bytes of a number, the least significant first.
unfoldable pub bytes_of : ℕ → ℕ → List ℕ
bytes_of zero n = []
bytes_of (suc k) n = n % 256 ∷ bytes_of k (n / 256)

-- File 2: a signed number as k bytes, in two's complement. One below 0 stands as 2 ^ (8 × k) more.
abbrev pub signed_bytes : ℕ → ℤ → List ℕ
signed_bytes k (pos n) = bytes_of k n
signed_bytes k (negsuc n) = bytes_of k (2 ^ (8 * k) - suc n)
