-- A number in bytes, the high byte first.
use Rattle.std.specs.Prelude.{ℕ, zero, suc, ◌+◌, ◌*◌, ◌/◌, ◌%◌, ◌^◌, List, [], ◌∷◌, slice_index}

-- the number in the k bytes from position i on
abbrev pub number_at : ℕ → ℕ → List ℕ → ℕ
number_at zero i bytes = 0
number_at (suc k) i bytes = slice_index bytes i * 256 ^ k + number_at k (i + 1) bytes

-- the k low bytes of a number
abbrev pub bytes_of : ℕ → ℕ → List ℕ
bytes_of zero n = []
bytes_of (suc zero) n = n % 256 ∷ []
bytes_of (suc (suc k)) n = n / 256 ^ suc k % 256 ∷ bytes_of (suc k) n
