-- A number and its bytes come back from each other.
use Rattle.std.specs.Prelude.{◌≡◌, ℕ, zero, suc, ◌+◌, ◌*◌, ◌/◌, ◌%◌, ◌^◌, ◌<◌, ◌≤◌, List, [], ◌∷◌, ◌++◌, length, take, drop, slice_index_or, refl, All}
use Rattle.std.proofs.Common.{append_assoc, mul_comm, pow-suc, mod-eq_of_lt, arith}
use Rattle.std.proofs.Math.Nat.{one-le-pow, mul-add-div_right, mul-add-mod_self_right}
use Rattle.std.proofs.Math.Arith.{digits_lt, digits_div, mod-mul}
use Rattle.std.proofs.lemmas.List.Elements.{All-get_or}
use Rattle.std.proofs.lemmas.List.{drop_more, get_or_at, length-append}
use Rattle.kinds.specs.Bytes.{number_at, bytes_of}

abbrev pub Byte : ℕ → Type 0
Byte b = b < 256

power : (k : ℕ) → 0 < 256 ^ k
power k = one-le-pow k 256 (omega arith)

number_at_lt : (k i : ℕ) (bytes : List ℕ) → All Byte bytes → i + k ≤ length bytes → number_at k i bytes < 256 ^ k
number_at_lt zero i bytes small h = omega arith
number_at_lt (suc k) i bytes small h =
    rw (pow-suc 256 k, mul_comm (256 ^ k) 256) (digits_lt (All-get_or Byte bytes i 0 (omega arith) small) (number_at_lt k (i + 1) bytes small (omega arith)))

-- what stands above the low bytes does not show in them
bytes_of_low : (k c n : ℕ) → bytes_of k (c * 256 ^ k + n) ≡ bytes_of k n
bytes_of_low zero c n = refl
bytes_of_low (suc zero) c n = rw (mul-add-mod_self_right c 256 n)
bytes_of_low (suc (suc k)) c n =
    let wide : c * 256 ^ suc (suc k) ≡ c * 256 * 256 ^ suc k = rw (pow-suc 256 (suc k)) (omega arith) in
    rw (wide, mul-add-div_right (power (suc k)) (c * 256) n, mul-add-mod_self_right c 256 (n / 256 ^ suc k), bytes_of_low (suc k) (c * 256) n)

pub bytes_back : (k i : ℕ) (bytes : List ℕ) → All Byte bytes → i + k ≤ length bytes → bytes_of k (number_at k i bytes) ≡ take k (drop i bytes)
bytes_back zero i bytes small h = refl
bytes_back (suc zero) i bytes small h = grind (arith, drop_more bytes i 0, All-get_or Byte bytes i 0 (omega arith) small)
bytes_back (suc (suc k)) i bytes small h =
    let b : ℕ = slice_index_or bytes i 0 in
    rw (
      drop_more bytes i 0 (omega arith),
      digits_div b (number_at_lt (suc k) (i + 1) bytes small (omega arith)),
      mod-eq_of_lt (All-get_or Byte bytes i 0 (omega arith) small),
      bytes_of_low (suc k) b (number_at (suc k) (i + 1) bytes),
      bytes_back (suc k) (i + 1) bytes small (omega arith),
    )

-- the bytes of a number, between others, mean the number
pub value_back : (k n : ℕ) (before after : List ℕ) → number_at k (length before) (before ++ (bytes_of k n ++ after)) ≡ n % 256 ^ k
value_back zero n before after = omega arith
value_back (suc zero) n before after = omega (arith, get_or_at before (n % 256) after 0 (length before) refl)
value_back (suc (suc k)) n before after =
    let d : ℕ = n / 256 ^ suc k % 256 in
    let low : List ℕ = bytes_of (suc k) n ++ after in
    let rest = value_back (suc k) n (before ++ (d ∷ [])) after in
    let next : number_at (suc k) (length before + 1) (before ++ (d ∷ low)) ≡ n % 256 ^ suc k = simp (append_assoc, length-append) at rest in
    rw (pow-suc 256 (suc k), mul_comm (256 ^ suc k) 256, mod-mul n {m = 256} (omega arith) (power (suc k)), get_or_at before d low 0 (length before) refl, next)
