-- Putting a row in order, whole or from a position on.
use Rattle.std.specs.Prelude.{ℕ, zero, suc, ◌+◌, ◌-◌, ◌*◌, ◌/◌, Bool, true, if◌then◌else◌, List, length, nat_le, nat_lt}
use Rattle.std.specs.declared.cmp.Ordering.{Ordering}
use Rattle.std.specs.Int.Count.{count_leading_zeros}
use Rattle.rows.specs.Sifts.{sift_up, sift_down}

-- the place of the highest one bit of a number above 0, counted from 0
abbrev pub highest_bit : ℕ → ℕ
highest_bit n = 63 - count_leading_zeros 64 n

-- whether a row of this length is rebuilt whole, where its first `start` elements are a heap
abbrev pub rebuilds : ℕ → ℕ → Bool
rebuilds start len =
    let tail : ℕ = len - start in
    if nat_lt start tail then true
    else (if nat_le len 2048 then nat_lt (2 * len) (tail * highest_bit start)
    else nat_lt (2 * len) (11 * tail))

module _ {X : Type 0} (ordering : X → X → Ordering) where
  -- sift_down at each of the first n positions, the last first
  unfoldable pub sift_downs : ℕ → List X → List X
  sift_downs zero row = row
  sift_downs (suc n) row = sift_downs n (sift_down ordering row n).row

  -- sift_down at each position with a child
  abbrev pub rebuilt : List X → List X
  rebuilt row = sift_downs (length row / 2) row

  -- sift_up at each of `count` positions from `from` on
  unfoldable pub sift_ups : ℕ → List X → ℕ → List X
  sift_ups zero row from = row
  sift_ups (suc count) row from = sift_ups count (sift_up ordering row 0 from).row (from + 1)

  abbrev pub tail_rebuilt : ℕ → List X → List X
  tail_rebuilt start row =
      if nat_le (length row) start then row
      else (if rebuilds start (length row) then rebuilt row
      else sift_ups (length row - start) row start)
