-- The three sifts, as functions of a row and a position.
use Rattle.std.specs.Prelude.{ℕ, zero, suc, ◌+◌, ◌-◌, ◌*◌, ◌/◌, Bool, true, if◌then◌else◌, List, [], ◌∷◌, length, nat_le, nat_lt, slice_index_or, slice_set}
use Rattle.std.specs.declared.cmp.Ordering.{Ordering}
use Rattle.elements.specs.Orders.{exceeds, below}

-- what a sift leaves: the row, and the position where it put the value back
pub record Sifted (X : Type 0) : Type 0 where
  pub row : List X
  pub at : ℕ

abbrev pub parent : ℕ → ℕ
parent p = (p - 1) / 2

abbrev pub put : {X : Type 0} → X → List X → ℕ → Sifted X
put x row hole = record { row = slice_set row hole x; at = hole }

module _ {X : Type 0} (ordering : X → X → Ordering) where
  -- x is out of the row, which has a hole: a parent that x exceeds moves down into it, but none above `start`;
  -- the fuel bounds the levels, and `hole` is enough
  unfoldable pub rise : ℕ → ℕ → X → List X → ℕ → Sifted X
  rise zero start x row hole = put x row hole
  rise (suc fuel) start x row hole =
      let above : X = slice_index_or row (parent hole) x in
      if nat_le hole start then put x row hole
      else (if exceeds ordering x above then rise fuel start x (slice_set row hole above) (parent hole)
      else put x row hole)

  -- the right child, unless the left one exceeds it or is the only one; d is read where there is no element
  abbrev pub greater_child : X → List X → ℕ → ℕ
  greater_child d row p =
      let left : ℕ = 2 * p + 1 in
      let right : ℕ = 2 * p + 2 in
      if nat_lt right (length row)
      then (if exceeds ordering (slice_index_or row left d) (slice_index_or row right d) then left else right)
      else left

  -- x is out of the row, which has a hole: its greater child moves up into it while `moves x child`;
  -- the fuel bounds the levels, and `length row` is enough
  unfoldable pub sink : (X → X → Bool) → ℕ → X → List X → ℕ → Sifted X
  sink moves zero x row hole = put x row hole
  sink moves (suc fuel) x row hole =
      let child : ℕ = greater_child x row hole in
      let under : X = slice_index_or row child x in
      if nat_lt hole (length row / 2)
      then (if moves x under then sink moves fuel x (slice_set row hole under) child else put x row hole)
      else put x row hole

  unfoldable pub sift_up : List X → ℕ → ℕ → Sifted X
  sift_up [] start pos = record { row = []; at = pos }
  sift_up (d ∷ ds) start pos = rise pos start (slice_index_or (d ∷ ds) pos d) (d ∷ ds) pos

  -- the value at `pos` sinks while `moves` says so
  unfoldable pub sunk : (X → X → Bool) → List X → ℕ → Sifted X
  sunk moves [] pos = record { row = []; at = pos }
  sunk moves (d ∷ ds) pos = sink moves (length (d ∷ ds)) (slice_index_or (d ∷ ds) pos d) (d ∷ ds) pos

  abbrev pub sift_down : List X → ℕ → Sifted X
  sift_down row pos = sunk (below ordering) row pos

  abbrev pub sift_to_leaf : List X → ℕ → Sifted X
  sift_to_leaf row pos = sunk (λ x child. true) row pos

  abbrev pub sift_down_to_bottom : List X → ℕ → Sifted X
  sift_down_to_bottom row pos = sift_up (sift_to_leaf row pos).row pos (sift_to_leaf row pos).at
