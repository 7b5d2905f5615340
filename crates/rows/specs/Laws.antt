-- What the sifts and the rebuilding do to any row: they only rearrange it, and they put it in order.
use Rattle.std.specs.Prelude.{◌≡◌, ℕ, suc, ◌<◌, false, List, length, slice_index_or}
use Rattle.std.specs.declared.cmp.Ordering.{Ordering}
use mathlib.Core.List.{Perm}
use Rattle.elements.specs.Orders.{exceeds}
use Rattle.rows.specs.Sifts.{sift_up, sift_down, sift_down_to_bottom}
use Rattle.rows.specs.Rebuilds.{rebuilt, tail_rebuilt}
use Rattle.rows.specs.Heaps.{Heaped, FrontHeaped, HeapedFrom}

module _ {X : Type 0} (ordering : X → X → Ordering) where
  -- nothing is lost and nothing doubled
  pub record Rearranges : Type 0 where
    pub up : (row : List X) (start pos : ℕ) → pos < length row → Perm row (sift_up ordering row start pos).row
    pub down : (row : List X) (pos : ℕ) → pos < length row → Perm row (sift_down ordering row pos).row
    pub bottom : (row : List X) (pos : ℕ) → pos < length row → Perm row (sift_down_to_bottom ordering row pos).row
    pub rebuild : (row : List X) → Perm row (rebuilt ordering row)
    pub tail : (start : ℕ) (row : List X) → Perm row (tail_rebuilt ordering start row)

  pub record PutsInOrder : Type 0 where
    -- a heap and one more become a heap
    pub up : (row : List X) (n : ℕ) → n < length row → FrontHeaped ordering n row → FrontHeaped ordering (suc n) (sift_up ordering row 0 n).row
    -- of what stands at `pos` and behind it, only `pos` was out of order with its children
    pub down : (row : List X) (pos : ℕ) → pos < length row → HeapedFrom ordering (suc pos) row → HeapedFrom ordering pos (sift_down ordering row pos).row
    -- only the front was out of order with its children
    pub bottom : (row : List X) → HeapedFrom ordering 1 row → Heaped ordering (sift_down_to_bottom ordering row 0).row
    -- nothing need be in order
    pub rebuild : (row : List X) → Heaped ordering (rebuilt ordering row)
    -- the first `start` elements were a heap
    pub tail : (start : ℕ) (row : List X) → FrontHeaped ordering start row → Heaped ordering (tail_rebuilt ordering start row)
    -- nothing in a heap exceeds its front
    pub front : (row : List X) → Heaped ordering row → (k : ℕ) (d : X) → k < length row → exceeds ordering (slice_index_or row k d) (slice_index_or row 0 d) ≡ false
