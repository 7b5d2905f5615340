-- Rows in heap order.
use Rattle.std.specs.Prelude.{◌≡◌, ℕ, ◌<◌, ◌≤◌, false, List, length, slice_index_or}
use Rattle.std.specs.declared.cmp.Ordering.{Ordering}
use Rattle.elements.specs.Orders.{exceeds}
use Rattle.rows.specs.Sifts.{parent}

module _ {X : Type 0} (ordering : X → X → Ordering) where
  -- the element at k does not exceed its parent; d is read where there is none
  abbrev pub InOrder : List X → ℕ → Type 0
  InOrder row k = (d : X) → exceeds ordering (slice_index_or row k d) (slice_index_or row (parent k) d) ≡ false

  -- no element exceeds its parent
  abbrev pub Heaped : List X → Type 0
  Heaped row = (k : ℕ) → 0 < k → k < length row → InOrder row k

  -- the first n elements are a heap
  abbrev pub FrontHeaped : ℕ → List X → Type 0
  FrontHeaped n row = (k : ℕ) → 0 < k → k < n → InOrder row k

  -- in order wherever the parent stands at `low` or behind it
  abbrev pub HeapedFrom : ℕ → List X → Type 0
  HeapedFrom low row = (k : ℕ) → 0 < k → k < length row → low ≤ parent k → InOrder row k
