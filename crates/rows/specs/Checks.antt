-- What the checker answers.
use Rattle.std.specs.Prelude.{◌≡◌, ℕ, ◌<◌, true, List, length, slice_index_or}
use Rattle.std.specs.declared.cmp.Ordering.{Ordering}
use Rattle.elements.specs.Orders.{exceeds}
use Rattle.rows.specs.Sifts.{parent}
use Rattle.rows.specs.Heaps.{FrontHeaped}

-- p is the first position whose element exceeds its parent
pub record FirstOutOfOrder {X : Type 0} (ordering : X → X → Ordering) (row : List X) (p : ℕ) : Type 0 where
  pub within : (0 < p) × (p < length row)
  pub out : (d : X) → exceeds ordering (slice_index_or row p d) (slice_index_or row (parent p) d) ≡ true
  pub first : FrontHeaped ordering p row
