-- An empty row has nothing to sift.
use Rattle.std.proofs.Common.{◌≡◌, List, length, Ordering, arith}
use Rattle.rows.specs.Sifts.{sunk, sift_down}

pub sifts_none : {X : Type 0} (ordering : X → X → Ordering) (row : List X) → length row ≡ 0 → sift_down ordering row 0 ≡ record { row = row; at = 0 }
unfolding sunk
sifts_none ordering row z = grind arith
