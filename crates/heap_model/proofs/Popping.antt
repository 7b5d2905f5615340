-- A row whose front is taken out.
use Rattle.std.proofs.Common.{◌≡◌, ℕ, ◌+◌, ◌-◌, ◌<◌, ◌≤◌, List, [], ◌∷◌, length, get_or, take, set, Ordering, refl, arith}
use Rattle.std.proofs.Math.Seq.{take-set-lt}
use Rattle.std.proofs.lemmas.List.{get_or_default}
use Rattle.rows.specs.Sifts.{sift_up, sunk, sift_down_to_bottom}
use Rattle.rows.proofs.Bags.{length_perm}
use Rattle.heap_model.specs.Calls.{popped_row}
use Rattle.heap_model.proofs.Holding.{writes}
use Rattle.heap_model.proofs.Keeping.{popped_perm}

module _ {X : Type 0} (ordering : X → X → Ordering) where
  pub popped_long : (row : List X) → length (popped_row ordering row) ≡ length row - 1
  unfolding popped_row
  popped_long [] = refl
  popped_long (d ∷ ds) = omega (arith, length_perm (popped_perm ordering d ds))

  pub popped_few : (row : List X) → length row ≤ 1 → popped_row ordering row ≡ []
  unfolding popped_row sunk sift_up
  popped_few row l = grind arith

  -- the last element, x, written over the front
  pub popped_more : (row : List X) (k : ℕ) (x : X) → 0 < k → k + 1 ≡ length row → x ≡ get_or row k x → (sift_down_to_bottom ordering (take k (set row 0 x)) 0).row ≡ popped_row ordering row
  unfolding popped_row
  popped_more [] k x p e at = absurd (omega arith)
  popped_more (d ∷ ds) k x p e at = grind (arith, take-set-lt k (d ∷ ds) 0 x p, get_or_default (d ∷ ds) k d x)

pub ruleset takes_front = (popped_few, popped_more)

pub ruleset pops = (writes, popped_few, popped_long)
