-- What an edit of the front holds, and what its calls leave and answer.
use Rattle.std.specs.Prelude.{Bool, true, false, if◌then◌else◌, not, ◌&&◌, ◌||◌, List, [], ◌∷◌, length, ◌==◌, nat_lt, slice_set}
use Rattle.std.specs.declared.cmp.Ordering.{Ordering}
use Rattle.elements.specs.Refusals.{Answer, by}
use Rattle.elements.specs.Refusals.Answer.{accepted, refused}
use Rattle.rows.specs.Sifts.{sift_down}
use Rattle.heap_model.specs.Held.{Held, leave}

-- what the heap holds, and whether its front may be out of order
pub record Edited (X : Type 0) : Type 0 where
  pub heap : Held X
  pub exposed : Bool

module _ {X : Type 0} where
  abbrev pub opened : Held X → Edited X
  opened h = record { heap = h; exposed = false }

  unfoldable pub set_answer : Edited X → Answer (Unit {0})
  set_answer e = if length e.heap.row == 0 then refused (by 4) else accepted tt

  -- the front written over, and the edit marked where there is anything that it could be out of order with
  unfoldable pub front_set : X → Edited X → Edited X
  front_set x e = record { heap = leave (slice_set e.heap.row 0 x) e.heap; exposed = e.exposed || nat_lt 1 (length e.heap.row) }

  -- the lent place and mark after an edit's pop of this row
  abbrev pub place_after : List X → X → X
  place_after [] place = place
  place_after (x ∷ xs) place = x

  abbrev pub mark_after : List X → Bool
  mark_after [] = false
  mark_after (x ∷ xs) = true

module _ {X : Type 0} (ordering : X → X → Ordering) where
  unfoldable pub settled_row : Bool → List X → List X
  settled_row exposed row = if exposed then (sift_down ordering row 0).row else row

  unfoldable pub settled : Edited X → Held X
  settled e = leave (settled_row e.exposed e.heap.row) e.heap

  abbrev pub refreshed : Edited X → Edited X
  refreshed e = opened (settled e)

  -- yes exactly if an exposed front was moved
  unfoldable pub refresh_answer : Edited X → Bool
  refresh_answer e = e.exposed && not ((sift_down ordering e.heap.row 0).at == 0)
