-- What each call leaves and answers, of what the heap holds.
use Rattle.std.specs.Prelude.{ℕ, ◌+◌, ◌-◌, ◌^◌, Bool, if◌then◌else◌, List, [], ◌∷◌, ◌++◌, length, take, drop, Some, None, Option, nat_le, nat_lt, slice_index_or, slice_set}
use Rattle.std.specs.declared.cmp.Ordering.{Ordering}
use Rattle.elements.specs.Refusals.{Answer, by, by_with}
use Rattle.elements.specs.Refusals.Answer.{accepted, refused}
use Rattle.rows.specs.Sifts.{sift_up, sift_down_to_bottom}
use Rattle.heap_model.specs.Held.{Held, places, leave}

abbrev pub front : {X : Type 0} → List X → Option X
front [] = None
front (x ∷ xs) = Some x

module _ {X : Type 0} where
  -- whether n more find a place
  abbrev pub fits : ℕ → Held X → Bool
  fits n h = nat_le (length h.row + n) (places h)

  -- the places that n more would lack
  abbrev pub missing : ℕ → Held X → ℕ
  missing n h = length h.row + n - places h

  unfoldable pub reserve_answer : ℕ → Held X → Answer (Unit {0})
  reserve_answer additional h =
      if fits additional h then accepted tt
      else (if nat_lt (2 ^ 64 - 1) (length h.row + additional) then refused (by 1)
      else refused (by_with 2 (missing additional h)))

  unfoldable pub full : Held X → Bool
  full h = nat_le (places h) (length h.row)

  unfoldable pub push_answer : Held X → Answer (Unit {0})
  push_answer h = if full h then refused (by_with 2 1) else accepted tt

  abbrev pub pop_answer : Held X → Option X
  pop_answer h = front h.row

  -- the front, if there is one and the keeper says yes to it
  abbrev pub allowed : (X → Bool) → Option X → Option X
  allowed says None = None
  allowed says (Some x) = if says x then Some x else None

  abbrev pub pop_if_answer : (X → Bool) → Held X → Option X
  pop_if_answer says h = allowed says (front h.row)

  abbrev pub cleared : Held X → Held X
  cleared h = leave [] h

  unfoldable pub drain_answer : ℕ → Held X → Answer ℕ
  drain_answer room h = if nat_le (length h.row) room then accepted (length h.row) else refused (by 5)

  unfoldable pub drained : ℕ → Held X → Held X
  drained room h = if nat_le (length h.row) room then cleared h else h

  -- the lent list after a drain of this row
  unfoldable pub drained_to : List X → List X → List X
  drained_to row list = if nat_le (length row) (length list) then row ++ drop (length row) list else list

module _ {X : Type 0} (ordering : X → X → Ordering) where
  unfoldable pub pushed_row : X → List X → List X
  pushed_row x row = (sift_up ordering (row ++ (x ∷ [])) 0 (length row)).row

  unfoldable pub pushed : X → Held X → Held X
  pushed x h = if full h then h else leave (pushed_row x h.row) h

  -- the last element leaves the row d ∷ ds and, if it was not alone, replaces the front
  abbrev pub last_in_front : X → List X → List X
  last_in_front d ds = slice_set (take (length ds) (d ∷ ds)) 0 (slice_index_or (d ∷ ds) (length ds) d)

  unfoldable pub popped_row : List X → List X
  popped_row [] = []
  popped_row (d ∷ ds) = (sift_down_to_bottom ordering (last_in_front d ds) 0).row

  unfoldable pub popped : Held X → Held X
  popped h = leave (popped_row h.row) h

  abbrev pub popped_for : Option X → Held X → Held X
  popped_for None h = h
  popped_for (Some x) h = popped h

  abbrev pub popped_if : (X → Bool) → Held X → Held X
  popped_if says h = popped_for (pop_if_answer says h) h
