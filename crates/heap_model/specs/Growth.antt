-- The calls that bring in many elements at once: extend, append and adopt.
use Rattle.std.specs.Prelude.{ℕ, ◌-◌, min, if◌then◌else◌, List, ◌++◌, length, take, nat_le, nat_lt}
use Rattle.std.specs.declared.cmp.Ordering.{Ordering}
use Rattle.elements.specs.Refusals.{Answer, by, by_with}
use Rattle.elements.specs.Refusals.Answer.{accepted, refused}
use Rattle.rows.specs.Rebuilds.{rebuilt, tail_rebuilt}
use Rattle.heap_model.specs.Held.{Held, places, leave}
use Rattle.heap_model.specs.Calls.{fits, missing, cleared}

module _ {X : Type 0} where
  -- how many elements of a supply's list find a place
  unfoldable pub taken : List X → Held X → ℕ
  taken rest h = min (places h - length h.row) (length rest)

  -- refused exactly if the supply still has more
  unfoldable pub extend_answer : List X → Held X → Answer ℕ
  extend_answer rest h = if nat_lt (taken rest h) (length rest) then refused (by_with 2 (taken rest h)) else accepted (taken rest h)

  -- the longer of two rows first, this one where they are alike
  abbrev pub joined : List X → List X → List X
  joined ours theirs = if nat_lt (length ours) (length theirs) then theirs ++ ours else ours ++ theirs

  -- where the second of the two begins
  abbrev pub second : List X → List X → ℕ
  second ours theirs = if nat_lt (length ours) (length theirs) then length theirs else length ours

  unfoldable pub append_answer : Held X → Held X → Answer (Unit {0})
  append_answer h other = if fits (length other.row) h then accepted tt else refused (by_with 2 (missing (length other.row) h))

  -- what the other heap holds after an append to h
  unfoldable pub appended_from : Held X → Held X → Held X
  appended_from h other = if fits (length other.row) h then cleared other else other

  unfoldable pub adopt_answer : ℕ → Held X → Answer (Unit {0})
  adopt_answer n h =
      if nat_lt 0 (length h.row) then refused (by 3)
      else (if nat_le n (places h) then accepted tt
      else refused (by_with 2 (n - places h)))

module _ {X : Type 0} (ordering : X → X → Ordering) where
  -- a row with more elements behind it
  unfoldable pub extended_row : List X → List X → List X
  extended_row row more = tail_rebuilt ordering (length row) (row ++ more)

  unfoldable pub extended : List X → Held X → Held X
  extended rest h = leave (extended_row h.row (take (taken rest h) rest)) h

  unfoldable pub appended_row : List X → List X → List X
  appended_row ours theirs = tail_rebuilt ordering (second ours theirs) (joined ours theirs)

  unfoldable pub appended : Held X → Held X → Held X
  appended h other = if fits (length other.row) h then leave (appended_row h.row other.row) h else h

  unfoldable pub adopted : ℕ → Held X → Held X
  adopted n h =
      if nat_lt 0 (length h.row) then h
      else (if nat_le n (places h) then leave (rebuilt ordering (take n h.memory)) h
      else h)
