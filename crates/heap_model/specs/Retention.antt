-- What a retain leaves, by the keeper's answers.
use Rattle.std.specs.Prelude.{Bool, if◌then◌else◌, List, [], length, Some, None, Option, nat_lt}
use Rattle.std.specs.declared.cmp.Ordering.{Ordering}
use Rattle.rows.specs.Rebuilds.{tail_rebuilt}
use Rattle.keepers.specs.Steps.{Said}
use Rattle.keepers.specs.Keeps.{kept, first_no}
use Rattle.heap_model.specs.Held.{Held, leave}

module _ {X : Type 0} (ordering : X → X → Ordering) (says : List X → X → Bool) where
  -- if any was dropped, the tail is rebuilt from the first dropped position
  unfoldable pub retained_row : List X → List X
  retained_row row =
      if nat_lt (length (kept says [] row)) (length row)
      then tail_rebuilt ordering (first_no says [] row) (kept says [] row)
      else row

  unfoldable pub retained : Held X → Held X
  retained h = leave (retained_row h.row) h

-- what a keeper holds after a pop_if: the front, if there is one, was put to it
abbrev pub holds_on : {H X : Type 0} → (H → X → Said H) → H → Option X → H
holds_on step h None = h
holds_on step h (Some x) = (step h x).next
