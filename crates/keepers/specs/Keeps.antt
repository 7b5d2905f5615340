-- What a keeper makes of a row. `says past x` is its answer to x once the past, the latest first, was put to it.
use Rattle.std.specs.Prelude.{ℕ, zero, suc, Bool, if◌then◌else◌, List, [], ◌∷◌}
use Rattle.keepers.specs.Steps.{Said}

module _ {H X : Type 0} (step : H → X → Said H) (h : H) where
  -- what it holds once the past was put to it, if it held h at first
  abbrev pub holds_after : List X → H
  holds_after [] = h
  holds_after (x ∷ past) = (step (holds_after past) x).next

  abbrev pub asked : List X → X → Bool
  asked past x = (step (holds_after past) x).yes

module _ {X : Type 0} (says : List X → X → Bool) where
  -- those with a yes, in order
  abbrev pub kept : List X → List X → List X
  kept past [] = []
  kept past (x ∷ xs) = if says past x then x ∷ kept (x ∷ past) xs else kept (x ∷ past) xs

  -- those with a no, in order
  abbrev pub dropped : List X → List X → List X
  dropped past [] = []
  dropped past (x ∷ xs) = if says past x then dropped (x ∷ past) xs else x ∷ dropped (x ∷ past) xs

  -- the position of the first with a no, or the length
  abbrev pub first_no : List X → List X → ℕ
  first_no past [] = zero
  first_no past (x ∷ xs) = if says past x then suc (first_no (x ∷ past) xs) else zero

module _ {H X : Type 0} (step : H → X → Said H) where
  -- what the keeper holds once the whole row was put to it
  abbrev pub holds_through : H → List X → H
  holds_through h [] = h
  holds_through h (x ∷ xs) = holds_through (step h x).next xs
