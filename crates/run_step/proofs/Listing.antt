-- A row copied to the front of a list, place by place.
use Rattle.std.proofs.Common.{◌≡◌, ℕ, ◌+◌, ◌<◌, List, [], ◌∷◌, length, take, set, Some, None, arith}
use Rattle.std.specs.Prelude.{slice_get}
use Rattle.std.proofs.lemmas.List.{take_more, take_more_set}
use Rattle.std.proofs.lemmas.Option.{get_or_from_slice_get, slice_get-get_or}

module _ {X : Type 0} where
  pub item_copied : (row list : List X) (i : ℕ) (x : X) → i < length list → i < length row → take i list ≡ take i row → Some x ≡ slice_get row i → take (i + 1) (set list i x) ≡ take (i + 1) row
  item_copied row list i x h k same e = grind (arith, take_more_set, take_more row i x k, get_or_from_slice_get row i x x)

  pub item_there : (row : List X) (i : ℕ) → i < length row → None ≡ slice_get row i → ⊥
  item_there [] i k e = omega arith
  item_there (x ∷ row) i k e = grind (arith, slice_get-get_or (x ∷ row) i x k)
