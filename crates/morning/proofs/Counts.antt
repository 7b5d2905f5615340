-- Whether a row has a front.
use Rattle.std.proofs.Common.{◌≡◌, ◌<◌, List, [], ◌∷◌, length, Some, None, arith, refl}
use Rattle.heap_model.specs.Calls.{front}
use Rattle.heap_model.proofs.Popping.{popped_few, popped_long}

module _ {X : Type 0} where
  pub one_left : (row : List X) (x : X) → Some x ≡ front row → 0 < length row
  one_left [] x e = grind arith
  one_left (d ∷ ds) x e = omega arith

  pub none_left : (row : List X) → None ≡ front row → row ≡ []
  none_left [] e = refl
  none_left (d ∷ ds) e = grind arith

pub ruleset counts = (one_left, none_left, popped_few, popped_long)
