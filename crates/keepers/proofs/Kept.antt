-- What a keeper keeps of a row.
use Rattle.std.proofs.Common.{◌≡◌, ◌≤◌, Bool, List, [], ◌∷◌, length, refl, arith}
use Rattle.keepers.specs.Keeps.{kept, first_no}

module _ {X : Type 0} (says : List X → X → Bool) where
  pub kept_few : (past xs : List X) → length (kept says past xs) ≤ length xs
  kept_few past [] = omega arith
  kept_few past (x ∷ xs) = grind (arith, kept_few (x ∷ past) xs)

  -- as many as there were are those that there were
  pub kept_all : (past xs : List X) → length xs ≤ length (kept says past xs) → kept says past xs ≡ xs
  kept_all past [] l = refl
  kept_all past (x ∷ xs) l = grind (arith, kept_few (x ∷ past) xs, kept_all (x ∷ past) xs)

  pub first_few : (past xs : List X) → first_no says past xs ≤ length (kept says past xs)
  first_few past [] = omega arith
  first_few past (x ∷ xs) = grind (arith, first_few (x ∷ past) xs)
