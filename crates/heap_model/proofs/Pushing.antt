-- An element put last in a row.
use Rattle.std.proofs.Common.{◌≡◌, ℕ, ◌+◌, List, [], ◌∷◌, ◌++◌, length, take, set, arith}
use Rattle.std.proofs.lemmas.Grind.{common_steps}
use Rattle.std.proofs.lemmas.List.{take_all, take_more_set}

pub put_last : {X : Type 0} (row : List X) (k : ℕ) (x : X) → k + 1 ≡ length row → set row k x ≡ take k row ++ x ∷ []
put_last row k x e = grind (arith, common_steps, take_all (k + 1) (set row k x), take_more_set row k x)

pub ruleset puts = (common_steps, put_last)
