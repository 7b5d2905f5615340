-- A memory whose front was written.
use Rattle.std.proofs.Common.{◌≡◌, ℕ, ◌≤◌, List, ◌++◌, length, take, drop, append_assoc, arith}
use Rattle.std.proofs.lemmas.Grind.{common_steps}
use Rattle.std.proofs.lemmas.List.{drop-append-le}

-- of the first n places, a row took the first m
pub row_written : {X : Type 0} (row was : List X) (m n : ℕ) → m ≤ n → n ≤ length was → (row ++ drop m (take n was)) ++ drop n was ≡ row ++ drop m was
row_written row was m n l f = grind (arith, common_steps, append_assoc row (drop m (take n was)), drop-append-le m (take n was))

pub ruleset writes = (common_steps, row_written)
