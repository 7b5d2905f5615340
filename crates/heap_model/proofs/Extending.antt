-- A row with a supply's elements behind it.
use Rattle.std.proofs.Common.{◌≡◌, ℕ, ◌-◌, ◌≤◌, List, ◌++◌, length, take, drop, arith, length-take}
use Rattle.std.proofs.Math.Seq.{take-append-add, drop-append-add}
use Rattle.std.proofs.lemmas.List.{take_at, drop_at, drop-drop}

module _ {X : Type 0} (xs ys : List X) (n : ℕ) (l : length xs ≤ n) where
  pub take_past : take n (xs ++ ys) ≡ xs ++ take (n - length xs) ys
  take_past = grind (arith, take-append-add xs ys (n - length xs))

  pub drop_past : drop n (xs ++ ys) ≡ drop (n - length xs) ys
  drop_past = grind (arith, drop-append-add xs ys (n - length xs))

pub ruleset fills = (take_past, drop_past, take_at, drop_at, drop-drop, length-take)
