-- What the laws of an order give of `exceeds` and `below`.
use Rattle.std.proofs.Common.{◌≡◌, true, false, Ordering, arith}
use Rattle.elements.specs.Orders.{exceeds, below, Lawful}

module _ {X : Type 0} (ordering : X → X → Ordering) where
  -- x does not exceed y
  abbrev pub Le : X → X → Type 0
  Le x y = exceeds ordering x y ≡ false

  pub le_if_below : (x y : X) → below ordering x y ≡ true → Le x y
  le_if_below x y t = grind arith

  module _ (lawful : Lawful ordering) where
    pub le_self : (x : X) → Le x x
    le_self x = grind (arith, lawful.reflexive x)

    pub le_if_exceeds : (x y : X) → exceeds ordering x y ≡ true → Le y x
    le_if_exceeds x y t = grind (arith, lawful.converse x y)

    pub le_unless_below : (x y : X) → below ordering x y ≡ false → Le y x
    le_unless_below x y t = grind (arith, lawful.converse x y)
