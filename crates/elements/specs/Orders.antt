-- What an order answers, its laws, and the order of numbers.
use Rattle.std.specs.Prelude.{◌≡◌, ℕ, Bool, false, if◌then◌else◌, ◌==◌, nat_lt, Option, Some}
use Rattle.std.specs.declared.cmp.Ordering.TheVariants.{Less, Equal, Greater}
use Rattle.std.specs.declared.cmp.Ordering.{Ordering}
use Rattle.std.specs.Ordering.{is_gt, is_lt, ordering_reverse}

module _ {X : Type 0} (ordering : X → X → Ordering) where
  abbrev pub exceeds : X → X → Bool
  exceeds x y = is_gt (ordering x y)

  abbrev pub below : X → X → Bool
  below x y = is_lt (ordering x y)

  -- the laws of an order, as every element kind has them
  pub record Lawful : Type 0 where
    pub reflexive : (x : X) → ordering x x ≡ Equal
    pub converse : (x y : X) → ordering y x ≡ ordering_reverse (ordering x y)
    pub transitive : (x y z : X) → exceeds x y ≡ false → exceeds y z ≡ false → exceeds x z ≡ false

  -- the laws of an element kind: its comparisons answer by the order, which is lawful
  pub record ElementLaws (compares : X → X → Option Ordering) (orders : X → X → Ordering) : Type 0 where
    pub cmp : (x y : X) → orders x y ≡ ordering x y
    pub partial : (x y : X) → compares x y ≡ Some (ordering x y)
    pub lawful : Lawful

abbrev pub by_size : ℕ → ℕ → Ordering
by_size x y = if nat_lt x y then Less else (if x == y then Equal else Greater)
