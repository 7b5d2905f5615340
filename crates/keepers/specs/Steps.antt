-- A keeper by what it holds and its step.
use Rattle.std.specs.Prelude.{ℕ, ◌-◌, Bool, not, nat_lt}
use Rattle.std.specs.declared.cmp.Ordering.{Ordering}
use Rattle.elements.specs.Orders.{exceeds}

-- yes or no, and what the keeper holds next
pub record Said (H : Type 0) : Type 0 where
  pub yes : Bool
  pub next : H

-- yes to an element that is not above the level, which stays
abbrev pub ceiling_step : {X : Type 0} → (X → X → Ordering) → X → X → Said X
ceiling_step ordering level x = record { yes = not (exceeds ordering x level); next = level }

-- yes while some are left, whatever the element
abbrev pub ration_step : {X : Type 0} → ℕ → X → Said ℕ
ration_step left x = record { yes = nat_lt 0 left; next = left - 1 }
