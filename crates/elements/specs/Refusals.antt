-- How a call's answer is told outside.
use Rattle.std.specs.Prelude.{ℕ, Some, None, Ok, Err, Result}
use Rattle.elements.specs.declared.refusal.Refusal.{Refusal}

abbrev pub by : ℕ → Refusal
by number = record { number = number; carries = None }

abbrev pub by_with : ℕ → ℕ → Refusal
by_with number carried = record { number = number; carries = Some carried }

-- accepted with a value, or refused by a number
pub data Answer (A : Type 0) : Type 0 where
  accepted : A → Answer A
  refused : Refusal → Answer A

-- a result as it is told, where `refuses` gives each fault its refusal
abbrev pub told : {A E : Type 0} → (E → Refusal) → Result A E → Answer A
told refuses (Ok a) = accepted a
told refuses (Err fault) = refused (refuses fault)
