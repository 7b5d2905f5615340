-- What a test of a value and a child answers.
use Rattle.std.specs.Prelude.{◌≡◌, Bool}
use Rattle.std.specs.Fn.{Shared, AnyResult}
use denote.Ref.{Bor}

-- each call of f, at references to two values, answers what m gives
abbrev pub Computes : {F X : Type 0} → Shared F (Bor X × (Bor X × Unit {0})) Bool → F → (X → X → Bool) → Type 0
Computes {F} {X} g f m = (x y : Bor X) → AnyResult g f (x, (y, tt)) (λ r. r ≡ m x.now y.now)
