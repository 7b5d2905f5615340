-- One turn of `sink` is one step of its definition.
use Rattle.std.proofs.Common.{◌≡◌, ℕ, zero, suc, ◌+◌, ◌/◌, ◌<◌, ◌≤◌, Bool, true, false, List, [], ◌∷◌, length, get_or, set, Ordering, refl, arith, length-set}
use Rattle.std.proofs.lemmas.Bool.Decides.{nat_tests}
use Rattle.std.proofs.lemmas.List.{get_or_read}
use Rattle.rows.specs.Sifts.{Sifted, put, greater_child, sink, sunk}

module _ {X : Type 0} (ordering : X → X → Ordering) where
  pub child_within : (d : X) (row : List X) (p : ℕ) → p < length row / 2 → (p < greater_child ordering d row p) × (greater_child ordering d row p < length row)
  child_within d row p h = (grind (arith, nat_tests), grind (arith, nat_tests))

  module _ (moves : X → X → Bool) where
    -- where the definition ends from the loop's state
    unfoldable pub sinking : X → List X → ℕ → Sifted X
    sinking x row hole = sink ordering moves (length row) x row hole

    any_fuel : (f g : ℕ) (x : X) (row : List X) (hole : ℕ) → length row ≤ hole + f → length row ≤ hole + g → sink ordering moves f x row hole ≡ sink ordering moves g x row hole
    unfolding sink
    any_fuel zero zero x row hole a b = refl
    any_fuel zero (suc g) x row hole a b = grind (arith, nat_tests)
    any_fuel (suc f) zero x row hole a b = grind (arith, nat_tests)
    any_fuel (suc f) (suc g) x row hole a b =
        let c = greater_child ordering x row hole in
        grind (arith, nat_tests, length-set, child_within x row hole, any_fuel f g x (set row hole (get_or row c x)) c)

    abbrev pub Child : List X → ℕ → ℕ → Type 0
    Child row hole c = (d : X) → c ≡ greater_child ordering d row hole

    -- from the start of the loop
    pub begins : (row : List X) (pos : ℕ) (x : X) → pos < length row → x ≡ get_or row pos x → sinking x row pos ≡ sunk ordering moves row pos
    unfolding sunk sinking
    begins [] pos x l e = absurd (omega arith)
    begins (d ∷ ds) pos x l e = cc (get_or_read (d ∷ ds) pos x l e d)

    pub ends : (x : X) (row : List X) (hole : ℕ) → length row / 2 ≤ hole → sinking x row hole ≡ put x row hole
    unfolding sinking sink
    ends x [] hole leaf = refl
    ends x (y ∷ ys) hole leaf = grind (arith, nat_tests)

    pub rests : (x y : X) (row : List X) (hole c : ℕ) → hole < length row / 2 → Child row hole c → y ≡ get_or row c y → moves x y ≡ false → sinking x row hole ≡ put x row hole
    unfolding sinking sink
    rests x y [] hole c inner is read t = refl
    rests x y (z ∷ zs) hole c inner is read t = grind (arith, nat_tests, is x, child_within x (z ∷ zs) hole inner, get_or_read (z ∷ zs) c y)

    pub turns : (x y : X) (row : List X) (hole c : ℕ) → hole < length row / 2 → Child row hole c → y ≡ get_or row c y → moves x y ≡ true → sinking x (set row hole y) c ≡ sinking x row hole
    unfolding sinking sink
    turns x y [] hole c inner is read t = absurd (omega arith)
    turns x y (z ∷ zs) hole c inner is read t =
        let row : List X = z ∷ zs in
        let next : List X = set row hole y in
        grind (arith, nat_tests, length-set, is x, child_within x row hole inner, get_or_read row c y, any_fuel (length next) (length zs) x next c)
