-- One turn of `sift_up` is one step of its definition.
use Rattle.std.proofs.Common.{◌≡◌, ℕ, zero, suc, ◌<◌, ◌≤◌, true, false, List, [], ◌∷◌, length, get_or, set, Ordering, refl, ap, arith}
use Rattle.std.proofs.lemmas.Bool.Decides.{nat_tests}
use Rattle.std.proofs.lemmas.List.{get_or_read}
use Rattle.elements.specs.Orders.{exceeds}
use Rattle.rows.specs.Sifts.{Sifted, parent, rise, sift_up, put}

module _ {X : Type 0} (ordering : X → X → Ordering) where
  -- where the definition ends from the loop's state
  unfoldable pub risen : ℕ → X → List X → ℕ → Sifted X
  risen start x row hole = rise ordering hole start x row hole

  any_fuel : (f g start : ℕ) (x : X) (row : List X) (hole : ℕ) → hole ≤ f → hole ≤ g → rise ordering f start x row hole ≡ rise ordering g start x row hole
  unfolding rise
  any_fuel zero zero start x row hole a b = refl
  any_fuel zero (suc g) start x row hole a b = grind (arith, nat_tests)
  any_fuel (suc f) zero start x row hole a b = grind (arith, nat_tests)
  any_fuel (suc f) (suc g) start x row hole a b =
      simp (any_fuel f g start x (set row hole (get_or row (parent hole) x)) (parent hole) (omega arith) (omega arith))

  pub begins : (row : List X) (start pos : ℕ) (x : X) → pos < length row → x ≡ get_or row pos x → risen start x row pos ≡ sift_up ordering row start pos
  unfolding risen sift_up
  begins [] start pos x l e = absurd (omega arith)
  begins (d ∷ ds) start pos x l e = ap (λ v. rise ordering pos start v (d ∷ ds) pos) (get_or_read (d ∷ ds) pos x l e d)

  pub stops : (start : ℕ) (x : X) (row : List X) (hole : ℕ) → hole ≤ start → risen start x row hole ≡ put x row hole
  unfolding risen rise
  stops start x row zero low = refl
  stops start x row (suc h) low = grind (arith, nat_tests)

  pub rests : (start : ℕ) (x y : X) (row : List X) (hole : ℕ) → hole < length row → y ≡ get_or row (parent hole) y → exceeds ordering x y ≡ false → risen start x row hole ≡ put x row hole
  unfolding risen rise
  rests start x y row zero l e t = refl
  rests start x y row (suc h) l e t = grind (arith, nat_tests, get_or_read row (parent (suc h)) y)

  pub moves : (start : ℕ) (x y : X) (row : List X) (hole p : ℕ) → start < hole → hole < length row → p ≡ parent hole → y ≡ get_or row p y → exceeds ordering x y ≡ true → risen start x (set row hole y) p ≡ risen start x row hole
  unfolding risen rise
  moves start x y row zero p above l at e t = absurd (omega arith)
  moves start x y row (suc h) p above l at e t =
      grind (arith, nat_tests, get_or_read row p y, any_fuel p h start x (set row (suc h) y) p)

pub ruleset rises = (begins, stops, rests, moves)
