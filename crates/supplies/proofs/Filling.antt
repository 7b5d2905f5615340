-- One turn of `fill`: the supply's list xs had i elements taken, which are in front of the places ps.
use Rattle.std.proofs.Common.{◌≡◌, ℕ, suc, zero, ◌<◌, List, [], ◌∷◌, ◌++◌, length, take, drop, set, ap, arith}

module _ {X : Type 0} where
  pub one_left : (i : ℕ) (xs ys : List X) (x : X) → drop i xs ≡ x ∷ ys → i < length xs
  one_left zero [] ys x e = absurd (cc)
  one_left zero (y ∷ xs) ys x e = omega arith
  one_left (suc i) [] ys x e = absurd (cc)
  one_left (suc i) (y ∷ xs) ys x e = omega (arith, one_left i xs ys x e)

  pub rest_left : (i : ℕ) (xs ys : List X) (x : X) → drop i xs ≡ x ∷ ys → ys ≡ drop (suc i) xs
  rest_left zero [] ys x e = absurd (cc)
  rest_left zero (y ∷ xs) ys x e = cc
  rest_left (suc i) [] ys x e = absurd (cc)
  rest_left (suc i) (y ∷ xs) ys x e = rest_left i xs ys x e

  pub one_more : (i : ℕ) (xs ys ps : List X) (x : X) → drop i xs ≡ x ∷ ys → i < length ps → set (take i xs ++ drop i ps) i x ≡ take (suc i) xs ++ drop (suc i) ps
  one_more i xs ys [] x e h = absurd (omega arith)
  one_more zero [] ys (p ∷ ps) x e h = absurd (cc)
  one_more zero (y ∷ xs) ys (p ∷ ps) x e h = cc
  one_more (suc i) [] ys (p ∷ ps) x e h = absurd (cc)
  one_more (suc i) (y ∷ xs) ys (p ∷ ps) x e h = ap (λ l. y ∷ l) (one_more i xs ys ps x e (omega arith))

pub ruleset fills = (one_left, rest_left, one_more)
