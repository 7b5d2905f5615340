-- Filling one place at a time, from any state, comes to what the contract of `fill` says.
use Rattle.std.proofs.Common.{◌≡◌, ℕ, zero, suc, ◌+◌, ◌≤◌, min, List, [], ◌∷◌, ◌++◌, length, take, drop, set, sym, ap, ◌∙◌, append_assoc, arith, length-set, take-append-drop, drop-set-lt}
use Rattle.std.proofs.lemmas.List.{take_more_set}

-- the places, how many were written, and what of the list was not taken
pub record Filled (X : Type 0) : Type 0 where
  pub places : List X
  pub count : ℕ
  pub rest : List X

-- `count` were written already, and `free` places are left behind them
unfoldable pub filled : {X : Type 0} → ℕ → ℕ → List X → List X → Filled X
filled zero count places rest = record { places = places; count = count; rest = rest }
filled (suc free) count places [] = record { places = places; count = count; rest = [] }
filled (suc free) count places (x ∷ rest) = filled free (count + 1) (set places count x) rest

-- what the filling leaves, from a state in which `count` were written
pub record Leaves {X : Type 0} (free count : ℕ) (places rest : List X) (out : Filled X) : Type 0 where
  pub places_is : out.places ≡ take count places ++ (take (min free (length rest)) rest ++ drop (count + min free (length rest)) places)
  pub count_is : out.count ≡ count + min free (length rest)
  pub rest_is : out.rest ≡ drop (min free (length rest)) rest

pub filled-leaves : {X : Type 0} (free count : ℕ) (places rest : List X) → count + free ≤ length places → Leaves free count places rest (filled free count places rest)
unfolding filled
filled-leaves zero count places rest l = grind (arith, take-append-drop count places)
filled-leaves (suc free) count places [] l = grind (arith, take-append-drop count places)
filled-leaves (suc free) count places (x ∷ rest) l =
    let more = filled-leaves free (count + 1) (set places count x) rest (omega (arith, length-set places count x)) in
    let t : ℕ = min free (length rest) in
    let n : min (suc free) (suc (length rest)) ≡ suc t = omega arith in
    record {
      places_is = more.places_is
          ∙ ap (λ l. l ++ (take t rest ++ drop (count + 1 + t) (set places count x))) (take_more_set places count x (omega arith))
          ∙ append_assoc (take count places) (x ∷ []) (take t rest ++ drop (count + 1 + t) (set places count x))
          ∙ ap (λ l. take count places ++ (x ∷ (take t rest ++ l))) (drop-set-lt (count + 1 + t) places count x (omega arith) ∙ ap (λ m. drop m places) (omega arith))
          ∙ ap (λ m. take count places ++ (take m (x ∷ rest) ++ drop (count + m) places)) (sym n);
      count_is = more.count_is ∙ omega arith;
      rest_is = more.rest_is ∙ ap (λ m. drop m (x ∷ rest)) (sym n);
    }
