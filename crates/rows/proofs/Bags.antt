-- The sifts only rearrange a row.
use Rattle.std.proofs.Common.{◌≡◌, ℕ, zero, suc, ◌<◌, Bool, true, ◌≢◌, List, [], ◌∷◌, length, get_or, set, Ordering, refl, ap, ◌∙◌, arith, length-set, get_or-set_other, get_or-set_same, set-set}
use mathlib.Core.List.Perm
use mathlib.Core.Logic.{∥∥₁_elim}
use mathlib.Core.List.{Perm, Permᴰ}
use native.Mathlib.Nat.{ℕ_set}
use lib.Seq.{set-get_or}
use Rattle.std.proofs.lemmas.Bool.Decides.{nat_tests}
use Rattle.elements.specs.Orders.{below}
use Rattle.rows.specs.Sifts.{Sifted, parent, rise, greater_child, sink, sift_up, sunk, sift_down, sift_to_leaf, sift_down_to_bottom}
use Rattle.rows.proofs.Sinks.{child_within}

lengthᴰ : {X : Type 0} {xs ys : List X} → Permᴰ xs ys → length xs ≡ length ys
lengthᴰ Permᴰ.nil = refl
lengthᴰ (Permᴰ.cons e d) = ap suc (lengthᴰ d)
lengthᴰ (Permᴰ.swap e f) = refl
lengthᴰ (Permᴰ.trans d e) = lengthᴰ d ∙ lengthᴰ e

pub length_perm : {X : Type 0} {xs ys : List X} → Perm xs ys → length xs ≡ length ys
length_perm p = ∥∥₁_elim p (ℕ_set _ _) lengthᴰ

module _ {X : Type 0} where
  -- v is written at i, and what stood there comes out
  write_perm : (xs : List X) (i : ℕ) (v d : X) → i < length xs → Perm (v ∷ xs) (get_or xs i d ∷ set xs i v)
  write_perm [] i v d h = absurd (omega arith)
  write_perm (x ∷ xs) zero v d h = Perm.swap x v xs
  write_perm (x ∷ xs) (suc i) v d h = Perm.trans (Perm.swap x v xs) (Perm.trans (Perm.cons x (write_perm xs i v d (omega arith))) (Perm.swap _ x _))

  -- a hole at i that is to hold v moves to j, and what stood at j moves to i
  hole_perm : (xs : List X) (i j : ℕ) (v d : X) → i < length xs → j < length xs → j ≢ i → Perm (set xs i v) (set (set xs i (get_or xs j d)) j v)
  hole_perm xs i j v d hi hj ne =
      let w : X = get_or xs j d in
      let out = rw (get_or-set_same xs i v d hi, set-set) at (write_perm (set xs i v) i w d (simp length-set hi)) in
      Perm.cons_inv (Perm.trans out (rw (get_or-set_other xs i j w d ne) at (write_perm (set xs i w) j v d (simp length-set hj))))

module _ {X : Type 0} (ordering : X → X → Ordering) where
  rise_perm : (fuel start : ℕ) (x : X) (xs : List X) (h : ℕ) → h < length xs → Perm (set xs h x) (rise ordering fuel start x xs h).row
  unfolding rise
  rise_perm zero start x xs h l = Perm.refl (set xs h x)
  rise_perm (suc fuel) start x xs h l =
      let y : X = get_or xs (parent h) x in
      let more = rise_perm fuel start x (set xs h y) (parent h) in
      let move = hole_perm xs h (parent h) x x in
      let stay = Perm.refl (set xs h x) in
      grind (arith, nat_tests, length-set, Perm.trans {l₁ = set xs h x})

  pub record Kept (was : List X) (r : Sifted X) : Type 0 where
    pub bag : Perm was r.row
    pub within : r.at < length was

  sink-kept : (moves : X → X → Bool) (fuel : ℕ) (x : X) (xs : List X) (h : ℕ) → h < length xs → Kept (set xs h x) (sink ordering moves fuel x xs h)
  unfolding sink
  sink-kept moves zero x xs h l = record { bag = Perm.refl (set xs h x); within = simp length-set l }
  sink-kept moves (suc fuel) x xs h l =
      let c : ℕ = greater_child ordering x xs h in
      let w = child_within ordering x xs h in
      let more = sink-kept moves fuel x (set xs h (get_or xs c x)) c in
      let move = hole_perm xs h c x x in
      let stay = Perm.refl (set xs h x) in
      grind (arith, nat_tests, length-set, length_perm, Perm.trans {l₁ = set xs h x})

  pub up_perm : (row : List X) (start pos : ℕ) → pos < length row → Perm row (sift_up ordering row start pos).row
  unfolding sift_up
  up_perm [] start pos l = absurd (omega arith)
  up_perm (d ∷ ys) start pos l = rw (set-get_or (d ∷ ys) pos d) at (rise_perm pos start (get_or (d ∷ ys) pos d) (d ∷ ys) pos l)

  sunk_kept : (moves : X → X → Bool) (row : List X) (pos : ℕ) → pos < length row → Kept row (sunk ordering moves row pos)
  unfolding sunk
  sunk_kept moves [] pos l = absurd (omega arith)
  sunk_kept moves (d ∷ ys) pos l = rw (set-get_or (d ∷ ys) pos d) at (sink-kept moves (length (d ∷ ys)) (get_or (d ∷ ys) pos d) (d ∷ ys) pos l)

  pub down_perm : (row : List X) (pos : ℕ) → pos < length row → Perm row (sift_down ordering row pos).row
  down_perm row pos l = (sunk_kept (below ordering) row pos l).bag

  pub leaf_kept : (row : List X) (pos : ℕ) → pos < length row → Kept row (sift_to_leaf ordering row pos)
  leaf_kept = sunk_kept (λ x child. true)

  pub bottom_perm : (row : List X) (pos : ℕ) → pos < length row → Perm row (sift_down_to_bottom ordering row pos).row
  bottom_perm row pos l =
      let leaf = leaf_kept row pos l in
      let r : Sifted X = sift_to_leaf ordering row pos in
      Perm.trans leaf.bag (up_perm r.row pos r.at (omega (arith, length_perm leaf.bag, leaf.within)))
