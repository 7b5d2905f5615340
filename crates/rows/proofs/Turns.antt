-- One turn of the loops of `rebuild` and `rebuild_tail` is one step of their definitions.
use Rattle.std.proofs.Common.{◌≡◌, ℕ, zero, suc, ◌+◌, ◌-◌, ◌<◌, ◌≤◌, List, length, Ordering, refl, arith, add-one}
use Rattle.rows.specs.Sifts.{sift_up, sift_down}
use Rattle.rows.specs.Rebuilds.{sift_downs, sift_ups}

module _ {X : Type 0} (ordering : X → X → Ordering) where
  pub down_turn : (row row' : List X) (n m : ℕ) → n ≡ m + 1 → row' ≡ (sift_down ordering row m).row → sift_downs ordering m row' ≡ sift_downs ordering n row
  unfolding sift_downs
  down_turn row row' n m e is = rw (e, add-one, is)

  pub down_end : (row : List X) (n : ℕ) → n ≤ 0 → sift_downs ordering n row ≡ row
  unfolding sift_downs
  down_end row zero h = refl
  down_end row (suc n) h = absurd (omega arith)

  -- what is left of the tail
  unfoldable pub ups_from : List X → ℕ → List X
  ups_from row i = sift_ups ordering (length row - i) row i

  pub up_begin : (row : List X) (i : ℕ) → ups_from row i ≡ sift_ups ordering (length row - i) row i
  unfolding ups_from
  up_begin row i = refl

  pub up_turn : (row row' : List X) (i : ℕ) → i < length row → row' ≡ (sift_up ordering row 0 i).row → length row' ≡ length row → ups_from row' (i + 1) ≡ ups_from row i
  unfolding sift_ups ups_from
  up_turn row row' i l is long =
      let e : length row - i ≡ suc (length row' - (i + 1)) = omega arith in
      rw (e, is)

  pub up_end : (row : List X) (i : ℕ) → length row ≤ i → ups_from row i ≡ row
  unfolding sift_ups ups_from
  up_end row i l = let e : length row - i ≡ 0 = omega arith in rw e

pub ruleset downs = (down_turn, down_end)

pub ruleset ups = (up_begin, up_turn, up_end)
