-- The sifts put whole rows in order.
use Rattle.std.proofs.Common.{◌≡◌, ℕ, zero, suc, ◌<◌, ◌≤◌, List, [], ◌∷◌, length, get_or, Ordering, sym, arith}
use Rattle.std.proofs.lemmas.List.{get_or_default, get_or_read}
use Rattle.rows.specs.Sifts.{Sifted, parent, sift_up, sunk, sift_down, sift_to_leaf, sift_down_to_bottom}
use Rattle.elements.specs.Orders.{Lawful}
use Rattle.rows.specs.Heaps.{InOrder, Heaped, FrontHeaped, HeapedFrom}
use Rattle.rows.proofs.Holes.{Ordered, Gap, Over}
use Rattle.rows.proofs.Comparisons.{Le, le_self}
use Rattle.rows.proofs.Settling.{look, rises, falls, Landed, lands}
use Rattle.rows.proofs.Bags.{length_perm, up_perm, down_perm, leaf_kept, bottom_perm}

module _ {X : Type 0} (ordering : X → X → Ordering) where
  -- among the first n, where the parent stands at `low` or behind it
  abbrev Held : ℕ → ℕ → List X → Type 0
  Held low n row = (k : ℕ) → 0 < k → k < n → low ≤ parent k → InOrder ordering row k

  held : (low n : ℕ) (row : List X) (x : X) → n ≤ length row → Ordered (Le ordering) low n (look x row) → Held low n row
  held low n row x l o k p q r d = grind (arith, o (parent k) k, get_or_default row k x d, get_or_default row (parent k) x d)

  ordered : (low n : ℕ) (row : List X) (x : X) → Held low n row → Ordered (Le ordering) low n (look x row)
  ordered low n row x h p k e = grind (arith, h k)

  -- a hole at the lowest place that counts
  opens : (low n : ℕ) (row : List X) (x : X) → Held (suc low) n row → Gap (Le ordering) low n (look x row) low
  opens low n row x h = grind (arith, ordered (suc low) n row x h)

  module _ (lawful : Lawful ordering) where
    up_held : (row : List X) (n pos : ℕ) (x : X) → pos < n → n ≤ length row → x ≡ get_or row pos x
        → Gap (Le ordering) 0 n (look x row) pos → Over (Le ordering) 0 n (look x row) pos x → FrontHeaped ordering n (sift_up ordering row 0 pos).row
    unfolding sift_up
    up_held [] n pos x p l e gap over = absurd (omega arith)
    up_held (d ∷ ds) n pos x p l e gap over = λ k a b.
        held 0 n (sift_up ordering (d ∷ ds) 0 pos).row x (omega (arith, length_perm (up_perm ordering (d ∷ ds) 0 pos (omega arith))))
        (rw (← get_or_read (d ∷ ds) pos x (omega arith) e d) (rises ordering lawful x n pos (d ∷ ds) pos (omega arith) p l gap over)) k a b (omega arith)

    pub up_heap : (row : List X) (n : ℕ) → n < length row → FrontHeaped ordering n row → FrontHeaped ordering (suc n) (sift_up ordering row 0 n).row
    up_heap [] n l h = absurd (omega arith)
    up_heap (d ∷ ds) n l h =
        let row : List X = d ∷ ds in
        let x : X = get_or row n d in
        let o = ordered 0 n row x (λ k a b c. h k a b) in
        up_held row (suc n) n x (omega arith) (omega arith) (get_or_default row n d x l) (grind arith) (λ k e. absurd (omega arith))

    pub down_heap : (row : List X) (pos : ℕ) → pos < length row → HeapedFrom ordering (suc pos) row → HeapedFrom ordering pos (sift_down ordering row pos).row
    unfolding sunk
    down_heap [] pos l h = absurd (omega arith)
    down_heap (d ∷ ds) pos l h =
        let row : List X = d ∷ ds in
        let x : X = get_or row pos d in
        let same = length_perm (down_perm ordering row pos l) in
        rw (← same) (held pos (length row) (sift_down ordering row pos).row x (omega arith)
        (falls ordering lawful x pos (length row) row pos (omega arith) l (omega arith) (opens pos (length row) row x h) (λ p e. absurd (omega arith))))

    pub bottom_heap : (row : List X) → HeapedFrom ordering 1 row → Heaped ordering (sift_down_to_bottom ordering row 0).row
    unfolding sunk sift_up
    bottom_heap [] h = λ k a b. absurd (omega arith)
    bottom_heap (d ∷ ds) h =
        let row : List X = d ∷ ds in
        let n : ℕ = length row in
        let r : Sifted X = sift_to_leaf ordering row 0 in
        let on : Landed ordering d 0 n r = lands ordering lawful d 0 n row 0 (omega arith) (omega arith) (omega arith) (opens 0 n row d h) in
        let same = length_perm (leaf_kept ordering row 0 (omega arith)).bag in
        let all = length_perm (bottom_perm ordering row 0 (omega arith)) in
        rw (← all) (up_held r.row n r.at d on.within (omega arith) (sym on.here) on.gap (λ k e. absurd (omega (arith, on.leaf))))

    -- by steps to the parent
    to_front : (fuel : ℕ) (row : List X) → Heaped ordering row → (k : ℕ) (d : X) → k ≤ fuel → k < length row → Le ordering (get_or row k d) (get_or row 0 d)
    to_front fuel row h zero d f l = le_self ordering lawful (get_or row 0 d)
    to_front zero row h (suc k) d f l = absurd (omega arith)
    to_front (suc fuel) row h (suc k) d f l =
        lawful.transitive _ _ _ (h (suc k) (omega arith) l d) (to_front fuel row h (parent (suc k)) d (omega arith) (omega arith))

    pub front_greatest : (row : List X) → Heaped ordering row → (k : ℕ) (d : X) → k < length row → Le ordering (get_or row k d) (get_or row 0 d)
    front_greatest row h k d l = to_front k row h k d (omega arith) l
