-- `rebuild` and `rebuild_tail` only rearrange a row, and make a heap of it.
use Rattle.std.proofs.Common.{◌≡◌, ℕ, zero, suc, ◌+◌, ◌-◌, ◌/◌, ◌≤◌, List, length, Ordering, arith}
use mathlib.Core.List.Perm
use mathlib.Core.List.{Perm}
use Rattle.std.proofs.lemmas.Bool.Decides.{nat_tests}
use Rattle.elements.specs.Orders.{Lawful}
use Rattle.rows.specs.Sifts.{sift_up, sift_down}
use Rattle.rows.specs.Rebuilds.{sift_downs, rebuilt, sift_ups, tail_rebuilt}
use Rattle.rows.specs.Heaps.{Heaped, FrontHeaped, HeapedFrom}
use Rattle.rows.proofs.Bags.{length_perm, up_perm, down_perm}
use Rattle.rows.proofs.Heaping.{up_heap, down_heap}

module _ {X : Type 0} (ordering : X → X → Ordering) where
  downs_perm : (n : ℕ) (row : List X) → n ≤ length row → Perm row (sift_downs ordering n row)
  unfolding sift_downs
  downs_perm zero row l = Perm.refl row
  downs_perm (suc n) row l =
      let p = down_perm ordering row n (omega arith) in
      Perm.trans p (downs_perm n (sift_down ordering row n).row (omega (arith, length_perm p)))

  pub rebuilt_perm : (row : List X) → Perm row (rebuilt ordering row)
  rebuilt_perm row = downs_perm (length row / 2) row (omega arith)

  ups_perm : (count : ℕ) (row : List X) (from : ℕ) → from + count ≤ length row → Perm row (sift_ups ordering count row from)
  unfolding sift_ups
  ups_perm zero row from l = Perm.refl row
  ups_perm (suc count) row from l =
      let p = up_perm ordering row 0 from (omega arith) in
      Perm.trans p (ups_perm count (sift_up ordering row 0 from).row (from + 1) (omega (arith, length_perm p)))

  pub tail_perm : (start : ℕ) (row : List X) → Perm row (tail_rebuilt ordering start row)
  tail_perm start row = grind (arith, nat_tests, Perm.refl row, rebuilt_perm row, ups_perm (length row - start) row start)

  module _ (lawful : Lawful ordering) where
    downs_heap : (n : ℕ) (row : List X) → n ≤ length row → HeapedFrom ordering n row → HeapedFrom ordering 0 (sift_downs ordering n row)
    unfolding sift_downs
    downs_heap zero row l h = h
    downs_heap (suc n) row l h =
        downs_heap n (sift_down ordering row n).row (omega (arith, length_perm (down_perm ordering row n (omega arith)))) (down_heap ordering lawful row n (omega arith) h)

    pub rebuilt_heap : (row : List X) → Heaped ordering (rebuilt ordering row)
    rebuilt_heap row = λ k p q. downs_heap (length row / 2) row (omega arith) (λ k p q r. absurd (omega arith)) k p q (omega arith)

    ups_heap : (count : ℕ) (row : List X) (from : ℕ) → from + count ≡ length row → FrontHeaped ordering from row → Heaped ordering (sift_ups ordering count row from)
    unfolding sift_ups
    ups_heap zero row from l h = λ k p q. h k p (omega arith)
    ups_heap (suc count) row from l h =
        ups_heap count (sift_up ordering row 0 from).row (from + 1) (omega (arith, length_perm (up_perm ordering row 0 from (omega arith))))
        (λ k p q. up_heap ordering lawful row from (omega arith) h k p (omega arith))

    pub tail_heap : (start : ℕ) (row : List X) → FrontHeaped ordering start row → Heaped ordering (tail_rebuilt ordering start row)
    tail_heap start row h = grind (arith, nat_tests, rebuilt_heap row, ups_heap (length row - start) row start)
