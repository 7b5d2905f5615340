-- The calls keep heap order, lose nothing, and hand out the greatest.
use Rattle.std.proofs.Common.{◌≡◌, ℕ, zero, suc, ◌<◌, Bool, false, List, [], ◌∷◌, ◌++◌, length, get_or, take, set, Some, Ordering, arith, length-append, length-set, length-take, get_or-set_other, get_or-take}
use mathlib.Core.List.Perm
use mathlib.Core.List.{Perm, perm_middle, perm_append_comm, perm_append_singleton}
use Rattle.std.proofs.lemmas.Bool.Decides.{nat_tests}
use Rattle.std.proofs.lemmas.List.{get_or_append_left}
use Rattle.std.specs.Prelude.{All}
use Rattle.elements.specs.Orders.{exceeds, Lawful}
use Rattle.keepers.specs.Keeps.{kept, dropped, first_no}
use Rattle.keepers.proofs.Kept.{kept_few, kept_all, first_few}
use Rattle.rows.specs.Sifts.{sunk, sift_up}
use Rattle.rows.specs.Rebuilds.{tail_rebuilt}
use Rattle.rows.specs.Heaps.{Heaped, FrontHeaped, HeapedFrom}
use Rattle.rows.proofs.Bags.{length_perm, up_perm, bottom_perm}
use Rattle.rows.proofs.Heaping.{up_heap, bottom_heap, front_greatest}
use Rattle.rows.proofs.Rebuilding.{tail_perm, tail_heap}
use Rattle.heap_model.specs.Held.{Held}
use Rattle.heap_model.specs.Calls.{front, pushed_row, popped_row, last_in_front}
use Rattle.heap_model.specs.Growth.{taken, extended_row, extended, appended_row}
use Rattle.heap_model.specs.Retention.{retained_row}

-- the last element, taken to the front
last_first : {X : Type 0} (y : X) (zs : List X) (d : X) → Perm (y ∷ zs) (get_or (y ∷ zs) (length zs) d ∷ take (length zs) (y ∷ zs))
last_first y [] d = Perm.refl (y ∷ [])
last_first y (z ∷ zs) d = Perm.trans (Perm.cons y (last_first z zs d)) (Perm.swap (get_or (z ∷ zs) (length zs) d) y (take (length zs) (z ∷ zs)))

module _ {X : Type 0} (ordering : X → X → Ordering) where
  pub pushed_perm : (x : X) (row : List X) → Perm (x ∷ row) (pushed_row ordering x row)
  unfolding pushed_row
  pushed_perm x row = Perm.trans (Perm.symm (perm_append_singleton x row)) (up_perm ordering _ 0 (length row) (simp length-append (omega arith)))

  pub popped_perm : (d : X) (ds : List X) → Perm ds (popped_row ordering (d ∷ ds))
  unfolding popped_row sunk sift_up
  popped_perm d [] = Perm.refl []
  popped_perm d (y ∷ ys) = Perm.trans (last_first y ys d) (bottom_perm ordering (last_in_front ordering d (y ∷ ys)) 0 (omega arith))

  -- a heap with more behind it
  front_heap : (row more : List X) → Heaped ordering row → FrontHeaped ordering (length row) (row ++ more)
  front_heap row more h k p q d = grind (arith, h k p q d, get_or_append_left row more d)

  -- however much of a row is kept, and whatever is written at its front, what stands behind the front stays in order
  pub cut_heap : (m : ℕ) (x : X) (row : List X) → HeapedFrom ordering 1 row → HeapedFrom ordering 1 (set (take m row) 0 x)
  cut_heap m x row h k p q r d = grind (arith, h k p, length-set (take m row) 0 x, length-take m row, get_or-set_other (take m row) 0, get_or-take m row)

  module _ (lawful : Lawful ordering) where
    pub pushed_heap : (x : X) (row : List X) → Heaped ordering row → Heaped ordering (pushed_row ordering x row)
    unfolding pushed_row
    pushed_heap x row h =
        let all : List X = row ++ (x ∷ []) in
        let long : length all ≡ suc (length row) = simp length-append (omega arith) in
        let same = length_perm (up_perm ordering all 0 (length row) (omega arith)) in
        rw (← same, long) (up_heap ordering lawful all (length row) (omega arith) (front_heap row (x ∷ []) h))

    pub popped_heap : (row : List X) → HeapedFrom ordering 1 row → Heaped ordering (popped_row ordering row)
    unfolding popped_row
    popped_heap [] h = λ k p q. absurd (omega arith)
    popped_heap (d ∷ ds) h = bottom_heap ordering lawful (last_in_front ordering d ds) (cut_heap (length ds) _ (d ∷ ds) h)

  pub extend_perm : (rest : List X) (h : Held X) → Perm (h.row ++ take (taken rest h) rest) (extended ordering rest h).row
  unfolding extended extended_row
  extend_perm rest h = tail_perm ordering (length h.row) _

  pub appended_perm : (ours theirs : List X) → Perm (ours ++ theirs) (appended_row ordering ours theirs)
  unfolding appended_row
  appended_perm ours theirs =
      grind (arith, nat_tests, tail_perm ordering (length ours) (ours ++ theirs), Perm.trans (perm_append_comm ours theirs) (tail_perm ordering (length theirs) (theirs ++ ours)))

  module _ (says : List X → X → Bool) where
    pub kept_perm : (past xs : List X) → Perm xs (dropped says past xs ++ kept says past xs)
    kept_perm past [] = Perm.refl []
    kept_perm past (x ∷ xs) =
        let more = Perm.cons x (kept_perm (x ∷ past) xs) in
        let middle = Perm.trans more (Perm.symm (perm_middle (dropped says (x ∷ past) xs) (kept says (x ∷ past) xs))) in
        grind arith

    pub retained_perm : (row : List X) → Perm (kept says [] row) (retained_row ordering says row)
    unfolding retained_row
    retained_perm row =
        let ks : List X = kept says [] row in
        grind (arith, nat_tests, tail_perm ordering (first_no says [] row) ks, kept_all says [] row, Perm.refl ks)

    -- up to the first with a no, those kept are the row
    kept_same : (past xs : List X) (k : ℕ) (d : X) → k < first_no says past xs → get_or xs k d ≡ get_or (kept says past xs) k d
    kept_same past [] k d l = absurd (omega arith)
    kept_same past (x ∷ xs) zero d l = grind arith
    kept_same past (x ∷ xs) (suc i) d l = grind (arith, kept_same (x ∷ past) xs i d)

  module _ (lawful : Lawful ordering) where
    pub greatest : (x : X) (row : List X) → front row ≡ Some x → Heaped ordering row → All (λ y. exceeds ordering y x ≡ false) row
    greatest x row e h i d l = grind (arith, front_greatest ordering lawful row h i d l)

    added_heap : (row more : List X) → Heaped ordering row → Heaped ordering (tail_rebuilt ordering (length row) (row ++ more))
    added_heap row more h = tail_heap ordering lawful (length row) (row ++ more) (front_heap row more h)

    pub extend_heap : (rest : List X) (h : Held X) → Heaped ordering h.row → Heaped ordering (extended ordering rest h).row
    unfolding extended extended_row
    extend_heap rest h o = added_heap h.row (take (taken rest h) rest) o

    pub appended_heap : (ours theirs : List X) → Heaped ordering ours → Heaped ordering theirs → Heaped ordering (appended_row ordering ours theirs)
    unfolding appended_row
    appended_heap ours theirs h i = grind (arith, added_heap ours theirs h, added_heap theirs ours i)

    pub retained_heap : (says : List X → X → Bool) (row : List X) → Heaped ordering row → Heaped ordering (retained_row ordering says row)
    unfolding retained_row
    retained_heap says row h =
        let ks : List X = kept says [] row in
        let n : ℕ = first_no says [] row in
        let few = first_few says [] row in
        let less = kept_few says [] row in
        let tail = tail_heap ordering lawful n ks (λ k p q d. grind (arith, h k p, kept_same says [] row)) in
        grind (arith, tail)
