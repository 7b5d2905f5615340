-- The account, from what the calls do to rows.
use Rattle.std.proofs.Common.{◌≡◌, ℕ, ◌+◌, ◌-◌, ◌<◌, ◌≤◌, Bool, true, false, not, ◌||◌, ltb, ◌⊎◌, List, [], ◌∷◌, ◌++◌, length, take, set, Some, Ordering, refl, ◌∙◌, append-nil, arith, length-append, length-drop, length-take, length-set}
use mathlib.Core.List.Perm
use mathlib.Core.List.{Perm, perm_append_comm, perm-append_left_iff}
use Rattle.std.proofs.lemmas.Bool.Decides.{nat_tests}
use Rattle.std.proofs.Math.Seq.{take-length}
use Rattle.std.proofs.lemmas.List.Elements.{All-nil, All-cons, All-head, All-tail}
use Rattle.std.proofs.lemmas.List.{nil_from_length}
use Rattle.std.specs.Prelude.{All, Contains}
use Rattle.elements.specs.Orders.{exceeds, below, Lawful}
use Rattle.keepers.specs.Keeps.{dropped}
use Rattle.rows.specs.Sifts.{sunk}
use Rattle.rows.specs.Rebuilds.{rebuilt}
use Rattle.rows.specs.Heaps.{Heaped, HeapedFrom}
use Rattle.rows.proofs.Bags.{length_perm, down_perm}
use Rattle.rows.proofs.Heaping.{down_heap}
use Rattle.rows.proofs.Rebuilding.{rebuilt_perm, rebuilt_heap}
use Rattle.heap_model.specs.Held.{places_of, leave}
use Rattle.heap_model.specs.Calls.{front, full, pushed_row, pushed, push_answer, popped_row, popped, drained, drain_answer}
use Rattle.heap_model.specs.Growth.{taken, extended, appended_row, appended, appended_from, append_answer, adopted, adopt_answer}
use Rattle.heap_model.specs.Retention.{retained_row, retained}
use Rattle.heap_model.specs.Edits.{Edited, opened, front_set, set_answer, settled_row, settled}
use Rattle.heap_model.proofs.Keeping.{pushed_perm, popped_perm, pushed_heap, popped_heap, extend_perm, extend_heap, appended_perm, appended_heap, kept_perm, retained_perm, retained_heap, greatest, cut_heap}
use Rattle.account.specs.Lives.{Phase, Call, Calls, Effect, made, listed, moving, effect, after, came_in, gone_out, handed_out}
use Rattle.account.specs.Lives.Phase.{shut, editing}
use Rattle.account.specs.Lives.Call.{push, pop, pop_if, extend, adopt, append, append_to, retain, drain, clear, peek_mut, refresh, close, edit_pop}
use Rattle.account.specs.Lives.Calls.{done, next}
use Rattle.account.specs.Account.{times, AllBelow, Accounted}
use Rattle.account.proofs.Counts.{times_perm, times-append, in_turn}

module _ {X : Type 0} (ordering : X → X → Ordering) where
  abbrev Low : X → X → Type 0
  Low level x = below ordering x level ≡ true

  abbrev high : X → X → Bool
  high level x = not (below ordering x level)

  -- nothing in the row exceeds x
  abbrev Tops : X → List X → Type 0
  Tops x row = All (λ y. exceeds ordering y x ≡ false) row

  none_high : (level : X) (xs : List X) → AllBelow ordering level xs → times (high level) xs ≡ 0
  none_high level [] h = refl
  none_high level (x ∷ xs) h = rw (All-head (Low level) x xs h) (none_high level xs (All-tail (Low level) x xs h))

  all_low : (level : X) (xs : List X) → times (high level) xs ≤ 0 → AllBelow ordering level xs
  all_low level [] h = All-nil (Low level)
  all_low level (x ∷ xs) h = grind (arith, all_low level xs, All-cons (Low level) x xs)

  -- what stays true of a heap in each phase
  abbrev Good : Phase → Edited X → Type 0
  Good shut s = Heaped ordering s.heap.row
  Good editing s = HeapedFrom ordering 1 s.heap.row × (s.exposed ≡ false → Heaped ordering s.heap.row)

  -- and that the memory keeps its size, and the row does not pass the places
  record Sound (size : ℕ) (p : Phase) (s : Edited X) : Type 0 where
    good : Good p s
    memory : length s.heap.memory ≡ size
    within : length s.heap.row ≤ places_of size

  -- what each call owes
  record Fine (size : ℕ) (q : Phase) (row : List X) (e : Effect X) : Type 0 where
    balance : Perm (e.comes ++ row) (e.goes ++ e.leaves.heap.row)
    owed : (level : X) → (times (high level) row ≤ 0) ⊎ (length (listed e.hands) ≤ times (high level) e.goes)
    best : (x : X) → e.hands ≡ Some x → Contains row x × Tops x row
    sound : Sound size q e.leaves

  new : (memory : List X) → Sound (length memory) shut (made memory)
  new memory = grind arith

  module _ {size : ℕ} {p : Phase} (q : Phase) (s : Edited X) (k : Sound size p s) where
    -- nothing came, and nothing went
    still : Good q (opened s.heap) → Fine size q s.heap.row (moving [] [] (opened s.heap))
    still g = grind (arith, Perm.refl s.heap.row)

    module _ (comes goes row : List X) (exposed : Bool) (b : Perm (comes ++ s.heap.row) (goes ++ row)) (l : length comes + length s.heap.row ≤ length goes + places_of size) where
      abbrev with_row : Edited X
      with_row = record { heap = leave row s.heap; exposed = exposed }

      -- these came and went, and the row is what is left
      left : Good q with_row → Sound size q with_row
      left g =
          let same : length comes + length s.heap.row ≡ length goes + length row = simp length-append at (length_perm b) in
          grind (arith, length-append {A = X}, length-drop {A = X})

      -- and none of these were handed out
      moves : Good q with_row → Fine size q s.heap.row (moving comes goes with_row)
      moves g = let after = left g in grind arith

  loosened : (row : List X) → Heaped ordering row → HeapedFrom ordering 1 row
  loosened row h k p q r = h k p q

  -- what a call owes of what is held
  abbrev Does : {p q : Phase} → Call X p q → ℕ → Edited X → Type 0
  Does {p} {q} c size s = Sound size p s → Fine size q s.heap.row (effect ordering c s)

  popped_all : (row : List X) → Perm row (listed (front row) ++ popped_row ordering row)
  unfolding popped_row
  popped_all row = let more = λ (d : X) (ds : List X). Perm.cons d (popped_perm ordering d ds) in grind (arith, Perm.refl row, more)

  written : (x : X) (row : List X) → 0 < length row → Perm (x ∷ row) (listed (front row) ++ set row 0 x) × (length (listed (front row)) ≡ 1)
  written x row l = grind (arith, Perm.swap {A = X})

  module _ (lawful : Lawful ordering) where
    tops : (x : X) (row : List X) → front row ≡ Some x → Heaped ordering row → Contains row x × Tops x row
    tops x row e h = grind (arith, greatest ordering lawful x row e h)

    -- what does not exceed an element below the level is below it
    low_under : (level x y : X) → Low level x → exceeds ordering y x ≡ false → Low level y
    low_under level x y l e = grind (arith, lawful.converse, lawful.transitive level y x)

    first_owed : (level : X) (row : List X) → Heaped ordering row → (times (high level) row ≤ 0) ⊎ (length (listed (front row)) ≤ times (high level) (listed (front row)))
    first_owed level row h =
        let low = λ (x : X) (l : Low level x) (e : front row ≡ Some x). none_high level row (λ i d w. low_under level x _ l ((tops x row e h).1 i d w)) in
        grind (arith, low)

    -- the front put in order, if it may not be
    settles : (exposed : Bool) (row : List X) → HeapedFrom ordering 1 row → (exposed ≡ false → Heaped ordering row) → Perm row (settled_row ordering exposed row) × Heaped ordering (settled_row ordering exposed row)
    unfolding settled_row sunk
    settles exposed row h k = grind (arith, Perm.refl row, down_perm ordering row 0, down_heap ordering lawful row 0)

    module _ {size : ℕ} (s : Edited X) where
      push_fine : (x : X) → Does (push x) size s
      unfolding pushed push_answer full
      push_fine x k =
          let on = moves shut s k (x ∷ []) [] (pushed_row ordering x s.heap.row) false (pushed_perm ordering x s.heap.row) in
          grind (arith, nat_tests, still shut s k k.good, on, pushed_heap ordering lawful x s.heap.row k.good)

      extend_fine : (rest : List X) → Does (extend rest) size s
      unfolding extended taken
      extend_fine rest k =
          let more : List X = take (taken rest s.heap) rest in
          moves shut s k more [] _ false (Perm.trans (perm_append_comm more s.heap.row) (extend_perm ordering rest s.heap)) (simp length-take (omega arith)) (extend_heap ordering lawful rest s.heap k.good)

      adopt_fine : (n : ℕ) → Does (adopt n) size s
      unfolding adopted adopt_answer
      adopt_fine n k =
          let row : List X = take n s.heap.memory in
          let on = λ (e : s.heap.row ≡ []). moves shut s k row [] (rebuilt ordering row) false (rw (e, append-nil row) (rebuilt_perm ordering row)) in
          grind (arith, nat_tests, still shut s k k.good, on, rebuilt_heap ordering lawful row, nil_from_length s.heap.row, length-take n s.heap.memory)

      append_fine : (memory : List X) (calls : Calls X shut shut) → Heaped ordering (after ordering calls (made memory)).heap.row → Does (append memory calls) size s
      unfolding appended append_answer
      append_fine memory calls g k =
          let ours : List X = s.heap.row in
          let theirs : List X = (after ordering calls (made memory)).heap.row in
          let on = moves shut s k theirs [] (appended_row ordering ours theirs) false (Perm.trans (perm_append_comm theirs ours) (appended_perm ordering ours theirs)) in
          grind (arith, nat_tests, still shut s k k.good, on, appended_heap ordering lawful ours theirs k.good g)

      cleared_fine : Does clear size s
      cleared_fine k = moves shut s k [] s.heap.row [] false (rw (append-nil s.heap.row) (Perm.refl s.heap.row)) (omega arith) (λ k p q. absurd (omega arith))

      append_to_fine : (memory : List X) (calls : Calls X shut shut) → Does (append_to memory calls) size s
      unfolding appended_from append_answer
      append_to_fine memory calls k = grind (arith, still shut s k k.good, cleared_fine k)

      drain_fine : (room : ℕ) → Does (drain room) size s
      unfolding drained drain_answer
      drain_fine room k = grind (arith, still shut s k k.good, cleared_fine k)

      retain_fine : (says : List X → X → Bool) → Does (retain says) size s
      unfolding retained
      retain_fine says k =
          let row : List X = s.heap.row in
          moves shut s k [] (dropped says [] row) (retained_row ordering says row) false
          (Perm.trans (kept_perm ordering says [] row) (Perm.append_left (dropped says [] row) (retained_perm ordering says row))) (omega arith) (retained_heap ordering lawful says row k.good)

      edit_pop_fine : Does edit_pop size s
      unfolding popped
      edit_pop_fine k = moves shut s k [] (listed (front s.heap.row)) (popped_row ordering s.heap.row) false (popped_all s.heap.row) (omega arith) (popped_heap ordering lawful s.heap.row k.good.0)

      pop_fine : Does pop size s
      unfolding popped
      pop_fine k = record {
        balance = popped_all s.heap.row;
        owed = λ level. first_owed level s.heap.row k.good;
        best = λ x e. tops x s.heap.row e k.good;
        sound = left shut s k [] (listed (front s.heap.row)) (popped_row ordering s.heap.row) false (popped_all s.heap.row) (omega arith) (popped_heap ordering lawful s.heap.row (loosened s.heap.row k.good));
      }

      pop_if_fine : (says : X → Bool) → Does (pop_if says) size s
      unfolding popped
      pop_if_fine says k = grind (arith, still shut s k k.good, pop_fine k)

      settled_fine : (q : Phase) → ((row : List X) → Heaped ordering row → Good q (opened (leave row s.heap))) → Sound size editing s → Fine size q s.heap.row (moving [] [] (opened (settled ordering s)))
      unfolding settled
      settled_fine q good k =
          let o = settles s.exposed s.heap.row k.good.0 k.good.1 in
          moves q s k [] [] (settled_row ordering s.exposed s.heap.row) false o.0 (omega arith) (good _ o.1)

      set_fine : (x : X) → Does (Call.«set» x) size s
      unfolding front_set set_answer
      set_fine x k =
          let row : List X = s.heap.row in
          let put = λ (comes goes : List X). moves editing s k comes goes (set row 0 x) (s.exposed || ltb 1 (length row)) in
          let none = λ (e : row ≡ []). put [] [] (rw e (Perm.refl [])) in
          let some = λ (l : 0 < length row). put (x ∷ []) (listed (front row)) (written x row l).0 in
          let behind : HeapedFrom ordering 1 (set row 0 x) = rw take-length at (cut_heap ordering (length row) x row k.good.0) in
          grind (arith, nat_tests, none, some, behind, written x row, nil_from_length row, length-set row 0 x)

    mutual
      fine : {size : ℕ} {p q : Phase} (c : Call X p q) (s : Edited X) → Does c size s
      fine (push x) s k = push_fine s x k
      fine pop s k = pop_fine s k
      fine (pop_if says) s k = pop_if_fine s says k
      fine (extend rest) s k = extend_fine s rest k
      fine (adopt n) s k = adopt_fine s n k
      fine (append memory calls) s k = append_fine s memory calls (run calls (made memory) (new memory)).good k
      fine (append_to memory calls) s k = append_to_fine s memory calls k
      fine (retain says) s k = retain_fine s says k
      fine (drain room) s k = drain_fine s room k
      fine clear s k = cleared_fine s k
      fine peek_mut s k = still editing s k (loosened s.heap.row k.good, λ e. k.good)
      fine (Call.«set» x) s k = set_fine s x k
      fine refresh s k = settled_fine s editing (λ row o. (loosened row o, λ e. o)) k
      fine close s k = settled_fine s shut (λ row o. o) k
      fine edit_pop s k = edit_pop_fine s k

      run : {size : ℕ} {p q : Phase} (cs : Calls X p q) (s : Edited X) → Sound size p s → Sound size q (after ordering cs s)
      run done s k = k
      run (next c cs) s k = run cs (effect ordering c s).leaves (fine c s k).sound

    balances : {size : ℕ} {p q : Phase} (cs : Calls X p q) (s : Edited X) → Sound size p s → Perm (came_in ordering cs s ++ s.heap.row) (gone_out ordering cs s ++ (after ordering cs s).heap.row)
    balances done s k = Perm.refl s.heap.row
    balances (next c cs) s k =
        let f = fine c s k in
        let rest = balances cs (effect ordering c s).leaves f.sound in
        search (in_turn, f.balance, rest)

    falls : (level : X) {size : ℕ} {p q : Phase} (cs : Calls X p q) (s : Edited X) → Sound size p s → times (high level) (came_in ordering cs s) ≡ 0
        → times (high level) (after ordering cs s).heap.row ≤ times (high level) s.heap.row - length (handed_out ordering cs s)
    falls level done s k low = omega arith
    falls level (next c cs) s k low =
        let f = fine c s k in
        let same = times_perm (high level) f.balance in
        let owed = f.owed level in
        let more = falls level cs (effect ordering c s).leaves f.sound in
        grind (arith, times-append (high level), length-append {A = X})

    pub accounted : Accounted ordering
    accounted memory p calls =
        let came : List X = came_in ordering calls (made memory) in
        let gone : List X = gone_out ordering calls (made memory) in
        let s : Edited X = after ordering calls (made memory) in
        let row : List X = s.heap.row in
        let k : Sound (length memory) p s = run calls (made memory) (new memory) in
        let b : Perm came (gone ++ row) = rw append-nil at (balances calls (made memory) (new memory)) in
        record {
          ordered = λ e. grind (arith, k.good);
          counted = λ is. times_perm is b ∙ times-append is gone row;
          balanced = b;
          held = λ xs. (λ h. (perm-append_left_iff gone).0 (Perm.trans (Perm.symm h) b), λ h. Perm.trans b (Perm.append_left gone (Perm.symm h)));
          best = λ q c. (fine c s k).best;
          pop_none = let held = length_perm b ∙ length-append gone row in grind arith;
          pop_if_none = λ says. grind arith;
          levels = λ level n q later is low enough. let m = falls level later s k (none_high level _ low) in all_low level _ (omega arith);
          memory = k.memory;
          within = k.within;
        }
