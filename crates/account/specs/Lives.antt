-- The life of a heap: the calls on it from its making on, and what each of them moves.
use Rattle.std.specs.Prelude.{ℕ, Bool, List, [], ◌∷◌, ◌++◌, take, Some, None, Option}
use Rattle.std.specs.declared.cmp.Ordering.{Ordering}
use Rattle.elements.specs.Refusals.{Answer}
use Rattle.elements.specs.Refusals.Answer.{accepted, refused}
use Rattle.keepers.specs.Keeps.{dropped}
use Rattle.heap_model.specs.Held.{Held, empty_on}
use Rattle.heap_model.specs.Calls.{pushed, push_answer, popped, pop_answer, popped_if, pop_if_answer, cleared, drained, drain_answer}
use Rattle.heap_model.specs.Growth.{taken, extended, appended, appended_from, append_answer, adopted, adopt_answer}
use Rattle.heap_model.specs.Retention.{retained}
use Rattle.heap_model.specs.Edits.{Edited, opened, front_set, set_answer, refreshed, settled}

-- whether an edit is open
pub data Phase : Type 0 where
  shut : Phase
  editing : Phase

mutual
  -- a call with what it is given, from the phase that it asks to the phase that it leaves
  pub data Call (X : Type 0) : Phase → Phase → Type 0 where
    push : X → Call X shut shut
    pop : Call X shut shut
    -- what the keeper says to an element
    pop_if : (X → Bool) → Call X shut shut
    -- the elements that the supply has to come
    extend : List X → Call X shut shut
    adopt : ℕ → Call X shut shut
    -- the other heap, by its memory as it was lent and the calls that it lived through
    append : List X → Calls X shut shut → Call X shut shut
    -- this heap is the other one of such a heap's append
    append_to : List X → Calls X shut shut → Call X shut shut
    -- what the keeper says to an element, once others were put to it
    retain : (List X → X → Bool) → Call X shut shut
    -- the length of the lent list
    drain : ℕ → Call X shut shut
    clear : Call X shut shut
    peek_mut : Call X shut editing
    «set» : X → Call X editing editing
    refresh : Call X editing editing
    close : Call X editing shut
    edit_pop : Call X editing shut

  -- any number of calls, each meeting what the one before it left
  pub data Calls (X : Type 0) : Phase → Phase → Type 0 where
    done : {p : Phase} → Calls X p p
    next : {p q r : Phase} → Call X p q → Calls X q r → Calls X p r

-- what a call does: what is held then, what comes in, what goes out, and what the heap's pop or pop_if hands out
pub record Effect (X : Type 0) : Type 0 where
  pub leaves : Edited X
  pub comes : List X
  pub goes : List X
  pub hands : Option X

module _ {X : Type 0} where
  -- a heap just made on this memory
  abbrev pub made : List X → Edited X
  made memory = opened (empty_on memory)

  abbrev pub listed : Option X → List X
  listed None = []
  listed (Some x) = x ∷ []

  -- a refusal moves nothing
  abbrev pub if_accepted : {A : Type 0} → Answer A → List X → List X
  if_accepted (accepted a) xs = xs
  if_accepted (refused r) xs = []

  abbrev pub moving : List X → List X → Edited X → Effect X
  moving comes goes leaves = record { leaves = leaves; comes = comes; goes = goes; hands = None }

  abbrev pub handing : Option X → Edited X → Effect X
  handing hands leaves = record { leaves = leaves; comes = []; goes = listed hands; hands = hands }

module _ {X : Type 0} (ordering : X → X → Ordering) where
  abbrev mutual
    pub effect : {p q : Phase} → Call X p q → Edited X → Effect X
    effect (push x) s = moving (if_accepted (push_answer s.heap) (x ∷ [])) [] (opened (pushed ordering x s.heap))
    effect pop s = handing (pop_answer s.heap) (opened (popped ordering s.heap))
    effect (pop_if says) s = handing (pop_if_answer says s.heap) (opened (popped_if ordering says s.heap))
    effect (extend rest) s = moving (take (taken rest s.heap) rest) [] (opened (extended ordering rest s.heap))
    effect (adopt n) s = moving (if_accepted (adopt_answer n s.heap) (take n s.heap.memory)) [] (opened (adopted ordering n s.heap))
    effect (append memory calls) s =
        let other : Held X = (after calls (made memory)).heap in
        moving (if_accepted (append_answer s.heap other) other.row) [] (opened (appended ordering s.heap other))
    effect (append_to memory calls) s =
        let taker : Held X = (after calls (made memory)).heap in
        moving [] (if_accepted (append_answer taker s.heap) s.heap.row) (opened (appended_from taker s.heap))
    effect (retain says) s = moving [] (dropped says [] s.heap.row) (opened (retained ordering says s.heap))
    effect (drain room) s = moving [] (if_accepted (drain_answer room s.heap) s.heap.row) (opened (drained room s.heap))
    effect clear s = moving [] s.heap.row (opened (cleared s.heap))
    effect peek_mut s = moving [] [] (opened s.heap)
    effect («set» x) s = moving (if_accepted (set_answer s) (x ∷ [])) (if_accepted (set_answer s) (listed (pop_answer s.heap))) (front_set x s)
    effect refresh s = moving [] [] (refreshed ordering s)
    effect close s = moving [] [] (opened (settled ordering s))
    effect edit_pop s = moving [] (listed (pop_answer s.heap)) (opened (popped ordering s.heap))

    -- what is held after calls
    pub after : {p q : Phase} → Calls X p q → Edited X → Edited X
    after done s = s
    after (next c cs) s = after cs (effect c s).leaves

  abbrev pub came_in : {p q : Phase} → Calls X p q → Edited X → List X
  came_in done s = []
  came_in (next c cs) s = (effect c s).comes ++ came_in cs (effect c s).leaves

  abbrev pub gone_out : {p q : Phase} → Calls X p q → Edited X → List X
  gone_out done s = []
  gone_out (next c cs) s = (effect c s).goes ++ gone_out cs (effect c s).leaves

  abbrev pub handed_out : {p q : Phase} → Calls X p q → Edited X → List X
  handed_out done s = []
  handed_out (next c cs) s = listed (effect c s).hands ++ handed_out cs (effect c s).leaves
