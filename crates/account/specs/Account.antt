-- The account of a heap over its whole life.
use Rattle.std.specs.Prelude.{◌≡◌, ℕ, suc, ◌+◌, ◌≤◌, Bool, true, false, if◌then◌else◌, not, ◌↔◌, List, [], ◌∷◌, ◌++◌, length, Some, None, All, Contains}
use Rattle.std.specs.declared.cmp.Ordering.{Ordering}
use mathlib.Core.List.{Perm}
use Rattle.elements.specs.Orders.{exceeds, below}
use Rattle.rows.specs.Heaps.{Heaped}
use Rattle.heap_model.specs.Held.{Held, places_of}
use Rattle.heap_model.specs.Calls.{pop_answer, pop_if_answer}
use Rattle.heap_model.specs.Growth.{appended, appended_from, append_answer}
use Rattle.heap_model.specs.Edits.{Edited, opened}
use Rattle.account.specs.Lives.{Phase, Call, Calls, made, if_accepted, effect, after, came_in, gone_out, handed_out}
use Rattle.account.specs.Lives.Phase.{shut}

-- how many of a list a test says yes to
abbrev pub times : {X : Type 0} → (X → Bool) → List X → ℕ
times is [] = 0
times is (x ∷ xs) = if is x then suc (times is xs) else times is xs

module _ {X : Type 0} (ordering : X → X → Ordering) where
  abbrev pub AllBelow : X → List X → Type 0
  AllBelow level xs = All (λ x. below ordering x level ≡ true) xs

  -- of a heap on a memory of this size, in a phase, where these came in and went out and this is held
  pub record Account (size : ℕ) (p : Phase) (came gone : List X) (s : Edited X) : Type 0 where
    -- while no edit is open, no element exceeds its parent
    pub ordered : p ≡ shut → Heaped ordering s.heap.row
    -- for every test on elements, times come in = times gone out + times in the row
    pub counted : (is : X → Bool) → times is came ≡ times is gone + times is s.heap.row
    -- what came in is what went out and what is in the row, each counted by its value
    pub balanced : Perm came (gone ++ s.heap.row)
    -- so held, what came in less what went out, is the row, in whatever order it is told
    pub held : (xs : List X) → Perm came (gone ++ xs) ↔ Perm xs s.heap.row
    -- whatever the heap's pop or pop_if hands out next was held, and nothing held exceeds it
    pub best : (q : Phase) (c : Call X p q) (x : X) → (effect ordering c s).hands ≡ Some x → Contains s.heap.row x × All (λ y. exceeds ordering y x ≡ false) s.heap.row
    -- pop answers none exactly when as many had gone out as come in
    pub pop_none : (pop_answer s.heap ≡ None) ↔ (length gone ≡ length came)
    -- pop_if answers none exactly when pop would, or when the keeper says no to what pop would answer
    pub pop_if_none : (says : X → Bool) → (pop_if_answer says s.heap ≡ None) ↔ ((x : X) → pop_answer s.heap ≡ Some x → says x ≡ false)
    -- if n held elements are not below a level, and all later arrivals are below it, then once n more were handed out everything held is below it
    pub levels : (level : X) (n : ℕ) (q : Phase) (later : Calls X p q)
        → times (λ x. not (below ordering x level)) s.heap.row ≡ n
        → AllBelow level (came_in ordering later s)
        → n ≤ length (handed_out ordering later s)
        → AllBelow level (after ordering later s).heap.row
    -- the memory keeps its size, and the row never passes the places
    pub memory : length s.heap.memory ≡ size
    pub within : length s.heap.row ≤ places_of size

  -- of every heap, on any memory, that lived through any calls
  abbrev pub Accounted : Type 0
  Accounted = (memory : List X) (p : Phase) (calls : Calls X shut p)
      → Account (length memory) p (came_in ordering calls (made memory)) (gone_out ordering calls (made memory)) (after ordering calls (made memory))

  -- a heap that holds s in a phase has lived by the account: it was made on a memory, and only calls have changed it since
  pub record Lived (p : Phase) (came gone : List X) (s : Edited X) : Type 0 where
    pub memory : List X
    pub calls : Calls X shut p
    pub came_is : came ≡ came_in ordering calls (made memory)
    pub gone_is : gone ≡ gone_out ordering calls (made memory)
    pub is : s ≡ after ordering calls (made memory)

  -- what lived by the account as s lives on by it as t, through one call
  abbrev pub LivesOn : {p q : Phase} → Call X p q → Edited X → Edited X → Type 0
  LivesOn {p} {q} c s t = (came gone : List X) → Lived p came gone s → Lived q (came ++ (effect ordering c s).comes) (gone ++ (effect ordering c s).goes) t

  -- so do both heaps of an append: what goes out of one comes into the other
  abbrev pub BothLiveOn : Held X → Held X → Held X → Held X → Type 0
  BothLiveOn h o h' o' = (came gone came' gone' : List X) → Lived shut came gone (opened h) → Lived shut came' gone' (opened o)
      → Lived shut (came ++ if_accepted (append_answer h o) o.row) gone (opened h') × Lived shut came' (gone' ++ if_accepted (append_answer h o) o.row) (opened o')

  -- the promise: every heap starts by the account, lives on by it through every call, and keeps it
  pub record Promise : Type 0 where
    pub accounted : Accounted
    pub starts : (memory : List X) → Lived shut [] [] (made memory)
    pub goes_on : (p q : Phase) (c : Call X p q) (s : Edited X) → LivesOn c s (effect ordering c s).leaves
    pub both_go_on : (h o : Held X) → BothLiveOn h o (appended ordering h o) (appended_from h o)
    pub lived : (p : Phase) (came gone : List X) (s : Edited X) (l : Lived p came gone s) → Account (length l.memory) p came gone s
