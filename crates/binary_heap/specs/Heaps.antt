-- What a heap means.
use Rattle.std.specs.Prelude.{◌≡◌, List}
use Rattle.std.specs.Borrow.{MutBor}
use Rattle.heap_model.specs.Held.{Held, held_of}
use Rattle.binary_heap.specs.declared.BinaryHeap.{BinaryHeap}

module _ {T : Type 0} where
  abbrev pub held : BinaryHeap T → Held T
  held h = held_of h.memory.now h.len

  abbrev pub row_of : BinaryHeap T → List T
  row_of h = (held h).row

-- a heap that holds this, and lies in this memory that was lent: so the lender knows what is in it once the heap ends
pub record HoldsOn {T : Type 0} (memory : MutBor (List T)) (heap : BinaryHeap T) (what : Held T) : Type 0 where
  pub holds : held heap ≡ what
  pub lender : heap.memory.ghost_name ≡ memory.ghost_name
