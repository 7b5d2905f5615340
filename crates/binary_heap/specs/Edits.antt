-- What an edit means.
use Rattle.std.specs.Prelude.{◌≡◌, List}
use Rattle.std.specs.Borrow.{MutBor}
use Rattle.heap_model.specs.Edits.{Edited}
use Rattle.binary_heap.specs.declared.edit.PeekMut.{PeekMut}
use Rattle.binary_heap.specs.Heaps.{held}

abbrev pub edited : {T : Type 0} → PeekMut T → Edited T
edited e = record { heap = held e.heap; exposed = e.exposed }

-- an edit of this, whose heap lies in this memory
pub record EditsOn {T : Type 0} (memory : MutBor (List T)) (edit : PeekMut T) (what : Edited T) : Type 0 where
  pub holds : edited edit ≡ what
  pub lender : edit.heap.memory.ghost_name ≡ memory.ghost_name
