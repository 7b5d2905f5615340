-- The number of every fault of a heap, and what it carries.
use Rattle.elements.specs.declared.refusal.Refusal.{Refusal}
use Rattle.elements.specs.Refusals.{by, by_with}
use Rattle.heap_model.specs.declared.fault.TryReserveErrorKind.{TryReserveErrorKind}
use Rattle.heap_model.specs.declared.fault.TryReserveErrorKind.TheVariants.{CapacityOverflow, AllocError}
use Rattle.heap_model.specs.declared.fault.HeapFault.{HeapFault}
use Rattle.heap_model.specs.declared.fault.HeapFault.TheVariants.{Row, NotEmpty, EmptyEdit, ShortList}

abbrev pub refuses_row : TryReserveErrorKind → Refusal
refuses_row CapacityOverflow = by 1
refuses_row (AllocError count) = by_with 2 count

abbrev pub refuses_heap : HeapFault → Refusal
refuses_heap (Row fault) = refuses_row fault
refuses_heap NotEmpty = by 3
refuses_heap EmptyEdit = by 4
refuses_heap ShortList = by 5
