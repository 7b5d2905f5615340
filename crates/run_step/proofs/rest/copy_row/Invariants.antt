use Rattle.std.proofs.Common.{◌≡◌, take}
use Rattle.binary_heap.specs.Heaps.{row_of}
use Rattle.run_step.proofs.rest.copy_row.Given as goal

abbrev pub invariant-row : goal.invariant-row
invariant-row g l = take l.i l.list ≡ take l.i (row_of l.heap)
