use Rattle.std.proofs.Common.{◌≡◌, ◌+◌, length}
use Rattle.binary_heap.specs.Heaps.{held}
use Rattle.morning.proofs.hand_out.Given as goal

abbrev pub invariant-out : goal.invariant-out
invariant-out l = l.count + length (held l.heap).row ≡ length (held l.initial.heap).row

abbrev pub decreases-out : goal.decreases-out
decreases-out l = length (held l.heap).row
