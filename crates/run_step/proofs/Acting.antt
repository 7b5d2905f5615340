-- What acted in place was carried out, whatever the list and the other heap.
use Rattle.std.proofs.Common.{List, length, Ordering}
use Rattle.binary_heap.specs.Heaps.{held}
use Rattle.kinds.specs.Codecs.{Codec}
use Rattle.run_file.specs.Records.{Asked}
use Rattle.run_step.specs.declared.heaps.Stepped.{Stepped}
use Rattle.run_step.specs.States.{InUse, in_use_of}
use Rattle.run_step.specs.Steps.{Acts, StepsInto}

pub acts_into : {X : Type 0} (ordering : X → X → Ordering) (codec : Codec X) (list : List X) (before : InUse X) (a : Asked) (s : Stepped X) → Acts ordering codec before (in_use_of s.heaps.state) a s.answer → StepsInto ordering codec list before (held s.heaps.other) a s
acts_into ordering codec list before a s acts = record { heaps = acts.heap (length list) _; answer = acts.answer list _ }
