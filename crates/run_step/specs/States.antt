-- What the two heaps of a run hold.
use Rattle.std.specs.Prelude.{List, Ok, Err, Result}
use Rattle.elements.specs.Refusals.{Answer}
use Rattle.elements.specs.Refusals.Answer.{accepted, refused}
use Rattle.heap_model.specs.Held.{Held, empty_on}
use Rattle.heap_model.specs.Edits.{Edited}
use Rattle.account.specs.Lives.{Phase}
use Rattle.account.specs.Lives.Phase.{shut, editing}
use Rattle.binary_heap.specs.Heaps.{held}
use Rattle.binary_heap.specs.Edits.{edited}
use Rattle.run_lines.specs.declared.reply.Reply.{Reply}
use Rattle.run_lines.specs.Replies.{Said, said}
use Rattle.run_step.specs.declared.fault.RecordFault.{RecordFault}
use Rattle.run_step.specs.declared.heaps.State.{State}
use Rattle.run_step.specs.declared.heaps.State.TheVariants.{Closed, Open}
use Rattle.run_step.specs.declared.heaps.Heaps.{Heaps}
use Rattle.run_step.specs.Faults.{refuses_record}

-- the heap in use, at rest or in an edit
pub data InUse (X : Type 0) : Type 0 where
  resting : Held X → InUse X
  edit : Edited X → InUse X

pub record Both (X : Type 0) : Type 0 where
  pub in_use : InUse X
  pub aside : Held X

module _ {X : Type 0} where
  abbrev pub in_use_of : State X → InUse X
  in_use_of (Closed heap) = resting (held heap)
  in_use_of (Open e) = edit (edited e)

  abbrev pub both : Heaps X → Both X
  both heaps = record { in_use = in_use_of heaps.state; aside = held heaps.other }

  -- two heaps just made on two memories
  abbrev pub begun : List X → List X → Both X
  begun first second = record { in_use = resting (empty_on first); aside = empty_on second }

  -- a record's answer as it is told, where elements stand at the front of a list
  abbrev pub told_of : List X → Result (Reply X) RecordFault → Answer (Said X)
  told_of list (Ok reply) = accepted (said list reply)
  told_of list (Err fault) = refused (refuses_record fault)

  -- by the phase, what is held of the heap in use
  abbrev pub in_phase : Phase → Edited X → InUse X
  in_phase shut s = resting s.heap
  in_phase editing s = edit s
