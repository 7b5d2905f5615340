-- The number of every fault of a record that was read whole, and what it carries.
use Rattle.elements.specs.declared.refusal.Refusal.{Refusal}
use Rattle.elements.specs.Refusals.{by}
use Rattle.heap_model.specs.Faults.{refuses_heap}
use Rattle.kinds.specs.Faults.{refuses_element}
use Rattle.run_step.specs.declared.fault.RecordFault.{RecordFault}
use Rattle.run_step.specs.declared.fault.RecordFault.TheVariants.{Heap, Element, EditOpen, NoEdit}

abbrev pub refuses_record : RecordFault → Refusal
refuses_record (Heap fault) = refuses_heap fault
refuses_record (Element fault) = refuses_element fault
refuses_record EditOpen = by 10
refuses_record NoEdit = by 11
