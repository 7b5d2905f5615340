-- The number of every fault of an element's bytes.
use Rattle.elements.specs.declared.refusal.Refusal.{Refusal}
use Rattle.elements.specs.Refusals.{by}
use Rattle.elements.specs.Clauses.{refuses_clause}
use Rattle.kinds.specs.declared.fault.ElementFault.{ElementFault}
use Rattle.kinds.specs.declared.fault.ElementFault.TheVariants.{Clause, CutShort}

abbrev pub refuses_element : ElementFault → Refusal
refuses_element (Clause fault) = refuses_clause fault
refuses_element CutShort = by 9
