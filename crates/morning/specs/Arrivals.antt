-- The clauses of a morning: one that arrives is made, and then pushed.
use Rattle.std.specs.Prelude.{ℕ, List, [], ◌∷◌, Some, None, Option}
use Rattle.elements.specs.declared.clause.Clause.{Clause}
use Rattle.elements.specs.declared.refusal.Refusal.{Refusal}
use Rattle.elements.specs.Refusals.{Answer}
use Rattle.elements.specs.Refusals.Answer.{accepted, refused}
use Rattle.elements.specs.Clauses.{refuses_clause, by_rank}
use Rattle.heap_model.specs.Faults.{refuses_heap}
use Rattle.heap_model.specs.Held.{Held}
use Rattle.heap_model.specs.Calls.{pushed, push_answer}
use Rattle.morning.specs.declared.ArrivalFault.{ArrivalFault}
use Rattle.morning.specs.declared.ArrivalFault.TheVariants.{Clause as OfClause, Heap as OfHeap}

abbrev pub refuses_arrival : ArrivalFault → Refusal
refuses_arrival (OfClause fault) = refuses_clause fault
refuses_arrival (OfHeap fault) = refuses_heap fault

abbrev pub arrival_answer : Answer Clause → Held Clause → Answer (Unit {0})
arrival_answer (accepted clause) h = push_answer h
arrival_answer (refused r) h = refused r

abbrev pub arrived : Answer Clause → Held Clause → Held Clause
arrived (accepted clause) h = pushed by_rank clause h
arrived (refused r) h = h

abbrev pub number_of : Option Clause → Option ℕ
number_of None = None
number_of (Some clause) = Some clause.number

abbrev pub standing_clauses : List Clause
standing_clauses =
    record { rank = 4; number = 1; discount = 40 }
    ∷ record { rank = 1; number = 2; discount = 10 }
    ∷ record { rank = 2; number = 3; discount = 20 }
    ∷ []
