-- One of the definitions to open is the logic's own, which an attribute cannot name.
use Rattle.std.proofs.Common.{rules}
use Rattle.std.proofs.lemmas.List.Elements.{All-from_recursion}
use lib.Count.{count_leading_zeros}
use Rattle.rows.specs.Sifts.{rise, sink, sift_up, sunk}
use Rattle.rows.specs.Rebuilds.{sift_downs, sift_ups}
use Rattle.heap_model.specs.Calls.{full, pushed_row, pushed, popped_row, popped}
use Rattle.heap_model.specs.Edits.{front_set, settled_row, settled, refresh_answer}
use Rattle.heap_model.specs.Growth.{taken, extend_answer, extended_row, extended, appended_row, appended}
use Rattle.heap_model.specs.Retention.{retained_row, retained}
use Rattle.heap_model.specs.Examples.{Holds, examples}
use Rattle.heap_model.proofs.laws.examples_hold.Goals as goal

pub returns : goal.returns
unfolding count_leading_zeros rise sink sift_up sunk sift_downs sift_ups full pushed_row pushed popped_row popped taken extend_answer extended_row extended appended_row appended retained_row retained front_set settled_row settled refresh_answer
returns c = All-from_recursion Holds examples (search rules)
