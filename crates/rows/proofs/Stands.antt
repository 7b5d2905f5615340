-- The laws of the sifts and of rebuilding, gathered.
use Rattle.std.proofs.Common.{Ordering}
use Rattle.elements.specs.Orders.{Lawful}
use Rattle.rows.specs.Laws.{Rearranges, PutsInOrder}
use Rattle.rows.proofs.Bags.{up_perm, down_perm, bottom_perm}
use Rattle.rows.proofs.Rebuilding.{rebuilt_perm, tail_perm, rebuilt_heap, tail_heap}
use Rattle.rows.proofs.Heaping.{up_heap, down_heap, bottom_heap, front_greatest}

module _ {X : Type 0} (ordering : X → X → Ordering) where
  pub rearranges : Rearranges ordering
  rearranges = record { up = up_perm ordering; down = down_perm ordering; bottom = bottom_perm ordering; rebuild = rebuilt_perm ordering; tail = tail_perm ordering }

  pub puts_in_order : Lawful ordering → PutsInOrder ordering
  puts_in_order lawful = record {
    up = up_heap ordering lawful;
    down = down_heap ordering lawful;
    bottom = bottom_heap ordering lawful;
    rebuild = rebuilt_heap ordering lawful;
    tail = tail_heap ordering lawful;
    front = front_greatest ordering lawful;
  }
