use Rattle.keepers.proofs.Closing.{Closing}
use Rattle.keepers.proofs.close_up.close_up.Given as goal

abbrev pub invariant-closing : goal.invariant-closing
invariant-closing g l =
    let k = g.K.Keeper in
    Closing k.step (k.holds l.fn.keeper) l.fn.row l.i l.count l.first l.row (k.holds l.keeper)
