-- The search alone stops at its limit: a turn is named with what the keeper answered.
use Rattle.std.proofs.Common.{rules}
use Rattle.keepers.proofs.Closing.{keeps, drops}
use Rattle.keepers.proofs.close_up.close_up.Goals as goal

pub closing-preserved-then-not-keep : goal.closing-preserved-then-not-keep
closing-preserved-then-not-keep g c =
    let turn = drops _ _ _ _ _ _ _ _ _ c.index-row-i.result c.or-first.result c.closing.invariant c.keep.ensures.next in
    search (rules, turn)

pub closing-preserved : goal.closing-preserved
closing-preserved g c =
    let turn = keeps _ _ _ _ _ _ _ _ _ c.index-row-i.result c.closing.invariant c.keep.ensures.next in
    search (rules, turn)
