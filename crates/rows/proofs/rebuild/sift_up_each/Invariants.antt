use Rattle.std.proofs.Common.{◌≡◌}
use Rattle.rows.proofs.Turns.{ups_from}
use Rattle.rows.proofs.rebuild.sift_up_each.Given as goal

abbrev pub invariant-ups : goal.invariant-ups
invariant-ups g l = ups_from g.T.Element.ordering l.row l.i ≡ ups_from g.T.Element.ordering l.fn.row l.start
