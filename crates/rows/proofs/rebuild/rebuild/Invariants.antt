use Rattle.std.proofs.Common.{◌≡◌}
use Rattle.rows.specs.Rebuilds.{sift_downs, rebuilt}
use Rattle.rows.proofs.rebuild.rebuild.Given as goal

abbrev pub invariant-downs : goal.invariant-downs
invariant-downs g l = sift_downs g.T.Element.ordering l.n l.row ≡ rebuilt g.T.Element.ordering l.fn.row
