-- The search alone stops at its limit on the two facts together.
use Rattle.std.proofs.Common.{rules}
use Rattle.rows.proofs.Rises.{moves}
use Rattle.rows.proofs.sift.sift_up.Goals as goal

pub sift-preserved : goal.sift-preserved
sift-preserved g c = search (rules, moves)
