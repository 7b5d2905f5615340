use Rattle.std.proofs.Common.{◌≡◌, ◌-◌, ◌<◌, length}
use Rattle.rows.specs.Sifts.{sift_up}
use Rattle.rows.proofs.Rises.{risen}
use Rattle.rows.proofs.sift.sift_up.Given as goal

abbrev pub invariant-sift : goal.invariant-sift
invariant-sift g l =
    let ordering = g.T.Element.ordering in
    (l.hole < length l.row) × (risen ordering l.start l.value l.row l.hole ≡ sift_up ordering l.fn.row l.start l.pos)

abbrev pub decreases-sift : goal.decreases-sift
decreases-sift g l = l.hole - l.start
