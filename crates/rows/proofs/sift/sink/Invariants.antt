use Rattle.std.proofs.Common.{◌≡◌, ◌-◌, ◌<◌, Bool, length}
use Rattle.rows.specs.Moves.{Computes}
use Rattle.rows.specs.Sifts.{sunk}
use Rattle.rows.proofs.Sinks.{sinking}
use Rattle.rows.proofs.sift.sink.Given as goal

abbrev pub invariant-sift : goal.invariant-sift
invariant-sift g l =
    let ordering = g.T.Element.ordering in
    (l.hole < length l.row)
    × ((m : g.row.T.Denot → g.row.T.Denot → Bool) → Computes g.F.Fn l.moves m → sinking ordering m l.value l.row l.hole ≡ sunk ordering m l.fn.row l.pos)

abbrev pub decreases-sift : goal.decreases-sift
decreases-sift g l = length l.initial.row - l.hole
