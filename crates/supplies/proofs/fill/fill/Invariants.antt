use Rattle.std.proofs.Common.{◌≡◌, ◌≤◌, ◌++◌, length, take, drop}
use Rattle.supplies.proofs.fill.fill.Given as goal

abbrev pub invariant-filling : goal.invariant-filling
invariant-filling g l =
    let rest = g.S.Supply.rest l.fn.supply in
    (l.i ≤ length rest) × (g.S.Supply.rest l.supply ≡ drop l.i rest) × (l.places ≡ take l.i rest ++ drop l.i l.fn.places)
