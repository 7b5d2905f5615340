-- The search does not take the invariant, which speaks of every function, at the one that is given.
use Rattle.std.proofs.Common.{◌∙◌, sym, rules}
use Rattle.rows.proofs.Sinks.{begins, ends, rests, turns}
use Rattle.rows.proofs.sift.sink.Goals as goal
use Rattle.rows.proofs.sift.sink.Goals.{then-hole-row, else-hole-row+then-not-moves}

pub sift-init : goal.sift-init
sift-init g c = search (rules, begins)

pub sift-preserved : goal.sift-preserved
sift-preserved g c = (
  search rules,
  λ m is.
      let yes = sym (is _ _ _ c.moves.ensures) ∙ c.if-not-moves.false in
      cc (turns _ m _ _ _ _ _ c.if-hole-row.false c.greater_child-child.ensures.child c.index-row-child.is yes, c.sift.invariant.1 m is),
)

pub returns-clause-sunk : goal.returns-clause-sunk
returns-clause-sunk g c = λ m is. elim c.if-hole-row.branch [
  | then-hole-row w ↦ cc (w.at-is, ends _ m _ _ _ w.if-hole-row.true, c.sift.invariant.1 m is)
  | else-hole-row+then-not-moves w ↦
      let no = sym (is _ _ _ w.moves.ensures) ∙ w.if-not-moves.true in
      cc (w.at-is, rests _ m _ _ _ _ _ w.if-hole-row.false w.greater_child-child.ensures.child w.index-row-child.is no, c.sift.invariant.1 m is)
]
