-- The search stops at its limit, with this lemma named above the function too.
use Rattle.std.proofs.Common.{arith}
use Rattle.std.proofs.lemmas.Nat.{leading_top}
use Rattle.rows.proofs.rebuild.log2_fast.Goals as goal

pub returns-clause-place : goal.returns-clause-place
returns-clause-place c = grind (arith, leading_top 64 c.args.x)
