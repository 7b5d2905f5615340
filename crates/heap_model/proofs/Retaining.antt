-- A row of which as many were kept as there were.
use Rattle.std.proofs.lemmas.Grind.{common_steps}
use Rattle.keepers.proofs.Kept.{kept_few, kept_all}

pub ruleset retains = (common_steps, kept_few, kept_all)
