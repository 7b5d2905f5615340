-- The search does not find a promise of this size by its lemma.
use Rattle.account.proofs.Accounts.{accounted}
use Rattle.account.proofs.Living.{promised}
use Rattle.account.proofs.promise_holds.Goals as goal

pub returns : goal.returns
returns g c = promised _ (accounted _ g.met.T.Element.laws.lawful)
