-- What `find` ran is not found by the search alone.
use Rattle.std.proofs.Common.{◌≡◌, ℕ, true, get_or, arith, rules}
use Rattle.std.proofs.lemmas.Iterator.{first_from_Range}
use Rattle.elements.specs.Orders.{exceeds}
use Rattle.rows.specs.Sifts.{parent}
use Rattle.rows.specs.Heaps.{InOrder}
use Rattle.rows.proofs.check.first_out_of_order.Goals as goal

pub returns : goal.returns
returns g c =
    let ordering = g.T.Element.ordering in
    let row = c.args.list.now in
    let Out : ℕ → Type 0 = λ k. (d : g.row.T.Denot) → exceeds ordering (get_or row k d) (get_or row (parent k) d) ≡ true in
    let found = first_from_Range _ _ _ _ Out (InOrder ordering row) c.find.ensures.ran (λ i f' k. search rules) (λ i f' k. search rules) in
    grind arith
