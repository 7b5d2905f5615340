-- The making of a clause, and its order.
use Rattle.std.specs.Prelude.{ℕ, if◌then◌else◌, nat_le}
use Rattle.std.specs.declared.cmp.Ordering.{Ordering}
use Rattle.elements.specs.declared.clause.Clause.{Clause}
use Rattle.elements.specs.declared.clause.ClauseFault.{ClauseFault}
use Rattle.elements.specs.declared.clause.ClauseFault.TheVariants.{DiscountTooHigh}
use Rattle.elements.specs.declared.refusal.Refusal.{Refusal}
use Rattle.elements.specs.Orders.{by_size}
use Rattle.elements.specs.Refusals.{Answer, by}
use Rattle.elements.specs.Refusals.Answer.{accepted, refused}

abbrev pub refuses_clause : ClauseFault → Refusal
refuses_clause DiscountTooHigh = by 6

-- a clause exactly if its discount is at most 1,000 per mille
abbrev pub made : ℕ → ℕ → ℕ → Answer Clause
made rank number discount =
    if nat_le discount 1000
    then accepted (record { rank = rank; number = number; discount = discount })
    else refused (by 6)

-- its rank alone orders a clause
abbrev pub by_rank : Clause → Clause → Ordering
by_rank x y = by_size x.rank y.rank
