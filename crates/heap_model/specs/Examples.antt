-- Examples with known rows.
use Rattle.std.specs.Prelude.{◌≡◌, ℕ, ◌-◌, Bool, true, false, List, [], ◌∷◌, ◌++◌, map, replicate, Some, All}
use Rattle.elements.specs.declared.clause.Clause.{Clause}
use Rattle.elements.specs.Clauses.{by_rank}
use Rattle.elements.specs.Orders.{by_size}
use Rattle.elements.specs.Refusals.{by_with}
use Rattle.elements.specs.Refusals.Answer.{refused}
use Rattle.keepers.specs.Keeps.{asked}
use Rattle.keepers.specs.Steps.{ceiling_step}
use Rattle.rows.specs.Rebuilds.{rebuilds}
use Rattle.heap_model.specs.Held.{Held, empty_on}
use Rattle.heap_model.specs.Calls.{pushed, popped, pop_answer}
use Rattle.heap_model.specs.Edits.{Edited, opened, front_set, refreshed, refresh_answer, place_after, mark_after}
use Rattle.heap_model.specs.Growth.{extended, extend_answer, appended}
use Rattle.heap_model.specs.Retention.{retained}

-- a clause by its rank and number, without a discount
abbrev pub clause : ℕ × ℕ → Clause
clause c = record { rank = c.0; number = c.1; discount = 0 }

pub data Example : Type 0 where
  -- pushing these in turn onto an empty heap gives this row
  pushing : List ℕ → List ℕ → Example
  -- of this row, pop answers this element and leaves that row
  popping : List ℕ → ℕ → List ℕ → Example
  -- extending an empty heap by these clauses (rank, number) gives this row
  extending : List (ℕ × ℕ) → List (ℕ × ℕ) → Example
  -- extending an empty heap of so many places by these is refused by 2 with this count, and gives this row
  refusing : ℕ → List ℕ → ℕ → List ℕ → Example
  -- this row appending that row gives this row
  appending : List ℕ → List ℕ → List ℕ → Example
  -- this row retained by a ceiling of this level gives that row
  retaining : List ℕ → ℕ → List ℕ → Example
  -- of this row with its front set to this, refresh says yes and gives that row, and a second says no
  refreshing : List ℕ → ℕ → List ℕ → Example
  -- of this row with its front set to this, the edit's pop hands out what was set and leaves that row
  editing : List ℕ → ℕ → List ℕ → Example
  -- whether a row of this length with a tail of this length is rebuilt whole
  choosing : ℕ → ℕ → Bool → Example

abbrev pub pushed_all : List ℕ → Held ℕ → Held ℕ
pushed_all [] h = h
pushed_all (x ∷ xs) h = pushed_all xs (pushed by_size x h)

-- a row in places of its own, and eight more
abbrev pub holding : {X : Type 0} → X → List X → Held X
holding x row = record { row = row; memory = row ++ replicate 8 x }

abbrev pub Holds : Example → Type 0
Holds (pushing xs row) = (pushed_all xs (empty_on (replicate 8 0))).row ≡ row
Holds (popping row x left) = (pop_answer (holding 0 row) ≡ Some x) × ((popped by_size (holding 0 row)).row ≡ left)
Holds (extending cs row) = (extended by_rank (map clause cs) (empty_on (replicate 8 (clause (0, 0))))).row ≡ map clause row
Holds (refusing places xs count row) = (extend_answer xs (empty_on (replicate places 0)) ≡ refused (by_with 2 count)) × ((extended by_size xs (empty_on (replicate places 0))).row ≡ row)
Holds (appending row other out) = (appended by_size (holding 0 row) (holding 0 other)).row ≡ out
Holds (retaining row level out) = (retained by_size (asked (ceiling_step by_size) level) (holding 0 row)).row ≡ out
Holds (refreshing row x out) =
    let e : Edited ℕ = front_set x (opened (holding 0 row)) in
    (refresh_answer by_size e ≡ true) × ((refreshed by_size e).heap.row ≡ out) × (refresh_answer by_size (refreshed by_size e) ≡ false)
Holds (editing row x left) =
    let e : Edited ℕ = front_set x (opened (holding 0 row)) in
    (place_after e.heap.row 0 ≡ x) × (mark_after e.heap.row ≡ true) × ((popped by_size e.heap).row ≡ left)
Holds (choosing len tail whole) = rebuilds (len - tail) len ≡ whole

abbrev pub examples : List Example
examples =
    pushing (3 ∷ 1 ∷ 4 ∷ 1 ∷ 5 ∷ []) (5 ∷ 4 ∷ 3 ∷ 1 ∷ 1 ∷ [])
    ∷ popping (5 ∷ 4 ∷ 3 ∷ 1 ∷ 1 ∷ []) 5 (4 ∷ 1 ∷ 3 ∷ 1 ∷ [])
    ∷ popping (1 ∷ 0 ∷ 1 ∷ 0 ∷ []) 1 (1 ∷ 0 ∷ 0 ∷ [])
    ∷ extending ((1, 10) ∷ (2, 11) ∷ (2, 12) ∷ []) ((2, 12) ∷ (2, 11) ∷ (1, 10) ∷ [])
    ∷ refusing 2 (1 ∷ 2 ∷ 3 ∷ []) 2 (2 ∷ 1 ∷ [])
    ∷ appending (9 ∷ 5 ∷ []) (8 ∷ 7 ∷ 6 ∷ []) (9 ∷ 8 ∷ 6 ∷ 7 ∷ 5 ∷ [])
    ∷ retaining (9 ∷ 5 ∷ 8 ∷ 4 ∷ 3 ∷ 7 ∷ 6 ∷ []) 8 (8 ∷ 7 ∷ 6 ∷ 3 ∷ 5 ∷ 4 ∷ [])
    ∷ refreshing (5 ∷ 4 ∷ 3 ∷ 1 ∷ 2 ∷ []) 0 (4 ∷ 2 ∷ 3 ∷ 1 ∷ 0 ∷ [])
    ∷ editing (5 ∷ 4 ∷ 3 ∷ 1 ∷ 2 ∷ []) 0 (4 ∷ 2 ∷ 3 ∷ 1 ∷ [])
    ∷ choosing 2048 409 false
    ∷ choosing 2048 410 true
    ∷ choosing 2049 372 false
    ∷ choosing 2049 373 true
    ∷ choosing 54 22 true
    ∷ choosing 54 23 false
    ∷ choosing 54 27 false
    ∷ choosing 54 28 true
    ∷ []

abbrev pub Examples : Type 0
Examples = All Holds examples
