-- Closing up one element at a time, from any state, comes to what the contract of `close_up` says.
use Rattle.std.proofs.Common.{◌≡◌, ℕ, ◌+◌, ◌≤◌, min, cond, List, [], ◌∷◌, ◌++◌, length, take, drop, set, append_assoc, arith, length-set, take-append-drop, drop-set-lt}
use Rattle.std.proofs.lemmas.List.{take_more_set}
use Rattle.keepers.specs.Steps.{Said}
use Rattle.keepers.specs.Keeps.{holds_after, asked, kept, first_no, holds_through}

-- the places, how many elements stay, the position of the first that does not, and what the keeper holds
pub record Closed (H X : Type 0) : Type 0 where
  pub row : List X
  pub count : ℕ
  pub first : ℕ
  pub holds : H

-- with a list of elements still to be put to the keeper, and `count` kept at the front of the row
unfoldable pub closed : {H X : Type 0} → (H → X → Said H) → H → List X → ℕ → ℕ → List X → Closed H X
closed step h [] count first row = record { row = row; count = count; first = first; holds = h }
closed step h (x ∷ rest) count first row =
    cond (step h x).yes
    (closed step (step h x).next rest (count + 1) first (set row count x))
    (closed step (step h x).next rest count (min first count) row)

module _ {H X : Type 0} (step : H → X → Said H) (h₀ : H) where
  -- the closing, from a state in which `past` was put to the keeper and `count` are kept at the front of the row
  pub record Leaves (past rest : List X) (count first : ℕ) (row : List X) (out : Closed H X) : Type 0 where
    pub row_is : out.row ≡ take count row ++ (kept (asked step h₀) past rest ++ drop (count + length (kept (asked step h₀) past rest)) row)
    pub count_is : out.count ≡ count + length (kept (asked step h₀) past rest)
    pub first_is : out.first ≡ min first (count + first_no (asked step h₀) past rest)
    pub holds_is : out.holds ≡ holds_through step (holds_after step h₀ past) rest

  pub closed-leaves : (past rest : List X) (count first : ℕ) (row : List X) → count + length rest ≤ length row → first ≤ count + length rest
      → Leaves past rest count first row (closed step (holds_after step h₀ past) rest count first row)
  unfolding closed
  closed-leaves past [] count first row fits low = grind (arith, take-append-drop count row)
  closed-leaves past (x ∷ rest) count first row fits low =
      let ks : List X = kept (asked step h₀) (x ∷ past) rest in
      let row' : List X = set row count x in
      let yes = closed-leaves (x ∷ past) rest (count + 1) first row' (omega (arith, length-set row count x)) (omega arith) in
      let no = closed-leaves (x ∷ past) rest count (min first count) row (omega arith) (omega arith) in
      grind (arith, yes, no, take_more_set row count x, append_assoc (take count row) (x ∷ []) (ks ++ drop (count + 1 + length ks) row'), drop-set-lt (count + 1 + length ks) row count x)

  -- the whole row
  pub whole : (row : List X) → Leaves [] row 0 (length row) row (closed step h₀ row 0 (length row) row)
  whole row = closed-leaves [] row 0 (length row) row (omega arith) (omega arith)
