-- One turn of `close_up`, once the first i elements of the row xs were put to a keeper that held h.
use Rattle.std.proofs.Common.{◌≡◌, ℕ, ◌+◌, ◌-◌, ◌<◌, ◌≤◌, true, false, cond, List, [], ◌∷◌, ◌++◌, length, get_or, take, drop, set, Some, None, Option, refl, arith, append_assoc, append-nil, length-append, MatchOption}
use Rattle.std.specs.Option.{option_or}
use Rattle.std.proofs.lemmas.List.{take_all, take_more, drop_more, length-take-le, get_or-drop, get_or-append_right, set-append_right}
use Rattle.keepers.specs.Steps.{Said}
use Rattle.keepers.specs.Keeps.{holds_after, asked, kept, first_no, holds_through}
use Rattle.keepers.proofs.Kept.{kept_few}

module _ {H X : Type 0} (step : H → X → Said H) (h : H) where
  -- the one put to the keeper last
  kept_last : (past xs : List X) (x : X) → kept (asked step h) past (xs ++ (x ∷ [])) ≡ kept (asked step h) past xs ++ cond (step (holds_through step (holds_after step h past) xs) x).yes (x ∷ []) []
  kept_last past [] x = refl
  kept_last past (y ∷ ys) x = grind (arith, kept_last (y ∷ past) ys x)

  holds_last : (k : H) (xs : List X) (x : X) → holds_through step k (xs ++ (x ∷ [])) ≡ (step (holds_through step k xs) x).next
  holds_last k [] x = refl
  holds_last k (y ∷ ys) x = holds_last (step k y).next ys x

  first_stays : (past xs ys : List X) → length (kept (asked step h) past xs) < length xs → first_no (asked step h) past (xs ++ ys) ≡ first_no (asked step h) past xs
  first_stays past [] ys l = absurd (omega arith)
  first_stays past (x ∷ xs) ys l = grind (arith, first_stays (x ∷ past) xs ys)

  first_last : (past xs : List X) (x : X) → length (kept (asked step h) past xs) ≡ length xs → (step (holds_through step (holds_after step h past) xs) x).yes ≡ false → first_no (asked step h) past (xs ++ (x ∷ [])) ≡ length xs
  first_last past [] x l says_no = grind arith
  first_last past (y ∷ ys) x l says_no = grind (arith, kept_few (asked step h) (y ∷ past) ys, first_last (y ∷ past) ys x)

  -- what the loop has come to
  pub record Closing (xs : List X) (i count : ℕ) (first : Option ℕ) (row : List X) (now : H) : Type 0 where
    pub count_is : count ≡ length (kept (asked step h) [] (take i xs))
    pub first_is : MatchOption first (count ≡ i) (λ p. (p ≡ first_no (asked step h) [] (take i xs)) × (count < i))
    pub row_is : row ≡ kept (asked step h) [] (take i xs) ++ drop count xs
    pub now_is : now ≡ holds_through step h (take i xs)

  pub begins : (xs : List X) (first : Option ℕ) → first ≡ None → Closing xs 0 0 first xs h
  begins xs first e = grind arith

  -- what was not written yet is as it was
  read_is : (xs ks row : List X) (i count : ℕ) (x : X) → count ≡ length ks → count ≤ i → row ≡ ks ++ drop count xs → x ≡ get_or row i x → x ≡ get_or xs i x
  read_is xs ks row i count x long few is read = grind (arith, get_or-append_right ks (drop count xs) count i x, get_or-drop count xs (i - count) x)

  -- the next one kept is written behind them
  write_is : (xs ks : List X) (count : ℕ) (x : X) → count ≡ length ks → count < length xs → set (ks ++ drop count xs) count x ≡ (ks ++ (x ∷ [])) ++ drop (count + 1) xs
  write_is xs ks count x long inside = grind (arith, set-append_right ks (drop count xs) count count x, drop_more xs count x, append_assoc ks (x ∷ []) (drop (count + 1) xs))

  pub within : (xs : List X) (i count : ℕ) (first : Option ℕ) (row : List X) (now : H) → Closing xs i count first row now → i ≤ length xs → count ≤ i
  within xs i count first row now so e = grind (arith, kept_few (asked step h) [] (take i xs), length-take-le i xs)

  module _ (xs : List X) (i count : ℕ) (first : Option ℕ) (row : List X) (now next : H) (x : X) where
    one_more : Closing xs i count first row now → i < length xs → x ≡ get_or row i x → take (i + 1) xs ≡ take i xs ++ (x ∷ [])
    one_more so inside read = grind (arith, within xs i count first row now so, take_more xs i x, read_is xs (kept (asked step h) [] (take i xs)) row i count x)

    pub keeps : Closing xs i count first row now → next ≡ (step now x).next → i < length xs → x ≡ get_or row i x → (step now x).yes ≡ true → Closing xs (i + 1) (count + 1) first (set row count x) next
    keeps so is inside read says_yes =
        let ks : List X = kept (asked step h) [] (take i xs) in
        grind (arith, within xs i count first row now so, one_more so inside read, length-take-le i xs, kept_last [] (take i xs) x, holds_last h (take i xs) x, first_stays [] (take i xs) (x ∷ []), write_is xs ks count x, length-append ks (x ∷ []))

    pub drops : (found : Option ℕ) → Closing xs i count first row now → next ≡ (step now x).next → i < length xs → x ≡ get_or row i x → (step now x).yes ≡ false → found ≡ option_or first (Some count) → Closing xs (i + 1) count found row next
    drops found so is inside read says_no or_is =
        let ks : List X = kept (asked step h) [] (take i xs) in
        grind (arith, within xs i count first row now so, one_more so inside read, length-take-le i xs, kept_last [] (take i xs) x, holds_last h (take i xs) x, first_stays [] (take i xs) (x ∷ []), first_last [] (take i xs) x, append-nil ks)

  -- the whole row
  module _ (xs : List X) (i count : ℕ) (first : Option ℕ) (row : List X) (now : H) where
    pub ends_count : Closing xs i count first row now → length xs ≤ i → count ≡ length (kept (asked step h) [] xs)
    ends_count so e = grind (arith, take_all i xs)

    pub ends_first : Closing xs i count first row now → i ≡ length xs → MatchOption first (count ≡ length xs) (λ p. (p ≡ first_no (asked step h) [] xs) × (count < length xs))
    ends_first so e = grind (arith, take_all i xs)

    pub ends_row : Closing xs i count first row now → length xs ≤ i → row ≡ kept (asked step h) [] xs ++ drop count xs
    ends_row so e = grind (arith, take_all i xs)

    pub ends_now : Closing xs i count first row now → length xs ≤ i → now ≡ holds_through step h xs
    ends_now so e = grind (arith, take_all i xs)

pub ruleset closing = (begins, keeps, drops, ends_count, ends_first, ends_row, ends_now, within)
