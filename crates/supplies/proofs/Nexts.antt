-- What `more` says and `next` leaves of a list that is read at a cursor, repeated, or seen through its first few.
use Rattle.std.proofs.Common.{◌≡◌, ℕ, zero, suc, ◌+◌, ◌-◌, true, false, ltb, List, [], ◌∷◌, length, take, drop, replicate, get_or, Some, None, Option, sym, refl, ap, ◌∙◌, arith, add-one, length-drop, MatchOption}
use lib.ListN.{length-replicate}
use lib.Seq.{take-nil}
use Rattle.std.proofs.lemmas.List.{drop_all, drop_more}
use Rattle.std.proofs.lemmas.Bool.Decides.{nat_tests}

-- ys is what `next` leaves of xs
pub take_next : {X : Type 0} (n m : ℕ) (xs ys : List X) (o : Option X) → n ≡ m + 1 → MatchOption o ((xs ≡ []) × (ys ≡ [])) (λ x. xs ≡ x ∷ ys) → MatchOption o ((take n xs ≡ []) × (take m ys ≡ [])) (λ x. take n xs ≡ x ∷ take m ys)
take_next n m xs ys None more gave = (ap (take n) gave.0 ∙ take-nil n, ap (take m) gave.1 ∙ take-nil m)
take_next n m xs ys (Some x) more gave = ap (λ k. take k xs) (more ∙ add-one m) ∙ ap (take (suc m)) gave

module _ (X : Type 0) where
  pub record Lists : Type 0 where
    pub more : (at : ℕ) (xs : List X) → ltb at (length xs) ≡ ltb 0 (length (drop at xs))
    pub none : (at : ℕ) (xs : List X) → ltb at (length xs) ≡ false → drop at xs ≡ []
    pub next : (at : ℕ) (xs : List X) (x : X) → ltb at (length xs) ≡ true → x ≡ get_or xs at x → drop at xs ≡ x ∷ drop (at + 1) xs

  pub record Repeats : Type 0 where
    pub more : (n : ℕ) (x : X) → ltb 0 n ≡ ltb 0 (length (replicate n x))
    pub none : (n : ℕ) (x : X) → ltb 0 n ≡ false → replicate n x ≡ []
    pub next : (n : ℕ) (x : X) → ltb 0 n ≡ true → replicate n x ≡ x ∷ replicate (n - 1) x

  -- xs is a supply's list, of which `next` leaves ys, and both are seen through their first n
  pub record Takes : Type 0 where
    pub more : (n : ℕ) (xs : List X) → ltb 0 n ≡ true → ltb 0 (length xs) ≡ ltb 0 (length (take n xs))
    pub no_more : (n : ℕ) (xs : List X) → ltb 0 n ≡ false → false ≡ ltb 0 (length (take n xs))
    pub none : (n : ℕ) (xs : List X) → ltb 0 n ≡ false → take n xs ≡ []
    pub next : (n : ℕ) (xs ys : List X) (o : Option X) → ltb 0 n ≡ true → MatchOption o ((xs ≡ []) × (ys ≡ [])) (λ x. xs ≡ x ∷ ys) → MatchOption o ((take n xs ≡ []) × (take (n - 1) ys ≡ [])) (λ x. take n xs ≡ x ∷ take (n - 1) ys)

  pub lists : Lists
  lists = record {
    more = λ at xs. grind (arith, nat_tests, length-drop at xs);
    none = λ at xs h. grind (arith, nat_tests, drop_all at xs);
    next = λ at xs x h e. grind (arith, nat_tests, drop_more xs at x);
  }

  repeat_none : (n : ℕ) (x : X) → ltb 0 n ≡ false → replicate n x ≡ []
  repeat_none zero x h = refl
  repeat_none (suc n) x h = grind (arith, nat_tests)

  repeat_next : (n : ℕ) (x : X) → ltb 0 n ≡ true → replicate n x ≡ x ∷ replicate (n - 1) x
  repeat_next zero x h = grind (arith, nat_tests)
  repeat_next (suc n) x h = grind arith

  pub repeats : Repeats
  repeats = record { more = λ n x. grind (arith, length-replicate n x); none = repeat_none; next = repeat_next }

  take_none : (n : ℕ) (xs : List X) → ltb 0 n ≡ false → take n xs ≡ []
  take_none zero xs h = refl
  take_none (suc n) xs h = grind (arith, nat_tests)

  take_more : (n : ℕ) (xs : List X) → ltb 0 n ≡ true → ltb 0 (length xs) ≡ ltb 0 (length (take n xs))
  take_more zero xs h = grind (arith, nat_tests)
  take_more (suc n) [] h = refl
  take_more (suc n) (x ∷ xs) h = grind (arith, nat_tests)

  pub takes : Takes
  takes = record {
    more = take_more;
    no_more = λ n xs h. ap (λ l. ltb 0 (length l)) (sym (take_none n xs h));
    none = take_none;
    next = λ n xs ys o h gave. take_next n (n - 1) xs ys o (grind (arith, nat_tests)) gave;
  }
