-- Counts and bags.
use Rattle.std.proofs.Common.{◌≡◌, ◌+◌, Bool, List, [], ◌∷◌, ◌++◌, refl, ◌∙◌, append_assoc, arith}
use mathlib.Core.Logic.{∥∥₁_elim}
use mathlib.Core.List.Perm
use mathlib.Core.List.{Perm, Permᴰ, perm_append_comm}
use native.Mathlib.Nat.{ℕ_set}
use Rattle.account.specs.Account.{times}

module _ {X : Type 0} (f : X → Bool) where
  times_swap : (a b : X) (xs : List X) → times f (a ∷ b ∷ xs) ≡ times f (b ∷ a ∷ xs)
  times_swap a b xs = grind arith

  times_permᴰ : {xs ys : List X} → Permᴰ xs ys → times f xs ≡ times f ys
  times_permᴰ Permᴰ.nil = refl
  times_permᴰ (Permᴰ.cons e d) = cc (times_permᴰ d)
  times_permᴰ (Permᴰ.swap {a} {b} {a'} {b'} {l} e e') = cc (times_swap a b l)
  times_permᴰ (Permᴰ.trans d e) = times_permᴰ d ∙ times_permᴰ e

  pub times_perm : {xs ys : List X} → Perm xs ys → times f xs ≡ times f ys
  times_perm {xs} {ys} p = ∥∥₁_elim p (ℕ_set (times f xs) (times f ys)) times_permᴰ

  pub times-append : (xs ys : List X) → times f (xs ++ ys) ≡ times f xs + times f ys
  times-append [] ys = omega arith
  times-append (x ∷ xs) ys = grind (arith, times-append xs ys)

-- two balances, one after the other
pub in_turn : {X : Type 0} (i₁ i₂ o₁ o₂ a b c : List X) → Perm (i₁ ++ a) (o₁ ++ b) → Perm (i₂ ++ b) (o₂ ++ c) → Perm ((i₁ ++ i₂) ++ a) ((o₁ ++ o₂) ++ c)
in_turn {X} i₁ i₂ o₁ o₂ a b c h k =
    let swap = λ (xs ys zs : List X). simp append_assoc at (Perm.append_right zs (perm_append_comm xs ys)) in
    simp append_assoc (Perm.trans (swap i₁ i₂ a) (Perm.trans (Perm.append_left i₂ h) (Perm.trans (swap i₂ o₁ b) (Perm.append_left o₁ k))))
