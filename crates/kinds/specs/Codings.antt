-- Every kind's codec is faithful: values and bytes come back from each other.
use Rattle.std.specs.Prelude.{◌≡◌, ℕ, zero, suc, ◌+◌, ◌*◌, ◌^◌, ◌<◌, ◌≤◌, Bool, true, false, cond, ◌&&◌, List, [], ◌++◌, length, take, drop, nat_le, nat_lt, refl, All}
use Rattle.std.proofs.Common.{sym, ap, ap₂, ◌∙◌, mod-eq_of_lt, arith, length-drop}
use Rattle.std.specs.declared.cmp.Reverse.{Reverse}
use Rattle.std.proofs.lemmas.List.Elements.{All-drop, All-take}
use Rattle.std.proofs.lemmas.List.{take_all, get_or-take, length-take-le, take-append-drop, drop-drop, drop-take, take-take}
use Rattle.std.proofs.lemmas.Bool.{and_parts, le-leb, lt-leb, leb-true, ltb-true, cond-true, cond-false}
use Rattle.elements.specs.declared.clause.Clause.{Clause}
use Rattle.elements.specs.Clauses.{made}
use Rattle.elements.specs.Refusals.{Answer, by}
use Rattle.elements.specs.Refusals.Answer.{accepted, refused}
use Rattle.kinds.specs.Bytes.{number_at, bytes_of}
use Rattle.kinds.specs.Codecs.{Faithful, then, number_decoded, clause_decoded, reversed_decoded, pair_decoded, clause_encoded, clause_exists, number_codec, clause_codec, reversed_codec, pair_codec}
use Rattle.kinds.specs.Digits.{Byte, bytes_back, value_back}

number_at_front : (k i w : ℕ) (bytes : List ℕ) → i + k ≤ w → number_at k i (take w bytes) ≡ number_at k i bytes
number_at_front zero i w bytes h = refl
number_at_front (suc k) i w bytes h =
    ap₂ (λ (b n : ℕ). b * 256 ^ k + n) (get_or-take w bytes i 0 (omega arith)) (number_at_front k (i + 1) w bytes (omega arith))

-- a decoding that tests the length first
module _ {X : Type 0} (w : ℕ) (inside : List ℕ → Answer X) where
  abbrev tested : List ℕ → Answer X
  tested bytes = cond (nat_le w (length bytes)) (inside bytes) (refused (by 9))

  tested_long : (bytes : List ℕ) → w ≤ length bytes → tested bytes ≡ inside bytes
  tested_long bytes h = cond-true _ _ _ (le-leb w (length bytes) h)

  tested_short : (bytes : List ℕ) → length bytes < w → tested bytes ≡ refused (by 9)
  tested_short bytes h = cond-false _ _ _ (lt-leb w (length bytes) h)

  tested_front : ((bytes : List ℕ) → w ≤ length bytes → inside (take w bytes) ≡ inside bytes) → (bytes : List ℕ) → w ≤ length bytes → tested bytes ≡ tested (take w bytes)
  tested_front same bytes h =
      let long : w ≤ length (take w bytes) = omega (arith, length-take-le w bytes h) in
      tested_long bytes h ∙ sym (same bytes h) ∙ sym (tested_long (take w bytes) long)

accepted_value : {X Y : Type 0} (a : Answer X) (next : X → Answer Y) (y : Y) → then a next ≡ accepted y → (x : X) × (a ≡ accepted x) × (next x ≡ accepted y)
accepted_value (accepted x) next y e = (x, refl, e)
accepted_value (refused r) next y e = absurd (cc)

number_back : (bytes : List ℕ) (n : ℕ) → All Byte bytes → length bytes ≡ 8 → number_decoded bytes ≡ accepted n → bytes_of 8 n ≡ bytes
number_back bytes n small long e =
    let is : accepted (number_at 8 0 bytes) ≡ accepted n = sym (tested_long 8 (λ bs. accepted (number_at 8 0 bs)) bytes (omega arith)) ∙ e in
    let same : n ≡ number_at 8 0 bytes = cc in
    ap (bytes_of 8) same ∙ bytes_back 8 0 bytes small (omega arith) ∙ take_all 8 bytes (omega arith)

number_value : (n : ℕ) → nat_lt n (2 ^ 64) ≡ true → number_decoded (bytes_of 8 n) ≡ accepted n
number_value n h = ap accepted (value_back 8 n [] [] ∙ mod-eq_of_lt (ltb-true n (2 ^ 64) h))

number_front : (bytes : List ℕ) → 8 ≤ length bytes → number_decoded bytes ≡ number_decoded (take 8 bytes)
number_front = tested_front 8 (λ bs. accepted (number_at 8 0 bs)) (λ bs g. ap accepted (number_at_front 8 0 8 bs (omega arith)))

pub number_faithful : Faithful number_codec
number_faithful = record {
  narrow = (omega arith, omega arith);
  sized = λ n. refl;
  short = tested_short 8 (λ bs. accepted (number_at 8 0 bs));
  front = number_front;
  bytes_back = number_back;
  value_back = number_value;
}

pub reversed_faithful : Faithful reversed_codec
reversed_faithful = record {
  narrow = (omega arith, omega arith);
  sized = λ x. refl;
  short = λ bytes h. cc (number_faithful.short bytes h);
  front = λ bytes h. cc (number_front bytes h);
  bytes_back = λ bytes x small long e.
      let v = accepted_value (number_decoded bytes) (λ n. accepted (record { 0 = n })) x e in
      let same : x.0 ≡ v.0 = cc (v.2) in
      ap (bytes_of 8) same ∙ number_back bytes v.0 small long v.1;
  value_back = λ x h. ap (λ (a : Answer ℕ). then a (λ n. accepted (record { 0 = n }))) (number_value x.0 h);
}

made_value : (r n d : ℕ) (c : Clause) → made r n d ≡ accepted c → (c.rank ≡ r) × (c.number ≡ n) × (c.discount ≡ d)
made_value r n d c = by_test (nat_le d 1000)
  where
    by_test : (b : Bool) → cond b (accepted (record { rank = r; number = n; discount = d })) (refused (by 6)) ≡ accepted c → (c.rank ≡ r) × (c.number ≡ n) × (c.discount ≡ d)
    by_test true e = (cc, cc, cc)
    by_test false e = absurd (cc)

-- two parts, then the third
joined_again : (bytes : List ℕ) → length bytes ≡ 8 → take 2 (drop 0 bytes) ++ (take 4 (drop 2 bytes) ++ take 2 (drop 6 bytes)) ≡ bytes
joined_again bytes long =
    ap (λ (l : List ℕ). take 2 bytes ++ (take 4 (drop 2 bytes) ++ l)) (take_all 2 (drop 6 bytes) (omega (arith, length-drop 6 bytes)))
    ∙ ap (λ (l : List ℕ). take 2 bytes ++ (take 4 (drop 2 bytes) ++ l)) (sym (drop-drop 4 2 bytes))
    ∙ ap (λ (l : List ℕ). take 2 bytes ++ l) (take-append-drop 4 (drop 2 bytes))
    ∙ take-append-drop 2 bytes

clause_back : (bytes : List ℕ) (c : Clause) → All Byte bytes → length bytes ≡ 8 → clause_decoded bytes ≡ accepted c → clause_encoded c ≡ bytes
clause_back bytes c small long e =
    let m = made_value (number_at 2 0 bytes) (number_at 4 2 bytes) (number_at 2 6 bytes) c (sym (tested_long 8 (λ bs. made (number_at 2 0 bs) (number_at 4 2 bs) (number_at 2 6 bs)) bytes (omega arith)) ∙ e) in
    ap₂ {C = List ℕ} (λ (a b : List ℕ). a ++ b) (ap (bytes_of 2) m.0 ∙ bytes_back 2 0 bytes small (omega arith))
    (ap₂ {C = List ℕ} (λ (a b : List ℕ). a ++ b) (ap (bytes_of 4) m.1 ∙ bytes_back 4 2 bytes small (omega arith)) (ap (bytes_of 2) m.2 ∙ bytes_back 2 6 bytes small (omega arith)))
    ∙ joined_again bytes long

clause_value : (c : Clause) → clause_exists c ≡ true → clause_decoded (clause_encoded c) ≡ accepted c
clause_value c h =
    let parts : (c.rank < 2 ^ 16) × (c.number < 2 ^ 32) × (nat_le c.discount 1000 ≡ true) = exists_parts c h in
    let small : c.discount ≤ 1000 = leb-true c.discount 1000 parts.2 in
    let r = value_back 2 c.rank [] (bytes_of 4 c.number ++ bytes_of 2 c.discount) ∙ mod-eq_of_lt parts.0 in
    let n = value_back 4 c.number (bytes_of 2 c.rank) (bytes_of 2 c.discount) ∙ mod-eq_of_lt parts.1 in
    let d = value_back 2 c.discount (bytes_of 2 c.rank ++ bytes_of 4 c.number) [] ∙ mod-eq_of_lt (omega arith) in
    rw (r, n, d) (cond-true _ _ _ parts.2)
  where
    exists_parts : (c : Clause) → clause_exists c ≡ true → (c.rank < 2 ^ 16) × (c.number < 2 ^ 32) × (nat_le c.discount 1000 ≡ true)
    exists_parts c h =
        let one = and_parts (nat_lt c.rank (2 ^ 16)) (nat_lt c.number (2 ^ 32) && nat_le c.discount 1000) h in
        let two = and_parts (nat_lt c.number (2 ^ 32)) (nat_le c.discount 1000) one.1 in
        (ltb-true c.rank (2 ^ 16) one.0, ltb-true c.number (2 ^ 32) two.0, two.1)

clause_front : (bytes : List ℕ) → 8 ≤ length bytes → clause_decoded bytes ≡ clause_decoded (take 8 bytes)
clause_front =
    tested_front 8 (λ bs. made (number_at 2 0 bs) (number_at 4 2 bs) (number_at 2 6 bs))
    (λ bs g. rw (number_at_front 2 0 8 bs (omega arith), number_at_front 4 2 8 bs (omega arith), number_at_front 2 6 8 bs (omega arith)))

pub clause_faithful : Faithful clause_codec
clause_faithful = record {
  narrow = (omega arith, omega arith);
  sized = λ c. refl;
  short = tested_short 8 (λ bs. made (number_at 2 0 bs) (number_at 4 2 bs) (number_at 2 6 bs));
  front = clause_front;
  bytes_back = clause_back;
  value_back = clause_value;
}

abbrev inside : List ℕ → Answer (Clause × Reverse ℕ)
inside bytes = then (clause_decoded bytes) (λ c. then (reversed_decoded (drop 8 bytes)) (λ n. accepted (c, n)))

-- a clause in front, and a reversed number behind it
inside_parts : (bytes : List ℕ) → 16 ≤ length bytes → inside bytes ≡ then (clause_decoded (take 8 bytes)) (λ c. then (reversed_decoded (take 8 (drop 8 bytes))) (λ n. accepted (c, n)))
inside_parts bytes long =
    ap (λ (a : Answer Clause). then a (λ c. then (reversed_decoded (drop 8 bytes)) (λ n. accepted (c, n)))) (clause_front bytes (omega arith))
    ∙ ap (λ (a : Answer (Reverse ℕ)). then (clause_decoded (take 8 bytes)) (λ c. then a (λ n. accepted (c, n)))) (reversed_faithful.front (drop 8 bytes) (omega (arith, length-drop 8 bytes)))

pair_front : (bytes : List ℕ) → 16 ≤ length bytes → inside (take 16 bytes) ≡ inside bytes
pair_front bytes long =
    let cut : 16 ≤ length (take 16 bytes) = omega (arith, length-take-le 16 bytes long) in
    inside_parts (take 16 bytes) cut
    ∙ ap₂ {C = Answer (Clause × Reverse ℕ)} (λ (x y : List ℕ). then (clause_decoded x) (λ c. then (reversed_decoded y) (λ n. accepted (c, n))))
    (take-take 8 16 bytes (omega arith))
    (ap (take 8) (drop-take 8 8 bytes) ∙ take-take 8 8 (drop 8 bytes) (omega arith))
    ∙ sym (inside_parts bytes long)

pair_back : (bytes : List ℕ) (x : Clause × Reverse ℕ) → All Byte bytes → length bytes ≡ 16 → pair_decoded bytes ≡ accepted x → clause_encoded x.0 ++ bytes_of 8 x.1.0 ≡ bytes
pair_back bytes x small long e =
    let first : List ℕ = take 8 bytes in
    let second : List ℕ = take 8 (drop 8 bytes) in
    let c = accepted_value (clause_decoded first) (λ c. then (reversed_decoded second) (λ n. accepted (c, n))) x (sym (inside_parts bytes (omega arith)) ∙ sym (tested_long 16 inside bytes (omega arith)) ∙ e) in
    let n = accepted_value (reversed_decoded second) (λ n. accepted (c.0, n)) x c.2 in
    let is : ◌≡◌ {A = Clause × Reverse ℕ} x (c.0, n.0) = same (c.0, n.0) x n.2 in
    ap₂ {C = List ℕ} (λ (a b : List ℕ). a ++ b)
    (ap (λ (y : Clause × Reverse ℕ). clause_encoded y.0) is ∙ clause_back first c.0 (All-take Byte 8 bytes small) (length-take-le 8 bytes (omega arith)) c.1)
    (ap (λ (y : Clause × Reverse ℕ). bytes_of 8 y.1.0) is
    ∙ reversed_faithful.bytes_back second n.0 (All-take Byte 8 (drop 8 bytes) (All-drop Byte 8 bytes small)) (length-take-le 8 (drop 8 bytes) (omega (arith, length-drop 8 bytes))) n.1)
    ∙ ap (λ (l : List ℕ). take 8 bytes ++ l) (take_all 8 (drop 8 bytes) (omega (arith, length-drop 8 bytes)))
    ∙ take-append-drop 8 bytes
  where
    same : {A : Type 0} (x y : A) → accepted x ≡ accepted y → y ≡ x
    same x y e = cc

pair_value : (x : Clause × Reverse ℕ) → clause_exists x.0 && nat_lt x.1.0 (2 ^ 64) ≡ true → pair_decoded (clause_encoded x.0 ++ bytes_of 8 x.1.0) ≡ accepted x
pair_value x h =
    let parts = and_parts (clause_exists x.0) (nat_lt x.1.0 (2 ^ 64)) h in
    inside_parts (clause_encoded x.0 ++ bytes_of 8 x.1.0) (omega arith)
    ∙ ap (λ (a : Answer Clause). then a (λ c. then (reversed_decoded (bytes_of 8 x.1.0)) (λ n. accepted (c, n)))) (clause_value x.0 parts.0)
    ∙ ap (λ (a : Answer (Reverse ℕ)). then a (λ n. accepted (x.0, n))) (reversed_faithful.value_back x.1 parts.1)

pub pair_faithful : Faithful pair_codec
pair_faithful = record {
  narrow = (omega arith, omega arith);
  sized = λ x. refl;
  short = tested_short 16 inside;
  front = tested_front 16 inside pair_front;
  bytes_back = pair_back;
  value_back = pair_value;
}

pub pair_decoded_lem : (bytes behind : List ℕ) (c : Clause) (n : Reverse ℕ) → 16 ≤ length bytes → behind ≡ drop 8 bytes → accepted c ≡ clause_decoded bytes → accepted n ≡ reversed_decoded behind → accepted (c, n) ≡ pair_decoded bytes
pair_decoded_lem bytes behind c n long same first second =
    ap (λ (a : Answer (Reverse ℕ)). then a (λ m. accepted (c, m))) (second ∙ ap reversed_decoded same)
    ∙ ap (λ (a : Answer Clause). then a (λ d. then (reversed_decoded (drop 8 bytes)) (λ m. accepted (d, m)))) first
    ∙ sym (tested_long 16 inside bytes long)
