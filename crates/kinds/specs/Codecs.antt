-- The element kinds of a run file, each by its mark, its width in bytes, and what its bytes mean.
use Rattle.std.specs.Prelude.{◌≡◌, ℕ, ◌^◌, ◌<◌, ◌≤◌, Bool, true, cond, ◌&&◌, List, [], ◌∷◌, ◌++◌, length, take, drop, nat_le, nat_lt, All}
use Rattle.std.specs.declared.cmp.Reverse.{Reverse}
use Rattle.elements.specs.declared.clause.Clause.{Clause}
use Rattle.elements.specs.Clauses.{made}
use Rattle.elements.specs.Refusals.{Answer, by}
use Rattle.elements.specs.Refusals.Answer.{accepted, refused}
use Rattle.kinds.specs.Bytes.{number_at, bytes_of}

pub record Codec (X : Type 0) : Type 0 where
  pub mark : List ℕ
  pub width : ℕ
  -- the element in the first bytes of a list, behind which anything may stand
  pub decoded : List ℕ → Answer X
  pub encoded : X → List ℕ
  -- whether a program can hold this value
  pub exists : X → Bool
  -- what lies in places that no element was put into
  pub blank : X

-- what every kind's codec keeps
module _ {X : Type 0} (codec : Codec X) where
  pub record Faithful : Type 0 where
    pub narrow : (0 < codec.width) × (codec.width ≤ 16)
    pub sized : (x : X) → length (codec.encoded x) ≡ codec.width
    -- fewer bytes than the width are refused by 9, and no byte behind the width is looked at
    pub short : (bytes : List ℕ) → length bytes < codec.width → codec.decoded bytes ≡ refused (by 9)
    pub front : (bytes : List ℕ) → codec.width ≤ length bytes → codec.decoded bytes ≡ codec.decoded (take codec.width bytes)
    -- an accepted element's bytes come back from its value
    pub bytes_back : (bytes : List ℕ) (x : X) → All (λ b. b < 256) bytes → length bytes ≡ codec.width → codec.decoded bytes ≡ accepted x → codec.encoded x ≡ bytes
    -- a value comes back from its bytes
    pub value_back : (x : X) → codec.exists x ≡ true → codec.decoded (codec.encoded x) ≡ accepted x

-- what is made of an accepted value
abbrev pub then : {X Y : Type 0} → Answer X → (X → Answer Y) → Answer Y
then (accepted x) next = next x
then (refused r) next = refused r

abbrev pub number_decoded : List ℕ → Answer ℕ
number_decoded bytes = cond (nat_le 8 (length bytes)) (accepted (number_at 8 0 bytes)) (refused (by 9))

abbrev pub clause_decoded : List ℕ → Answer Clause
clause_decoded bytes = cond (nat_le 8 (length bytes)) (made (number_at 2 0 bytes) (number_at 4 2 bytes) (number_at 2 6 bytes)) (refused (by 9))

abbrev pub reversed_decoded : List ℕ → Answer (Reverse ℕ)
reversed_decoded bytes = then (number_decoded bytes) (λ n. accepted (record { 0 = n }))

abbrev pub pair_decoded : List ℕ → Answer (Clause × Reverse ℕ)
pair_decoded bytes = cond (nat_le 16 (length bytes)) (then (clause_decoded bytes) (λ c. then (reversed_decoded (drop 8 bytes)) (λ n. accepted (c, n)))) (refused (by 9))

abbrev pub clause_encoded : Clause → List ℕ
clause_encoded c = bytes_of 2 c.rank ++ (bytes_of 4 c.number ++ bytes_of 2 c.discount)

abbrev pub clause_exists : Clause → Bool
clause_exists c = nat_lt c.rank (2 ^ 16) && (nat_lt c.number (2 ^ 32) && nat_le c.discount 1000)

abbrev pub zero_clause : Clause
zero_clause = record { rank = 0; number = 0; discount = 0 }

abbrev pub number_codec : Codec ℕ
number_codec = record {
  mark = 75 ∷ 78 ∷ [];  -- KN
  width = 8;
  decoded = number_decoded;
  encoded = bytes_of 8;
  exists = λ n. nat_lt n (2 ^ 64);
  blank = 0;
}

abbrev pub clause_codec : Codec Clause
clause_codec = record {
  mark = 75 ∷ 67 ∷ [];  -- KC
  width = 8;
  decoded = clause_decoded;
  encoded = clause_encoded;
  exists = clause_exists;
  blank = zero_clause;
}

abbrev pub reversed_codec : Codec (Reverse ℕ)
reversed_codec = record {
  mark = 75 ∷ 82 ∷ [];  -- KR
  width = 8;
  decoded = reversed_decoded;
  encoded = λ x. bytes_of 8 x.0;
  exists = λ x. nat_lt x.0 (2 ^ 64);
  blank = record { 0 = 0 };
}

abbrev pub pair_codec : Codec (Clause × Reverse ℕ)
pair_codec = record {
  mark = 75 ∷ 80 ∷ [];  -- KP
  width = 16;
  decoded = pair_decoded;
  encoded = λ x. clause_encoded x.0 ++ bytes_of 8 x.1.0;
  exists = λ x. clause_exists x.0 && nat_lt x.1.0 (2 ^ 64);
  blank = (zero_clause, record { 0 = 0 });
}
