-- What a heap holds: a row, at the front of its lent memory.
use Rattle.std.specs.Prelude.{ℕ, min, List, [], ◌++◌, length, take, drop}

-- the places of a memory of this size
abbrev pub places_of : ℕ → ℕ
places_of size = min size 1048576

-- the length of the row on a memory of this size, if the heap counts `len`
abbrev pub row_length : ℕ → ℕ → ℕ
row_length size len = min len (places_of size)

pub record Held (X : Type 0) : Type 0 where
  pub row : List X
  pub memory : List X

module _ {X : Type 0} where
  abbrev pub held_of : List X → ℕ → Held X
  held_of memory len = record { row = take (row_length (length memory) len) memory; memory = memory }

  abbrev pub places : Held X → ℕ
  places h = places_of (length h.memory)

  abbrev pub empty_on : List X → Held X
  empty_on memory = record { row = []; memory = memory }

  -- another row at the front of the same memory, and nothing written behind it
  abbrev pub leave : List X → Held X → Held X
  leave row h = record { row = row; memory = row ++ drop (length row) h.memory }
