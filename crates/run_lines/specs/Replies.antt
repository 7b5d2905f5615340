-- What an accepted record answers.
use Rattle.std.specs.Prelude.{ℕ, Bool, List, take, Option}
use Rattle.run_lines.specs.declared.reply.Reply.{Reply}
use Rattle.run_lines.specs.declared.reply.Reply.TheVariants.{Done, Element, Count, Moved, Elements}

pub data Said (X : Type 0) : Type 0 where
  done : Said X
  -- an element, or none
  gave : Option X → Said X
  counted : ℕ → Said X
  moved : Bool → Said X
  -- how many, and which
  listed : List X → Said X

-- a reply, where its elements stand at the front of a list
abbrev pub said : {X : Type 0} → List X → Reply X → Said X
said list Done = done
said list (Element x) = gave x
said list (Count n) = counted n
said list (Moved b) = moved b
said list (Elements n) = listed (take n list)
