-- The account of both heaps of a run.
use Rattle.std.specs.Prelude.{ℕ, List, [], ◌++◌}
use Rattle.std.specs.declared.cmp.Ordering.{Ordering}
use Rattle.elements.specs.Refusals.{Answer}
use Rattle.elements.specs.Refusals.Answer.{accepted, refused}
use Rattle.heap_model.specs.Held.{Held}
use Rattle.heap_model.specs.Growth.{append_answer}
use Rattle.heap_model.specs.Edits.{Edited, opened}
use Rattle.account.specs.Lives.{Phase, effect, if_accepted}
use Rattle.account.specs.Lives.Phase.{shut, editing}
use Rattle.account.specs.Account.{Account, Lived}
use Rattle.kinds.specs.Codecs.{Codec}
use Rattle.run_file.specs.Records.{Asked}
use Rattle.run_step.specs.States.{InUse, resting, edit, Both, begun}
use Rattle.run_step.specs.Steps.{Deed, looks, calls, appends, changes, at_rest, in_edit, stepped}

-- what came into each heap, and what went out of it: first of the heap in use, then of the other
pub record Books (X : Type 0) : Type 0 where
  pub came : List X
  pub gone : List X
  pub other_came : List X
  pub other_gone : List X

module _ {X : Type 0} where
  abbrev pub empty : Books X
  empty = record { came = []; gone = []; other_came = []; other_gone = [] }

  abbrev pub phase_of : InUse X → Phase
  phase_of (resting h) = shut
  phase_of (edit s) = editing

  abbrev pub edited_of : InUse X → Edited X
  edited_of (resting h) = opened h
  edited_of (edit s) = s

module _ {X : Type 0} (ordering : X → X → Ordering) where
  -- a record that is carried out moves what its call moves; any other moves nothing
  abbrev pub entered : {p : Phase} → Answer (Deed X p) → Edited X → Held X → Books X → Books X
  entered (accepted (looks answer)) s o k = k
  entered (accepted (calls c answer)) s o k = record {
    came = k.came ++ (effect ordering c s).comes;
    gone = k.gone ++ (effect ordering c s).goes;
    other_came = k.other_came;
    other_gone = k.other_gone;
  }
  entered (accepted appends) s o k = record {
    came = k.came ++ if_accepted (append_answer s.heap o) o.row;
    gone = k.gone;
    other_came = k.other_came;
    other_gone = k.other_gone ++ if_accepted (append_answer s.heap o) o.row;
  }
  entered (accepted changes) s o k = record { came = k.other_came; gone = k.other_gone; other_came = k.came; other_gone = k.gone }
  entered (refused r) s o k = k

  -- both heaps have lived by the account, each through calls that moved what the books say
  pub record BothLived (k : Books X) (b : Both X) : Type 0 where
    pub in_use : Lived ordering (phase_of b.in_use) k.came k.gone (edited_of b.in_use)
    pub aside : Lived ordering shut k.other_came k.other_gone (opened b.aside)

  -- so the promise over a heap's life holds of both
  pub record BothAccounted (k : Books X) (b : Both X) : Type 0 where
    pub in_use : (size : ℕ) × Account ordering size (phase_of b.in_use) k.came k.gone (edited_of b.in_use)
    pub aside : (size : ℕ) × Account ordering size shut k.other_came k.other_gone (opened b.aside)

  module _ (codec : Codec X) (room : ℕ) where
    abbrev pub booked : InUse X → Held X → Asked → Books X → Books X
    booked (resting h) o a k = entered (at_rest ordering codec room a) (opened h) o k
    booked (edit s) o a k = entered (in_edit ordering codec room a) s o k

    -- two heaps start by the account, live on by it through every record, and keep it
    pub record BothPromised : Type 0 where
      pub start : (first second : List X) → BothLived empty (begun first second)
      pub go_on : (k : Books X) (b : Both X) (a : Asked) → BothLived k b → BothLived (booked b.in_use b.aside a k) (stepped ordering codec room b.in_use b.aside a)
      pub keep : (k : Books X) (b : Both X) → BothLived k b → BothAccounted k b
