-- Both heaps of a run live by the account, through every record.
use Rattle.std.proofs.Common.{ℕ, List, length, Ordering}
use Rattle.elements.specs.Refusals.{Answer}
use Rattle.elements.specs.Refusals.Answer.{accepted}
use Rattle.heap_model.specs.Held.{Held}
use Rattle.heap_model.specs.Edits.{Edited, opened}
use Rattle.account.specs.Lives.{Phase, Call, effect}
use Rattle.account.specs.Lives.Call.{push}
use Rattle.account.specs.Account.{Lived, Promise}
use Rattle.kinds.specs.Codecs.{Codec}
use Rattle.run_file.specs.Records.{Asked}
use Rattle.run_step.specs.States.{InUse, resting, edit, in_phase}
use Rattle.run_step.specs.Steps.{Deed, calls, appends, changes, at_rest, in_edit, leaves, stepped}
use Rattle.run_step.specs.Lives.{Books, phase_of, edited_of, entered, booked, BothLived, BothPromised}

module _ {X : Type 0} (ordering : X → X → Ordering) where
  -- a call that leaves no edit leaves nothing exposed
  called : {p q : Phase} (c : Call X p q) (s : Edited X) {came gone : List X} → Lived ordering q came gone (effect ordering c s).leaves
      → Lived ordering (phase_of (in_phase q (effect ordering c s).leaves)) came gone (edited_of (in_phase q (effect ordering c s).leaves))
  called (push x) s lived = lived
  called c s lived = lived

  module _ (promise : Promise ordering) (codec : Codec X) (room : ℕ) where
    goes_on : {p : Phase} (d : Answer (Deed X p)) (s : Edited X) (o : Held X) (k : Books X) → Lived ordering p k.came k.gone s → BothLived ordering k (record { in_use = in_phase p s; aside = o })
        → BothLived ordering (entered ordering d s o k) (leaves ordering codec room d s o)
    goes_on (accepted (calls {p} {q} c answer)) s o k here lived = record { in_use = called c s (promise.goes_on p q c s _ _ here); aside = lived.aside }
    goes_on (accepted appends) s o k here lived = let two = promise.both_go_on s.heap o _ _ _ _ lived.in_use lived.aside in record { in_use = two.0; aside = two.1 }
    goes_on (accepted changes) s o k here lived = record { in_use = lived.aside; aside = lived.in_use }
    goes_on d s o k here lived = lived

    pub both_promised : BothPromised ordering codec room
    both_promised = record {
      start = λ first second. record { in_use = promise.starts first; aside = promise.starts second };
      go_on = λ k b a. by_state k b.in_use b.aside a;
      keep = λ k b lived. record {
        in_use = (length lived.in_use.memory, promise.lived _ _ _ _ lived.in_use);
        aside = (length lived.aside.memory, promise.lived _ _ _ _ lived.aside);
      };
    }
      where
        by_state : (k : Books X) (u : InUse X) (o : Held X) (a : Asked) → BothLived ordering k (record { in_use = u; aside = o }) → BothLived ordering (booked ordering codec room u o a k) (stepped ordering codec room u o a)
        by_state k (resting h) o a lived = goes_on (at_rest ordering codec room a) (opened h) o k lived.in_use lived
        by_state k (edit s) o a lived = goes_on (in_edit ordering codec room a) s o k lived.in_use lived
