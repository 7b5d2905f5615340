-- How a heap that lived by the account lives on.
use Rattle.std.proofs.Common.{◌≡◌, ◌++◌, Ordering, refl, append_assoc, append-nil}
use Rattle.heap_model.specs.Held.{Held}
use Rattle.heap_model.specs.Edits.{Edited, opened}
use Rattle.heap_model.specs.Growth.{appended, appended_from}
use Rattle.account.specs.Lives.{Phase, Call, Calls, made, effect, after, came_in, gone_out}
use Rattle.account.specs.Lives.Calls.{done, next}
use Rattle.account.specs.Account.{Accounted, LivesOn, BothLiveOn, Promise}

module _ {X : Type 0} (ordering : X → X → Ordering) where
  abbrev then : {p q r : Phase} → Calls X p q → Call X q r → Calls X p r
  then done c = next c done
  then (next d ds) c = next d (then ds c)

  after_then : {p q r : Phase} (cs : Calls X p q) (c : Call X q r) (s : Edited X) → after ordering (then cs c) s ≡ (effect ordering c (after ordering cs s)).leaves
  after_then done c s = refl
  after_then (next d ds) c s = after_then ds c (effect ordering d s).leaves

  came_then : {p q r : Phase} (cs : Calls X p q) (c : Call X q r) (s : Edited X) → came_in ordering (then cs c) s ≡ came_in ordering cs s ++ (effect ordering c (after ordering cs s)).comes
  came_then done c s = append-nil (effect ordering c s).comes
  came_then (next d ds) c s = simp (came_then ds c (effect ordering d s).leaves, append_assoc)

  gone_then : {p q r : Phase} (cs : Calls X p q) (c : Call X q r) (s : Edited X) → gone_out ordering (then cs c) s ≡ gone_out ordering cs s ++ (effect ordering c (after ordering cs s)).goes
  gone_then done c s = append-nil (effect ordering c s).goes
  gone_then (next d ds) c s = simp (gone_then ds c (effect ordering d s).leaves, append_assoc)

  lives_on : {p q : Phase} (c : Call X p q) (s : Edited X) → LivesOn ordering c s (effect ordering c s).leaves
  lives_on c s came gone l = record {
    memory = l.memory;
    calls = then l.calls c;
    came_is = cc (came_then l.calls c (made l.memory));
    gone_is = cc (gone_then l.calls c (made l.memory));
    is = cc (after_then l.calls c (made l.memory));
  }

  both_live_on : (h o : Held X) → BothLiveOn ordering h o (appended ordering h o) (appended_from h o)
  both_live_on h o came gone came' gone' l k = (
    rw (← k.is, append-nil) at (lives_on (Call.append k.memory k.calls) (opened h) came gone l),
    rw (← l.is, append-nil) at (lives_on (Call.append_to l.memory l.calls) (opened o) came' gone' k),
  )

  pub promised : Accounted ordering → Promise ordering
  promised all = record {
    accounted = all;
    starts = λ memory. record { memory = memory; calls = done; came_is = refl; gone_is = refl; is = refl };
    goes_on = λ p q. lives_on;
    both_go_on = both_live_on;
    lived = λ p came gone s l. rw (l.is, l.came_is, l.gone_is) (all l.memory p l.calls);
  }
