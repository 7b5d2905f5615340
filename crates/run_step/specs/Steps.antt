-- What a record does to the two heaps of a run, and what it answers.
use Rattle.std.specs.Prelude.{◌≡◌, ℕ, List, [], length, replicate, Result}
use Rattle.std.specs.declared.cmp.Ordering.{Ordering}
use Rattle.elements.specs.Refusals.{Answer, by}
use Rattle.elements.specs.Refusals.Answer.{accepted, refused}
use Rattle.keepers.specs.Keeps.{asked as says}
use Rattle.keepers.specs.Steps.{ceiling_step, ration_step}
use Rattle.heap_model.specs.Held.{Held}
use Rattle.heap_model.specs.Calls.{front, push_answer, pop_answer, pop_if_answer, drain_answer}
use Rattle.heap_model.specs.Growth.{extend_answer, appended, appended_from, append_answer}
use Rattle.heap_model.specs.Edits.{Edited, opened, set_answer, refresh_answer}
use Rattle.account.specs.Lives.{Phase, Call, effect}
use Rattle.account.specs.Lives.Phase.{shut, editing}
use Rattle.account.specs.Lives.Call.{push, pop, pop_if, extend, retain, drain, clear, peek_mut, «set», refresh, close, edit_pop}
use Rattle.kinds.specs.Codecs.{Codec, then}
use Rattle.run_file.specs.Records.{Asked, PU, PO, PK, PI, EX, RP, RE, RA, AP, SW, CL, DR, RW, PM, SE, RF, EP, EC}
use Rattle.run_lines.specs.declared.reply.Reply.{Reply}
use Rattle.run_lines.specs.Replies.{Said, done, gave, counted, moved, listed}
use Rattle.run_step.specs.declared.fault.RecordFault.{RecordFault}
use Rattle.run_step.specs.declared.heaps.Stepped.{Stepped}
use Rattle.run_step.specs.States.{InUse, resting, edit, Both, both, told_of, in_phase}

-- what a record is carried out by, and what it answers of what was held
pub data Deed (X : Type 0) : Phase → Type 0 where
  -- a look
  looks : {p : Phase} → (Edited X → Answer (Said X)) → Deed X p
  -- exactly this call on the heap in use
  calls : {p q : Phase} → Call X p q → (Edited X → Answer (Said X)) → Deed X p
  -- an append of the other heap
  appends : Deed X shut
  -- the other heap comes into use, and this one is put aside
  changes : Deed X shut

module _ {X : Type 0} where
  abbrev pub only_done : {A : Type 0} → Answer A → Answer (Said X)
  only_done (accepted a) = accepted done
  only_done (refused r) = refused r

  abbrev pub as_count : Answer ℕ → Answer (Said X)
  as_count (accepted n) = accepted (counted n)
  as_count (refused r) = refused r

  abbrev pub as_list : List X → Answer ℕ → Answer (Said X)
  as_list xs (accepted n) = accepted (listed xs)
  as_list xs (refused r) = refused r

module _ {X : Type 0} (ordering : X → X → Ordering) (codec : Codec X) (room : ℕ) where
  -- of a record with one element
  abbrev pub with_element : {p : Phase} → List ℕ → (X → Deed X p) → Answer (Deed X p)
  with_element e deed = then (codec.decoded e) (λ x. accepted (deed x))

  -- while no edit is open; DR and RW put the row into a list of `room` places, which may be too few
  abbrev pub at_rest : Asked → Answer (Deed X shut)
  at_rest (PU e) = with_element e (λ x. calls (push x) (λ s. only_done (push_answer s.heap)))
  at_rest PO = accepted (calls pop (λ s. accepted (gave (pop_answer s.heap))))
  at_rest PK = accepted (looks (λ s. accepted (gave (front s.heap.row))))
  at_rest (PI e) = with_element e (λ x. calls (pop_if (says (ceiling_step ordering) x [])) (λ s. accepted (gave (pop_if_answer (says (ceiling_step ordering) x []) s.heap))))
  at_rest (EX n es) = refused (by 11)
  at_rest (RP n e) = with_element e (λ x. calls (extend (replicate n x)) (λ s. as_count (extend_answer (replicate n x) s.heap)))
  at_rest (RE e) = with_element e (λ x. calls (retain (says (ceiling_step ordering) x)) (λ s. accepted done))
  at_rest (RA n) = accepted (calls (retain (says ration_step n)) (λ s. accepted done))
  at_rest AP = accepted appends
  at_rest SW = accepted changes
  at_rest CL = accepted (calls clear (λ s. accepted done))
  at_rest DR = accepted (calls (drain room) (λ s. as_list s.heap.row (drain_answer room s.heap)))
  at_rest RW = accepted (looks (λ s. as_list s.heap.row (drain_answer room s.heap)))
  at_rest PM = accepted (calls peek_mut (λ s. accepted done))
  at_rest (SE e) = refused (by 11)
  at_rest RF = refused (by 11)
  at_rest EP = refused (by 11)
  at_rest EC = refused (by 11)

  abbrev pub in_edit : Asked → Answer (Deed X editing)
  in_edit (PU e) = refused (by 10)
  in_edit PO = refused (by 10)
  in_edit PK = accepted (looks (λ s. accepted (gave (front s.heap.row))))
  in_edit (PI e) = refused (by 10)
  in_edit (EX n es) = refused (by 10)
  in_edit (RP n e) = refused (by 10)
  in_edit (RE e) = refused (by 10)
  in_edit (RA n) = refused (by 10)
  in_edit AP = refused (by 10)
  in_edit SW = refused (by 10)
  in_edit CL = refused (by 10)
  in_edit DR = refused (by 10)
  in_edit RW = refused (by 10)
  in_edit PM = refused (by 10)
  in_edit (SE e) = with_element e (λ x. calls («set» x) (λ s. only_done (set_answer s)))
  in_edit RF = accepted (calls refresh (λ s. accepted (moved (refresh_answer ordering s))))
  in_edit EP = accepted (calls edit_pop (λ s. accepted (gave (pop_answer s.heap))))
  in_edit EC = accepted (calls close (λ s. accepted done))

  -- a record that is refused leaves both heaps as they were
  abbrev pub leaves : {p : Phase} → Answer (Deed X p) → Edited X → Held X → Both X
  leaves (accepted (looks {p} answer)) s o = record { in_use = in_phase p s; aside = o }
  leaves (accepted (calls {p} {q} c answer)) s o = record { in_use = in_phase q (effect ordering c s).leaves; aside = o }
  leaves (accepted appends) s o = record { in_use = resting (appended ordering s.heap o); aside = appended_from s.heap o }
  leaves (accepted changes) s o = record { in_use = resting o; aside = s.heap }
  leaves {p} (refused r) s o = record { in_use = in_phase p s; aside = o }

  abbrev pub answers : {p : Phase} → Answer (Deed X p) → Edited X → Held X → Answer (Said X)
  answers (accepted (looks answer)) s o = answer s
  answers (accepted (calls c answer)) s o = answer s
  answers (accepted appends) s o = only_done (append_answer s.heap o)
  answers (accepted changes) s o = accepted done
  answers (refused r) s o = refused r

  -- what is held after a record
  abbrev pub stepped : InUse X → Held X → Asked → Both X
  stepped (resting h) o a = leaves (at_rest a) (opened h) o
  stepped (edit s) o a = leaves (in_edit a) s o

  -- the record's answer
  abbrev pub answered : InUse X → Held X → Asked → Answer (Said X)
  answered (resting h) o a = answers (at_rest a) (opened h) o
  answered (edit s) o a = answers (in_edit a) s o

module _ {X : Type 0} (ordering : X → X → Ordering) (codec : Codec X) where
  -- a record was carried out, or refused, on what was in use and aside; elements that it answers stand at the front of the list
  pub record StepsInto (list : List X) (in_use : InUse X) (aside : Held X) (a : Asked) (r : Stepped X) : Type 0 where
    pub heaps : both r.heaps ≡ stepped ordering codec (length list) in_use aside a
    pub answer : told_of list r.answer ≡ answered ordering codec (length list) in_use aside a

  -- it was in place, whatever the list and the other heap, which stays
  pub record Acts (before after : InUse X) (a : Asked) (r : Result (Reply X) RecordFault) : Type 0 where
    pub heap : (room : ℕ) (o : Held X) → record { in_use = after; aside = o } ≡ stepped ordering codec room before o a
    pub answer : (list : List X) (o : Held X) → told_of list r ≡ answered ordering codec (length list) before o a
