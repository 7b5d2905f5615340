-- The records of a run file, by their marks.
use Rattle.std.specs.Prelude.{List, ℕ}
use Rattle.run_file.specs.declared.record.Record.{Record}
use Rattle.run_file.specs.declared.record.Record.TheVariants.{Push, Pop, Peek, PopIf, Extend, Repeat, Retain, Ration, Append, Swap, Clear, Drain, Row, PeekMut, Set, Refresh, EditPop, Close}

-- what a record asks for; elements are still bytes
pub data Asked : Type 0 where
  PU : List ℕ → Asked
  PO : Asked
  PK : Asked
  PI : List ℕ → Asked
  EX : ℕ → List ℕ → Asked
  RP : ℕ → List ℕ → Asked
  RE : List ℕ → Asked
  RA : ℕ → Asked
  AP : Asked
  SW : Asked
  CL : Asked
  DR : Asked
  RW : Asked
  PM : Asked
  SE : List ℕ → Asked
  RF : Asked
  EP : Asked
  EC : Asked

abbrev pub asked : Record → Asked
asked (Push e) = PU e.now
asked Pop = PO
asked Peek = PK
asked (PopIf e) = PI e.now
asked (Extend n es) = EX n es.now
asked (Repeat n e) = RP n e.now
asked (Retain e) = RE e.now
asked (Ration n) = RA n
asked Append = AP
asked Swap = SW
asked Clear = CL
asked Drain = DR
asked Row = RW
asked PeekMut = PM
asked (Set e) = SE e.now
asked Refresh = RF
asked EditPop = EP
asked Close = EC
