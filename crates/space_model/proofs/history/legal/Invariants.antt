use Rattle.std.proofs.Common.{take}
use Rattle.space_model.specs.History.{IsLegal, StateAfter}
use Rattle.space_model.proofs.history.legal.Given as goal

-- the entries so far are legal and leave the space
abbrev pub invariant-loop-i : goal.invariant-loop-i
invariant-loop-i l = IsLegal l.start (take l.i l.list) × StateAfter l.start (take l.i l.list) l.space
