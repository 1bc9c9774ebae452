use Rattle.std.proofs.Common.{◌≡◌, ◌⊎◌}
use Rattle.std.specs.Prelude.{None}
use Rattle.area_protect.specs.Looks.{HasLooked, LooksFirst}
use Rattle.area_protect.specs.Protects.{AsksPagesFirst}
use Rattle.area_protect.proofs.protecting.attempts.Given as goal

-- between two attempts the caller holds nothing and has only looked at the history, first under its pages as a reader
abbrev pub invariant-loop : goal.invariant-loop
invariant-loop g l = record {
  held : l.caller.seat.held ≡ None;
  looked : HasLooked l.fn.caller l.caller;
  first : (l.caller.seat.pass.looks ≡ l.fn.caller.seat.pass.looks) ⊎ LooksFirst l.fn.caller.seat l.pages.lo l.pages.hi l.caller.seat;
  asks : (l.caller.seat.trace.asked ≡ l.fn.caller.seat.trace.asked)
      ⊎ AsksPagesFirst l.pages.lo l.pages.hi l.fn.caller.seat.trace.asked l.caller.seat.trace.asked;
}
