use Rattle.std.proofs.Common.{◌≡◌, ◌⊎◌}
use Rattle.std.specs.Prelude.{None}
use Rattle.area_protect.specs.Looks.{HasLooked}
use Rattle.area_protect.specs.Protects.{AsksPagesFirst}
use Rattle.area_protect.proofs.beside.tries.Given as goal

-- between two attempts the caller holds nothing, and has asked for what attempts ask for
abbrev pub invariant-loop : goal.invariant-loop
invariant-loop g l = record {
  held : l.caller.seat.held ≡ None;
  looked : HasLooked l.fn.caller l.caller;
  asks : (l.caller.seat.trace.asked ≡ l.fn.caller.seat.trace.asked)
      ⊎ AsksPagesFirst l.pages.lo l.pages.hi l.fn.caller.seat.trace.asked l.caller.seat.trace.asked;
}
