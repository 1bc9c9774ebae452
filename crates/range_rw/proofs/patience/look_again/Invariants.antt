use Rattle.std.proofs.Common.{◌≡◌, ◌↔◌, ◌+◌, ◌≤◌, true}
use Rattle.marked_list.specs.Answers.{IsLong}
use Rattle.marked_list.specs.Causes.{IsSpent}
use Rattle.marked_list.specs.Order.{StandsInConflict}
use Rattle.range_rw.specs.Calls.{Leaves}
use Rattle.range_rw.specs.Trying.{IsLaterInTraversal}
use Rattle.range_rw.specs.Patience.{has_met, most_steps}
use Rattle.range_rw.proofs.patience.look_again.Given as goal

-- so many looks were made, each of one step at least, and the cursor stands at a node in conflict
abbrev pub invariant-loop : goal.invariant-loop
invariant-loop g l = record {
  later : Leaves (IsLaterInTraversal l.initial.cursor l.cursor) l.initial.hand l.hand l.initial.steps l.steps;
  own : l.hand.part.core.own ≡ l.initial.hand.part.core.own;
  conflict : StandsInConflict l.hand.part.seats l.hand.part.core;
  met : has_met l.last ≡ true;
  long : IsLong l.last ↔ IsSpent l.hand.part;
  patient : l.initial.hand.part.trace.taken + l.counter ≤ l.hand.part.trace.taken;
  bound : l.hand.part.trace.taken ≤ l.initial.hand.part.trace.taken + most_steps l.initial.hand.part.seats l.counter;
}
