use Rattle.std.proofs.Common.{◌+◌, ◌*◌, length}
use Rattle.raw_trace.specs.Order.{frees_for, write_entry}
use Rattle.raw_trace.specs.Waiting.{entry, entries}
use Rattle.raw_trace.specs.Stages.{DueSome}
use Rattle.raw_trace.proofs.order.Ordering.write.Given as goal

-- what is due and waits gives the rest
abbrev pub invariant-due : goal.invariant-due
invariant-due l = DueSome l.fn.strict l.fn.self (write_entry frees_for (entry l.fn.piece) l.fn.self.waiting) l.due.items l.self

-- each turn writes one, or makes a waiting one due
abbrev pub decreases-due : goal.decreases-due
decreases-due l = length l.due.items + 2 * length l.self.waiting
