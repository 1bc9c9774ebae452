use Rattle.std.proofs.Common.{◌≡◌, ◌+◌, ◌++◌, map, length, vec_capacity, vec_len}
use Rattle.std.specs.Prelude.{vec_items}
use Rattle.trace_threads.specs.Hiring.{AreReady, hired}
use Rattle.trace_threads.proofs.trace.hire.Given as goal

-- the workers so far, and those that the rest makes, are all of them
abbrev pub invariant-callers : goal.invariant-callers
invariant-callers l = record {
  keeps : vec_capacity l.callers ≡ vec_capacity l.initial.callers;
  room : vec_capacity l.workers ≡ vec_capacity l.initial.workers;
  sum : vec_len l.workers + vec_len l.callers ≡ vec_len l.initial.callers;
  ready : AreReady l.callers.items (map vec_items l.lines.items);
  all : l.workers.items ++ hired l.callers.items (map vec_items l.lines.items) ≡ hired l.initial.callers.items (map vec_items l.initial.lines.items);
}

-- each turn takes one caller away
abbrev pub decreases-callers : goal.decreases-callers
decreases-callers l = length l.callers.items
