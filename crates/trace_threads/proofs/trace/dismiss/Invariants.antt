use Rattle.std.proofs.Common.{◌≡◌, ◌+◌, ◌++◌, map, length, vec_capacity, vec_len}
use Rattle.trace_threads.specs.Collected.{caller_of}
use Rattle.trace_threads.proofs.trace.dismiss.Given as goal

-- the callers so far, and those of the workers that are left, are all of them
abbrev pub invariant-workers : goal.invariant-workers
invariant-workers l = record {
  keeps : vec_capacity l.callers ≡ vec_capacity l.initial.callers;
  sum : vec_len l.callers + vec_len l.workers ≡ vec_len l.initial.workers;
  all : l.callers.items ++ map caller_of l.workers.items ≡ map caller_of l.initial.workers.items;
}

-- each turn takes one worker away
abbrev pub decreases-workers : goal.decreases-workers
decreases-workers l = length l.workers.items
