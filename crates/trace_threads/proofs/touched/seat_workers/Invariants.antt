use Rattle.std.proofs.Common.{◌≡◌, ◌+◌, ◌++◌, length, vec_capacity, vec_len}
use Rattle.trace_threads.specs.Stages.{MaySit, seated}
use Rattle.trace_threads.proofs.touched.seat_workers.Given as goal

-- those that sit so far, and those that the rest makes, are all of them
abbrev pub invariant-workers : goal.invariant-workers
invariant-workers l = record {
  keeps : vec_capacity l.seats ≡ vec_capacity l.initial.seats;
  room : vec_capacity l.touchers ≡ vec_capacity l.initial.touchers;
  sum : vec_len l.touchers + vec_len l.workers ≡ vec_len l.initial.workers;
  ready : MaySit l.workers.items l.seats.items;
  all : l.touchers.items ++ seated l.workers.items l.seats.items ≡ seated l.initial.workers.items l.initial.seats.items;
}

-- each turn takes one worker away
abbrev pub decreases-workers : goal.decreases-workers
decreases-workers l = length l.workers.items
