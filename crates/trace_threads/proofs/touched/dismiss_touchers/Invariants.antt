use Rattle.std.proofs.Common.{◌≡◌, ◌+◌, ◌++◌, map, length, vec_capacity, vec_len}
use Rattle.trace_threads.specs.Stages.{toucher_caller, toucher_seat}
use Rattle.trace_threads.proofs.touched.dismiss_touchers.Given as goal

-- the callers and seats so far, and those of the workers that are left, are all of them
abbrev pub invariant-touchers : goal.invariant-touchers
invariant-touchers l = record {
  callers_room : vec_capacity l.callers ≡ vec_capacity l.initial.callers;
  seats_room : vec_capacity l.seats ≡ vec_capacity l.initial.seats;
  callers_sum : vec_len l.callers + vec_len l.touchers ≡ vec_len l.initial.touchers;
  seats_sum : vec_len l.seats + vec_len l.touchers ≡ vec_len l.initial.touchers;
  callers : l.callers.items ++ map toucher_caller l.touchers.items ≡ map toucher_caller l.initial.touchers.items;
  seats : l.seats.items ++ map toucher_seat l.touchers.items ≡ map toucher_seat l.initial.touchers.items;
}

-- each turn takes one worker away
abbrev pub decreases-touchers : goal.decreases-touchers
decreases-touchers l = length l.touchers.items
