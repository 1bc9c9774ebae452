use Rattle.std.proofs.Common.{◌≡◌, ◌≢◌, ℕ, length, ◌+◌, ◌-◌, ◌*◌, ◌<◌, ◌≤◌}
use Rattle.list_cuts.specs.Cut.{Takes}
use Rattle.epoch_pools.specs.Beside.{shown_core}
use Rattle.range_rw.specs.Contract.{IsReadyLeft, TakesBelow}
use Rattle.range_rw.specs.Calls.{IsCounted}
use Rattle.range_rw.specs.Several.{HasLists, HoldsAlone, HasPassed, IsWorkFor}
use Rattle.range_rw.proofs.Meeting.{IsApart, IsFew}
use Rattle.range_rw.proofs.several.pass_all.Given as goal

-- the range is held in list 0 all the while, by the same node, and doesn't count; all lists before this one are passed
-- that it takes, which are so many, and it takes this one, unless it is the end. What was tried so far is one of them
-- or a look that isn't left any more. Where no list is tried again, those from this one on are as they were. Each list
-- is as it was or was found not empty, as many times at least as a look was made again; and one step was made for each
-- list that is passed, or another was met
abbrev pub invariant-all : goal.invariant-all
invariant-all g l = record {
  counted : IsCounted l.initial.hand l.hand l.initial.steps l.steps;
  cut : l.cut ≡ l.list.cut;
  lists : HasLists l.list.cut l.lists l.hand.part;
  low : 1 ≤ l.at;
  most : l.at ≤ l.lists;
  work : IsWorkFor l.list.cut (record { range = l.range; mode = l.mode }) l.initial.hand.part l.hand.part;
  home : shown_core l.hand.part 0 ≡ shown_core l.initial.hand.part 0;
  alone : HoldsAlone 0 (record { range = l.range; mode = l.mode }) l.hand.part;
  passed : HasPassed l.list.cut l.range l.at l.hand.part;
  fewer : l.left ≤ l.looks;
  ahead : l.looks ≡ 0 → (j : ℕ) → l.at ≤ j → shown_core l.hand.part j ≡ shown_core l.initial.hand.part j;
  ready : l.looks ≡ 0 → (j : ℕ) → IsReadyLeft (shown_core l.initial.hand.part j).ready (shown_core l.hand.part j).ready;
  takes : l.at < l.lists → Takes l.list.cut l.range l.at;
  each : (m : ℕ) × TakesBelow l.list.cut l.range l.at m × (l.hand.part.trace.taken + (55 + 193 * l.initial.hand.part.seats) * l.left
      ≤ l.initial.hand.part.trace.taken + (55 + 193 * l.initial.hand.part.seats) * (m + l.looks)) × IsFew m l.initial.hand.part l.hand.part;
  apart : (j : ℕ) → j ≢ 0 → IsApart j l.initial.hand.part l.hand.part;
  met : length l.initial.hand.part.trace.occupied + l.looks ≤ length l.hand.part.trace.occupied + l.left;
}

-- how many lists and looks are left
abbrev pub decreases-all : goal.decreases-all
decreases-all g l = (l.lists - l.at) + l.left
