use Rattle.std.proofs.Common.{◌≡◌, ◌≢◌, ℕ, ◌+◌, ◌<◌, ◌≤◌, [], false}
use Rattle.view_lists.specs.Counted.{are_others_passed}
use Rattle.epoch_pools.specs.Taking.{IsLooking, IsSeatKnown}
use Rattle.epoch_pools.proofs.hand.Hand.look_epochs.Given as goal

-- the seats so far are known, and the candidates wait on
abbrev pub invariant-seats : goal.invariant-seats
invariant-seats g l = record {
  table : l.self.table ≡ l.initial.self.table;
  on : IsLooking l.initial.self.part l.self.part;
  empty : l.self.part.core.ready ≡ [];
  used : l.self.part.core.used ≡ l.initial.self.part.core.used;
  homes : l.self.part.core.homes ≡ l.initial.self.part.core.homes;
  known : (k : ℕ) → k < l.other → k ≢ l.self.part.number → IsSeatKnown l.initial.self.part l.self.part k;
  barred : (k : ℕ) → k < l.other → k ≢ l.self.part.number → are_others_passed l.self.part.number l.self.part.core.passed ≡ false;
  taken : l.self.part.trace.taken ≤ l.initial.self.part.trace.taken + l.other;
  counted : l.steps + l.initial.self.part.trace.taken ≡ l.initial.steps + l.self.part.trace.taken;
}
