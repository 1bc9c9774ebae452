use Rattle.std.proofs.Common.{◌≡◌, ℕ, ◌+◌, ◌<◌, ◌≤◌, true, false}
use Rattle.view_lists.specs.Counted.{times}
use Rattle.epoch_pools.specs.Hands.{IsHandView}
use Rattle.epoch_pools.specs.Taking.{IsLooking, IsHomeKnown}
use Rattle.epoch_pools.specs.Looking.{homes_read}
use Rattle.epoch_pools.proofs.list.List.read_homes.Given as goal

-- the view is the closed line for the homes so far, and the nodes so far are known
abbrev pub invariant-nodes : goal.invariant-nodes
invariant-nodes g l = record {
  table : l.token.table ≡ l.initial.token.table;
  sound : IsHandView l.token.part;
  core : l.token.part.core ≡ homes_read l.initial.token.part.seats l.initial.token.part.core l.homes l.came;
  fresh : l.fresh ≡ true → (x : ℕ) → l.node ≤ x → times x l.homes ≡ 0;
  none : l.came ≡ false → l.homes ≡ l.initial.homes;
  on : IsLooking l.initial.token.part l.token.part;
  known : (x : ℕ) → l.first ≤ x → x < l.node → IsHomeKnown l.initial.token.part l.token.part x;
  taken : l.token.part.trace.taken + l.first ≤ l.initial.token.part.trace.taken + l.node;
  counted : l.steps + l.initial.token.part.trace.taken ≡ l.initial.steps + l.token.part.trace.taken;
}
