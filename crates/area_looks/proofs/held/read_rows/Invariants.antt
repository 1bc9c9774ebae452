use Rattle.std.proofs.Common.{ℕ, ◌≡◌, ◌+◌, ◌-◌, ◌≤◌, vec_capacity}
use Rattle.area_looks.specs.Shown.{HasReadTo}
use Rattle.area_looks.proofs.held.read_rows.Given as goal

-- the rows up to the page are read
abbrev pub invariant-rows : goal.invariant-rows
invariant-rows g l = record {
  read : (rows : ℕ) × HasReadTo l.initial.caller l.fn.span l.page rows rows l.into.items l.caller;
  last : l.last ≡ l.fn.span.hi;
  capacity : vec_capacity l.initial.into ≤ vec_capacity l.into;
  counted : l.steps + l.initial.caller.seat.trace.taken ≡ l.initial.steps + l.caller.seat.trace.taken;
}

-- each row ends behind the page
abbrev pub decreases-rows : goal.decreases-rows
decreases-rows g l = l.last - l.page
