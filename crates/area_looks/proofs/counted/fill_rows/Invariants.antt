use Rattle.std.proofs.Common.{ℕ, ◌≡◌, ◌+◌, ◌-◌, ◌≤◌}
use Rattle.area_looks.specs.Places.{Tells}
use Rattle.area_looks.specs.Shown.{HasReadTo}
use Rattle.area_looks.proofs.counted.fill_rows.Given as goal

-- the rows up to the page are read, and their areas are told
abbrev pub invariant-rows : goal.invariant-rows
invariant-rows g l = record {
  told : Tells g.T.Told.told l.initial.into l.into l.counts
      (λ list. (rows : ℕ) × HasReadTo l.initial.caller l.fn.span l.page rows rows list l.caller);
  last : l.last ≡ l.fn.span.hi;
  few : (l.counts.areas ≤ l.page) × (l.counts.pages ≤ l.page);
  counted : l.steps + l.initial.caller.seat.trace.taken ≡ l.initial.steps + l.caller.seat.trace.taken;
}

-- each row ends behind the page
abbrev pub decreases-rows : goal.decreases-rows
decreases-rows g l = l.last - l.page
