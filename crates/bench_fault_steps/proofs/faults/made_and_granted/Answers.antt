use Rattle.std.proofs.Common.{ap, ◌∙◌}
use Rattle.area_guard.specs.Rows.{keeps_by}
use Rattle.bench_fault_steps.proofs.faults.made_and_granted.Goals as goal

-- the space of the opening keeps its history, and faults leave the caller in its table
pub entries-entries-requires : goal.entries-entries-requires
entries-entries-requires g c = ap keeps_by c.make_faults.ensures.keeps ∙ c.in-Ok.ensures.keeps
