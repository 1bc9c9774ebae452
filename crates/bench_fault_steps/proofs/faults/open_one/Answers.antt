use Rattle.std.proofs.Common.{rules, ◌<◌, length, ap, ◌∙◌}
use Rattle.atomic_table.proofs.Lists.{at_index}
use Rattle.area_guard.specs.Rows.{keeps_by}
use Rattle.area_rows.specs.Callers.{CallerView}
use Rattle.bench_fault_steps.proofs.faults.open_one.Goals as goal

-- the one caller of a new space holds nothing, and has the number of calls that was asked for; the space keeps its
-- history
pub returns : goal.returns
returns c =
    let some : 0 < length c.in_ok-space.opened.items = search rules in
    let e = c.in_ok-space.ensures.callers 0 c.remove-first.result (at_index _ 0 _ some c.remove-first.ensures.value) in
    record {
      table = ap (λ (x : CallerView). x.seat.table) e;
      free = ap (λ (x : CallerView). x.seat.held) e;
      left = ap (λ (x : CallerView). x.left) e;
      keeps = ap (λ (x : CallerView). keeps_by x.seat.table) e ∙ c.in_ok-space.ensures.keeps;
    }
