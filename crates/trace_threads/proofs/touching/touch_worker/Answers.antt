use Rattle.std.proofs.Common.{rules, ◌≡◌}
use Rattle.trace_threads.proofs.Touchers.{stays_within, touch_done}
use Rattle.trace_threads.proofs.touching.touch_worker.Goals as goal

-- the seat is within its quota, with no line left
pub invariant_of-toucher : goal.invariant_of-toucher
invariant_of-toucher g c =
    let same : c.as_slice.result.now ≡ c.worker.inside.lines.items = search rules in
    stays_within c.worker.view_is c.toucher.invariant c.touch_lines.ensures same c.clear.ensures.items

-- the worker has played its lines, and its seat touched their pages
pub returns : goal.returns
returns g c =
    let same : c.as_slice.result.now ≡ c.worker.inside.lines.items = search rules in
    touch_done c.worker.view_is c.toucher.view_is c.touch_lines.ensures same c.clear.ensures.items
