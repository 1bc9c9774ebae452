use Rattle.std.proofs.Common.{rules, ◌≡◌, ◌<◌, length, map, sym, ap, ◌∙◌, arith}
use Rattle.std.proofs.lemmas.List.{length-map}
use Rattle.std.specs.Prelude.{vec_items}
use Rattle.list_cuts.specs.Cut.{list_count}
use Rattle.trace_threads.proofs.Hirings.{new_ready, new_workers, length_hired}
use Rattle.trace_threads.proofs.trace.open_workers.Goals as goal

-- the new callers may be given the lists for which they were opened
pub hire-workers-requires-clause-ready : goal.hire-workers-requires-clause-ready
hire-workers-requires-clause-ready c =
    let lists = map vec_items c.args.lines.items in
    let calls : c.as_slice-2.result.now ≡ map length lists = search rules in
    let same : length c.in-Ok-open_cut.callers.items ≡ length lists = c.in-Ok-open_cut.ensures.count.1 ∙ (ap length calls ∙ length-map lists length) in
    new_ready (list_count c.args.cut) _ _ lists c.in-Ok-open_cut.callers.items calls same c.in-Ok-open_cut.ensures.callers c.requires.named

-- what is hired of them are new workers with these lists
pub returns-in-Ok-with_capacity-clause-workers : goal.returns-in-Ok-with_capacity-clause-workers
returns-in-Ok-with_capacity-clause-workers c =
    let lists = map vec_items c.args.lines.items in
    let calls : c.as_slice-2.result.now ≡ map length lists = search rules in
    let count = c.in-Ok-open_cut.ensures.count.1 in
    let same : length c.in-Ok-open_cut.callers.items ≡ length lists = count ∙ (ap length calls ∙ length-map lists length) in
    let seats = c.in-Ok-open_cut.ensures.opened.0.0 in
    let more : 0 < length c.in-Ok-open_cut.callers.items = omega arith in
    new_workers (list_count c.args.cut) c.as_slice-2.result.now lists c.in-Ok-open_cut.callers.items c.hire-workers.result.0.items
    c.hire-workers.ensures.workers same more c.in-Ok-open_cut.ensures.callers

-- there are as many workers as the space has seats
pub returns-in-Ok-with_capacity-clause-count : goal.returns-in-Ok-with_capacity-clause-count
returns-in-Ok-with_capacity-clause-count c =
    let lists = map vec_items c.args.lines.items in
    let calls : c.as_slice-2.result.now ≡ map length lists = search rules in
    let same : length c.in-Ok-open_cut.callers.items ≡ length lists = c.in-Ok-open_cut.ensures.count.1 ∙ (ap length calls ∙ length-map lists length) in
    let long : length c.hire-workers.result.0.items ≡ length lists = ap length c.hire-workers.ensures.workers
    ∙ length_hired c.in-Ok-open_cut.callers.items lists same in c.in-Ok-open_cut.ensures.count.0 ∙ (sym c.in-Ok-open_cut.ensures.count.1 ∙ (same ∙ sym long))

-- the emptied list of callers has room for the callers of all workers
pub returns-in-Ok-with_capacity-clause-room : goal.returns-in-Ok-with_capacity-clause-room
returns-in-Ok-with_capacity-clause-room c =
    let lists = map vec_items c.args.lines.items in
    let calls : c.as_slice-2.result.now ≡ map length lists = search rules in
    let same : length c.in-Ok-open_cut.callers.items ≡ length lists = c.in-Ok-open_cut.ensures.count.1 ∙ (ap length calls ∙ length-map lists length) in
    let long : length c.hire-workers.result.0.items ≡ length lists = ap length c.hire-workers.ensures.workers
    ∙ length_hired c.in-Ok-open_cut.callers.items lists same in let room = c.hire-workers.ensures.empty.1 in
    let fits = c.in-Ok-open_cut.callers.ok.0 in (c.hire-workers.ensures.empty.0, omega arith)
