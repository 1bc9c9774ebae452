use Rattle.std.proofs.Common.{◌≡◌, length, map, sym, ap, ◌∙◌, subst, arith}
use Rattle.page_touch.specs.Touches.{new_seat}
use Rattle.trace_threads.specs.Stages.{MaySit}
use Rattle.trace_threads.proofs.Touchers.{new_sit, as_many_seats, length_seated}
use Rattle.trace_threads.proofs.touched.open_touchers.Goals as goal

-- each new seat may touch as many pages as its worker's lines have faults
pub seat_workers-touchers-requires-clause-ready : goal.seat_workers-touchers-requires-clause-ready
seat_workers-touchers-requires-clause-ready c = subst (λ ss. MaySit c.args.workers.items ss)
    (sym (c.in-Ok.ensures.seats ∙ ap (map (new_seat c.in-Ok.touches.table)) c.requires.quotas)) (new_sit c.in-Ok.touches.table c.args.workers.items)

-- the emptied list of seats has room for the seats of all workers
pub returns-clause-room : goal.returns-clause-room
returns-clause-room c =
    let workers = c.args.workers.items in let seats = c.in-Ok.seats.items in
    let may : MaySit workers seats = subst (λ ss. MaySit workers ss)
    (sym (c.in-Ok.ensures.seats ∙ ap (map (new_seat c.in-Ok.touches.table)) c.requires.quotas)) (new_sit c.in-Ok.touches.table workers) in
    let same = as_many_seats workers seats may in
    let long : length c.seat_workers-touchers.result.0.items ≡ length workers = ap length c.seat_workers-touchers.ensures.touchers
    ∙ length_seated workers seats same in let room = c.seat_workers-touchers.ensures.empty.1 in
    let fits = c.in-Ok.seats.ok.0 in (c.seat_workers-touchers.ensures.empty.0, omega arith)
