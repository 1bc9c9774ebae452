use Rattle.std.specs.Prelude.{[]}
use Rattle.list_cuts.specs.Cut.{list_count}
use Rattle.queue_guard.specs.Rule.{first_pass}
use Rattle.range_queue.specs.Opening.{first_words}
use Rattle.test_waits.proofs.Seats.{count_new, idle_new}
use Rattle.test_waits.proofs.opened.open_seats.Goals as goal

-- each seat is a new one, and they are as many
pub returns-in-Ok : goal.returns-in-Ok
returns-in-Ok c = let t = c.in-Ok.table in let first = first_pass (λ _ _. tt) (first_words c.args.seats []) in record {
  idle = idle_new t.lock.table t.events.table c.args.seats (list_count c.one.result) first c.in-Ok.opened.items c.in-Ok.ensures.seats;
  count = count_new t.lock.table t.events.table c.args.seats (list_count c.one.result) first c.in-Ok.opened.items c.in-Ok.ensures.seats;
}
