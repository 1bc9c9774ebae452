use Rattle.std.specs.Prelude.{[]}
use Rattle.range_queue.specs.Opening.{first_words}
use Rattle.test_queue.proofs.Players.{idle_new}
use Rattle.test_queue.proofs.opened.open_seats.Goals as goal

-- each seat is a new one
pub returns-in-Ok : goal.returns-in-Ok
returns-in-Ok c = record {
  idle = λ k s at. idle_new _ k c.in-Ok.table.table (λ _ _. tt) (first_words c.args.seats []) s (c.in-Ok.ensures.seats.1 k s at);
}
