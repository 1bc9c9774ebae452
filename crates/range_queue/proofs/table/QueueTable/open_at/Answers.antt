use Rattle.std.proofs.Common.{rules, ◌≡◌, ℕ, List, None, replicate, sym, subst}
use Rattle.list_cuts.specs.Cut.{list_count}
use Rattle.range_rw.specs.Contract.{AreNewSeatsIn, first_passes}
use Rattle.queue_guard.specs.Rule.{HasQueue, first_pass}
use Rattle.range_queue.specs.Opening.{first_words}
use Rattle.range_queue.proofs.Starting.{new_quiet, starts}
use Rattle.range_queue.proofs.table.QueueTable.open_at.Goals as goal

-- the rule of the queue holds of its first words
pub open_cut-requires-clause-rule : goal.open_cut-requires-clause-rule
open_cut-requires-clause-rule g c = λ ok.
    let is : c.as_slice.result.now ≡ first_words c.args.seats c.args.client.now = search rules in
    subst (λ (w : List ℕ). HasQueue g.G.Guard.holds (replicate c.args.seats None) w (first_passes (first_pass g.G.Guard.first w) 0 c.args.seats)) (sym is)
    (starts g.G.Guard.first c.args.seats c.args.client.now g.G.Guard.holds ok.1 c.requires.rule)

-- and each seat has announced nothing
pub seat_all-requires-clause-quiet : goal.seat_all-requires-clause-quiet
seat_all-requires-clause-quiet g c =
    let is : c.as_slice.result.now ≡ first_words c.args.seats c.args.client.now = search rules in
    new_quiet g.G.Guard.first c.args.seats c.args.client.now (list_count c.args.cut) c.in-Ok.table.table c.in-Ok.inner.items
    (subst (λ (w : List ℕ). AreNewSeatsIn (list_count c.args.cut) c.in-Ok.table.table (first_pass g.G.Guard.first w) c.in-Ok.inner.items) is
    c.in-Ok.ensures.seats.1)
