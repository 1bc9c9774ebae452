use Rattle.std.proofs.Common.{refl}
use Rattle.lock_core.specs.Client.{loads}
use Rattle.queue_guard.specs.declared.passes.Act.TheVariants.{Glances}
use Rattle.queue_guard.specs.Places.{next_place}
use Rattle.range_queue.proofs.Acting.{may, made, glanced_by}
use Rattle.range_queue.proofs.telling.glance.Goals as goal

-- a seat may always load the next ticket
pub load_as_uncounted-requires-clause-allowed : goal.load_as_uncounted-requires-clause-allowed
load_as_uncounted-requires-clause-allowed g c = may g.G.Guard.holds g.G.Guard.allows c.args.seat.now.number c.args.seat.now.held c.args.seat.now.pass
    Glances (loads next_place) (λ words. (_, (refl, refl)))

-- it knows no more then
pub returns-clause-pass : goal.returns-clause-pass
returns-clause-pass g c = glanced_by g.G.Guard.holds g.G.Guard.allows c.args.seat.now.number c.args.seat.now.held c.args.seat.now.pass
    (loads next_place) c.load_as_uncounted.result c.load_as_uncounted.new.seat.pass
    (made g.G.Guard.holds g.G.Guard.allows c.args.seat.now.number c.args.seat.now.held c.args.seat.now.pass
    Glances (loads next_place) c.load_as_uncounted.result c.load_as_uncounted.new.seat.pass c.load_as_uncounted.ensures.made)

-- the value is that of a moment of the table
pub returns-clause-found : goal.returns-clause-found
returns-clause-found g c =
    let m = made g.G.Guard.holds g.G.Guard.allows c.args.seat.now.number c.args.seat.now.held c.args.seat.now.pass
    Glances (loads next_place) c.load_as_uncounted.result c.load_as_uncounted.new.seat.pass c.load_as_uncounted.ensures.made in
    record { words = m.words; passes = m.passes; rule = m.rule; own = m.own; word = m.word }
