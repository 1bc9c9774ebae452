use Rattle.std.proofs.Common.{refl}
use Rattle.lock_core.specs.Client.{loads}
use Rattle.queue_guard.specs.declared.passes.Act.TheVariants.{Judges}
use Rattle.queue_guard.specs.Places.{ticket_place}
use Rattle.range_queue.proofs.Acting.{may, made, judged_by, judged_range}
use Rattle.range_queue.proofs.words.judge.Goals as goal

-- the seat may make this load
pub load_as_uncounted-requires-clause-allowed : goal.load_as_uncounted-requires-clause-allowed
load_as_uncounted-requires-clause-allowed g c = may g.G.Guard.holds g.G.Guard.allows c.args.seat.now.number c.args.seat.now.held c.args.seat.now.pass
    Judges (loads (ticket_place c.args.k))
    (λ words. (
      _,
      (
        c.args.asked.now,
        c.args.k,
        c.args.ticket,
        c.args.lo,
        c.args.hi,
        refl,
        c.requires.look,
        c.requires.read,
        c.requires.there.0,
        refl,
        c.requires.free,
      ),
    ))

-- what the seat knows then, by the word that was found
pub returns-clause-pass : goal.returns-clause-pass
returns-clause-pass g c = judged_by g.G.Guard.holds g.G.Guard.allows c.args.seat.now.number c.args.seat.now.held c.args.seat.now.pass
    c.args.asked.now c.args.k c.args.ticket c.args.lo c.args.hi c.load_as_uncounted.result c.load_as_uncounted.new.seat.pass c.requires.look c.requires.read
    (made g.G.Guard.holds g.G.Guard.allows c.args.seat.now.number c.args.seat.now.held c.args.seat.now.pass
    Judges (loads (ticket_place c.args.k)) c.load_as_uncounted.result c.load_as_uncounted.new.seat.pass c.load_as_uncounted.ensures.made)

-- the ends are those of a range, if the ticket was found again
pub returns-clause-range : goal.returns-clause-range
returns-clause-range g c = judged_range g.G.Guard.holds g.G.Guard.allows c.args.seat.now.number c.args.seat.now.held c.args.seat.now.pass
    c.args.asked.now c.args.k c.args.ticket c.args.lo c.args.hi c.load_as_uncounted.result c.load_as_uncounted.new.seat.pass
    c.requires.look c.requires.read c.requires.there.0
    (made g.G.Guard.holds g.G.Guard.allows c.args.seat.now.number c.args.seat.now.held c.args.seat.now.pass
    Judges (loads (ticket_place c.args.k)) c.load_as_uncounted.result c.load_as_uncounted.new.seat.pass c.load_as_uncounted.ensures.made)
