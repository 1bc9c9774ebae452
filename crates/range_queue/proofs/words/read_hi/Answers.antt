use Rattle.std.proofs.Common.{refl}
use Rattle.lock_core.specs.Client.{loads}
use Rattle.queue_guard.specs.declared.passes.Act.TheVariants.{ReadsHi}
use Rattle.queue_guard.specs.Places.{hi_place}
use Rattle.range_queue.proofs.Acting.{may, made, read_hi_by}
use Rattle.range_queue.proofs.words.read_hi.Goals as goal

-- the seat may make this load
pub load_as_uncounted-requires-clause-allowed : goal.load_as_uncounted-requires-clause-allowed
load_as_uncounted-requires-clause-allowed g c = may g.G.Guard.holds g.G.Guard.allows c.args.seat.now.number c.args.seat.now.held c.args.seat.now.pass
    ReadsHi (loads (hi_place c.args.k)) (λ words. (_, (c.args.asked.now, c.args.k, c.args.ticket, refl, c.requires.look, c.requires.there.0, refl)))

-- what the seat knows then, by the word that was found
pub returns-clause-pass : goal.returns-clause-pass
returns-clause-pass g c = read_hi_by g.G.Guard.holds g.G.Guard.allows c.args.seat.now.number c.args.seat.now.held c.args.seat.now.pass
    c.args.asked.now c.args.k c.args.ticket c.load_as_uncounted.result c.load_as_uncounted.new.seat.pass c.requires.look
    (made g.G.Guard.holds g.G.Guard.allows c.args.seat.now.number c.args.seat.now.held c.args.seat.now.pass
    ReadsHi (loads (hi_place c.args.k)) c.load_as_uncounted.result c.load_as_uncounted.new.seat.pass c.load_as_uncounted.ensures.made)
