use Rattle.std.proofs.Common.{refl, ap, ◌∙◌}
use Rattle.lock_core.specs.declared.range.Held.{Held}
use Rattle.lock_core.specs.Client.{loads}
use Rattle.queue_guard.specs.declared.passes.Act.TheVariants.{Begins}
use Rattle.queue_guard.specs.Places.{count_place}
use Rattle.queue_guard.specs.Acts.{look_begun, with_begun}
use Rattle.range_queue.proofs.Acting.{may, made, begun_by}
use Rattle.range_queue.proofs.words.begin_for.Goals as goal

-- a seat that holds nothing may begin to look
pub load_as_uncounted-requires-clause-allowed : goal.load_as_uncounted-requires-clause-allowed
load_as_uncounted-requires-clause-allowed g c = may g.G.Guard.holds g.G.Guard.allows c.args.seat.now.number c.args.seat.now.held c.args.seat.now.pass
    (Begins g.N.Asking.asked) (loads count_place) (λ words. (_, (refl, c.requires.free, refl)))

-- what the seat knows then, by the count
pub returns-clause-pass : goal.returns-clause-pass
returns-clause-pass g c = begun_by g.G.Guard.holds g.G.Guard.allows c.args.seat.now.number c.args.seat.now.held c.args.seat.now.pass
    g.N.Asking.asked c.load_as_uncounted.result c.load_as_uncounted.new.seat.pass
    (made g.G.Guard.holds g.G.Guard.allows c.args.seat.now.number c.args.seat.now.held c.args.seat.now.pass
    (Begins g.N.Asking.asked) (loads count_place) c.load_as_uncounted.result c.load_as_uncounted.new.seat.pass c.load_as_uncounted.ensures.made)
    ∙ ap (λ (a : Held). with_begun c.args.seat.now.pass (look_begun a c.load_as_uncounted.result)) c.requires.noted
