use Rattle.std.proofs.Common.{refl}
use Rattle.lock_core.specs.Client.{adds}
use Rattle.queue_guard.specs.declared.passes.Act.TheVariants.{Uncounts}
use Rattle.queue_guard.specs.Places.{count_place}
use Rattle.range_queue.proofs.Acting.{may, made, uncounted_by}
use Rattle.range_queue.proofs.telling.count_out.Goals as goal

-- a seat may count itself so
pub add_as_uncounted-requires-clause-allowed : goal.add_as_uncounted-requires-clause-allowed
add_as_uncounted-requires-clause-allowed g c = may g.G.Guard.holds g.G.Guard.allows c.args.seat.now.number c.args.seat.now.held c.args.seat.now.pass
    Uncounts (adds count_place 18446744073709551615) (λ words. (_, (refl, c.requires.counted, refl)))

-- what the seat has told then
pub returns-clause-pass : goal.returns-clause-pass
returns-clause-pass g c = uncounted_by g.G.Guard.holds g.G.Guard.allows c.args.seat.now.number c.args.seat.now.held c.args.seat.now.pass
    (adds count_place 18446744073709551615) c.add_as_uncounted.result c.add_as_uncounted.new.seat.pass
    (made g.G.Guard.holds g.G.Guard.allows c.args.seat.now.number c.args.seat.now.held c.args.seat.now.pass
    Uncounts (adds count_place 18446744073709551615) c.add_as_uncounted.result c.add_as_uncounted.new.seat.pass c.add_as_uncounted.ensures.made)
