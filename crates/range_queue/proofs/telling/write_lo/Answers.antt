use Rattle.std.proofs.Common.{refl, ap, sym, ℕ}
use Rattle.lock_core.specs.Client.{stores}
use Rattle.queue_guard.specs.declared.passes.Act.TheVariants.{WritesLo}
use Rattle.queue_guard.specs.Places.{lo_place}
use Rattle.range_queue.proofs.Acting.{may, made, wrote_lo_by}
use Rattle.range_queue.proofs.telling.write_lo.Goals as goal

-- a seat that hasn't shown an announcement may store its own ends
pub store_as_uncounted-requires-clause-allowed : goal.store_as_uncounted-requires-clause-allowed
store_as_uncounted-requires-clause-allowed g c = may g.G.Guard.holds g.G.Guard.allows c.args.seat.now.number c.args.seat.now.held c.args.seat.now.pass
    WritesLo (stores (lo_place c.args.number) c.args.value)
    (λ words. (_, (c.args.value, ap (λ (n : ℕ). stores (lo_place n) c.args.value) (sym c.requires.number.0), c.requires.hidden, refl)))

-- what the seat knows then
pub returns-clause-pass : goal.returns-clause-pass
returns-clause-pass g c = wrote_lo_by g.G.Guard.holds g.G.Guard.allows c.args.seat.now.number c.args.seat.now.held c.args.seat.now.pass
    (lo_place c.args.number) c.args.value c.store_as_uncounted.ensures.made.0 c.store_as_uncounted.new.seat.pass
    (made g.G.Guard.holds g.G.Guard.allows c.args.seat.now.number c.args.seat.now.held c.args.seat.now.pass
    WritesLo (stores (lo_place c.args.number) c.args.value)
    c.store_as_uncounted.ensures.made.0 c.store_as_uncounted.new.seat.pass c.store_as_uncounted.ensures.made.1)
