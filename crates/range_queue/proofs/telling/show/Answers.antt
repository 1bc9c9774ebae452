use Rattle.std.proofs.Common.{refl, ap, sym, ℕ}
use Rattle.lock_core.specs.Client.{stores}
use Rattle.queue_guard.specs.declared.passes.Act.TheVariants.{Shows}
use Rattle.queue_guard.specs.Places.{ticket_place}
use Rattle.lock_core.specs.Words.{hi_word}
use Rattle.range_queue.proofs.Acting.{may, made, shown_by, range_back}
use Rattle.range_queue.proofs.telling.show.Goals as goal

-- a seat that has drawn a ticket and written its ends may show it
pub store_as_uncounted-requires-clause-allowed : goal.store_as_uncounted-requires-clause-allowed
store_as_uncounted-requires-clause-allowed g c = may g.G.Guard.holds g.G.Guard.allows c.args.seat.now.number c.args.seat.now.held c.args.seat.now.pass
    Shows (stores (ticket_place c.args.number) c.args.ticket)
    (λ words. (
      _,
      (
        c.args.ticket,
        c.args.held.now.range.lo,
        hi_word c.args.held.now.range.hi c.args.held.now.mode,
        ap (λ (n : ℕ). stores (ticket_place n) c.args.ticket) (sym c.requires.number.0),
        c.requires.drawn,
        c.requires.ends,
        range_back c.args.held.now c.lo.ensures.bounds,
        refl,
      ),
    ))

-- what the seat has told then
pub returns-clause-pass : goal.returns-clause-pass
returns-clause-pass g c = shown_by g.G.Guard.holds g.G.Guard.allows c.args.seat.now.number c.args.seat.now.held c.args.seat.now.pass
    c.args.ticket c.args.held.now (stores (ticket_place c.args.number) c.args.ticket) c.store_as_uncounted.ensures.made.0 c.store_as_uncounted.new.seat.pass
    c.requires.drawn c.requires.ends
    (made g.G.Guard.holds g.G.Guard.allows c.args.seat.now.number c.args.seat.now.held c.args.seat.now.pass
    Shows (stores (ticket_place c.args.number) c.args.ticket)
    c.store_as_uncounted.ensures.made.0 c.store_as_uncounted.new.seat.pass c.store_as_uncounted.ensures.made.1)
