use Rattle.std.proofs.Common.{refl, ap, sym, ℕ}
use Rattle.lock_core.specs.Client.{stores}
use Rattle.queue_guard.specs.declared.passes.Act.TheVariants.{Hides}
use Rattle.queue_guard.specs.Places.{ticket_place}
use Rattle.range_queue.proofs.Acting.{may, made, hidden_by, shown_one}
use Rattle.range_queue.proofs.telling.hide.Goals as goal

-- a seat may take its announcement back
pub store_as_uncounted-requires-clause-allowed : goal.store_as_uncounted-requires-clause-allowed
store_as_uncounted-requires-clause-allowed g c = let a = shown_one c.args.seat.now.pass.telling c.requires.shown in
    may g.G.Guard.holds g.G.Guard.allows c.args.seat.now.number c.args.seat.now.held c.args.seat.now.pass
    Hides (stores (ticket_place c.args.number) 0) (λ words. (_, (a.0, ap (λ (n : ℕ). stores (ticket_place n) 0) (sym c.requires.number.0), a.1, refl)))

-- what the seat has told then
pub returns-clause-pass : goal.returns-clause-pass
returns-clause-pass g c = hidden_by g.G.Guard.holds g.G.Guard.allows c.args.seat.now.number c.args.seat.now.held c.args.seat.now.pass
    (stores (ticket_place c.args.number) 0) c.store_as_uncounted.ensures.made.0 c.store_as_uncounted.new.seat.pass
    (made g.G.Guard.holds g.G.Guard.allows c.args.seat.now.number c.args.seat.now.held c.args.seat.now.pass
    Hides (stores (ticket_place c.args.number) 0) c.store_as_uncounted.ensures.made.0 c.store_as_uncounted.new.seat.pass c.store_as_uncounted.ensures.made.1)
