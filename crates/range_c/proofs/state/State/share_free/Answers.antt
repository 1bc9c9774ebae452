use Rattle.std.proofs.Common.{sym, ap, ◌∙◌, subst}
use Rattle.std.specs.Arc.{arc_value}
use Rattle.std.specs.List.{All}
use Rattle.range_c.specs.declared.state.Lock.{Lock}
use Rattle.range_c.specs.Behind.{RecordingSeat, IsFreeIn, FitsPlace, IsFromPlace}
use Rattle.range_c.proofs.Places.{from_place, fits_all}
use Rattle.range_c.proofs.state.State.share_free.Goals as goal

-- the seat that comes back is the one that was taken, and fits each place
pub put-requires : goal.put-requires
put-requires c =
    let lock = arc_value c.self.inside.lock in
    let from = subst (λ (l : Lock). IsFromPlace l.shelf.places.items c.in-Some.rest.seat c.in-Some.rest.number) c.deref.ensures c.in-Some.ensures.from in
    let taken = from_place c.in-Some.rest.number c.self.inside.seat c.in-Some.rest.seat lock.shelf.places.items c.self.invariant.0 c.self.invariant.6 from in
    let free = subst (IsFreeIn lock.table.seats c.self.inside.seat) (sym c.in-Err.ensures.back.0) taken in
    let own = ap (λ (s : RecordingSeat). s.number) c.in-Err.ensures.back.0 ∙ (from.4.1 ∙ sym c.in-Err.ensures.back.1) in
    record {
      fits = subst (λ (l : Lock). All (λ (p : RecordingSeat). FitsPlace p c.in-Err.rest.seat c.in-Err.rest.number) l.shelf.places.items)
          (sym c.deref-in-Err.ensures) (fits_all lock.shelf.places.items c.self.invariant.0 free own c.self.invariant.6);
    }
