use Rattle.range_c.specs.Behind.{RecordingSeat, FitsPlace}
use Rattle.range_c.proofs.Places.{of_all}
use Rattle.range_c.proofs.shelf.Shelf.put.Goals as goal

-- the seat fits the place that is found as it fits each
pub put_at-requires : goal.put_at-requires
put_at-requires c = record {
  fits = of_all (λ (p : RecordingSeat). FitsPlace p c.args.rest.seat c.args.rest.number) c.args.rest.number c.deref.ensures.value c.in-Some.ensures.lookup.3.0
      c.in-Some.ensures.lookup.1 c.requires.fits;
}
