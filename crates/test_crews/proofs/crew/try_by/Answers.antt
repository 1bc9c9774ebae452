use Rattle.std.proofs.Common.{rules, ◌≡◌, slice_index_or, sym, subst}
use Rattle.std.specs.Prelude.{None}
use Rattle.page_types.specs.declared.sets.Access.TheVariants.{Read}
use Rattle.page_fault.specs.Faults.{IsTried}
use Rattle.test_crews.specs.Crews.{IsIdleAgain}
use Rattle.area_rows.specs.Callers.{CallerView}
use Rattle.test_crews.proofs.Crews.{first_of, first_back, first_is}
use Rattle.test_crews.proofs.crew.try_by.Goals as goal

-- the first caller of a crew is of its space and holds nothing
pub try_read-requires : goal.try_read-requires
try_read-requires c =
    let d = c.index-callers-0.result in let is : d ≡ slice_index_or c.args.callers.now 0 d = search rules in
    let f = first_of c.args.space.now.table c.args.space.now.seats c.args.callers.now d c.requires.crew is in
    record { caller = subst (λ (v : CallerView). (v.seat.table ≡ c.args.space.now.table) × (v.seat.held ≡ None)) is (f.0, f.2) }

-- the crew with the first caller back, and its answer
pub returns : goal.returns
returns c =
    let d = c.index-callers-0.result in let is : d ≡ slice_index_or c.args.callers.now 0 d = search rules in
    record {
      crew = first_back c.args.space.now.table c.args.space.now.seats c.args.callers.now d c.try_read.new.caller c.requires.crew
          is (subst (λ (v : CallerView). IsIdleAgain v c.try_read.new.caller) (sym is) c.try_read.ensures.caller);
      tried = first_is c.args.callers.now d c.try_read.new.caller
          (λ before after. IsTried c.args.space.now.seats before 1 c.args.addr Read c.try_read.result after) c.try_read.ensures.tried;
    }
