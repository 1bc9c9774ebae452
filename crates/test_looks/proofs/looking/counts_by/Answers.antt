use Rattle.std.proofs.Common.{rules, ◌≡◌, ◌∙◌, slice_index_or, sym, subst}
use Rattle.std.specs.Prelude.{None}
use Rattle.test_crews.specs.Crews.{IsIdleAgain}
use Rattle.area_rows.specs.Callers.{CallerView}
use Rattle.test_crews.proofs.Crews.{first_of, first_back}
use Rattle.test_looks.proofs.looking.counts_by.Goals as goal

-- the first caller of a crew is of its space
pub counts-requires-clause-table : goal.counts-requires-clause-table
counts-requires-clause-table g c =
    let d = c.index-callers-0.result in let is : d ≡ slice_index_or c.args.callers.now 0 d = search rules in
    let f = first_of c.args.space.now.table c.args.space.now.seats c.args.callers.now d c.requires.crew is in
    subst (λ (v : CallerView). v.seat.table ≡ c.args.space.now.table) is f.0

-- it holds nothing
pub counts-requires-clause-free : goal.counts-requires-clause-free
counts-requires-clause-free g c =
    let d = c.index-callers-0.result in let is : d ≡ slice_index_or c.args.callers.now 0 d = search rules in
    let f = first_of c.args.space.now.table c.args.space.now.seats c.args.callers.now d c.requires.crew is in
    subst (λ (v : CallerView). v.seat.held ≡ None) is f.2

-- the crew with the first caller back
pub returns : goal.returns
returns g c =
    let d = c.index-callers-0.result in let is : d ≡ slice_index_or c.args.callers.now 0 d = search rules in
    let e = c.counts.ensures in
    let back : IsIdleAgain (slice_index_or c.args.callers.now 0 d) c.counts.new.caller =
    record { table = e.looked.same.table; number = e.looked.same.number; held = e.free } in
    record {
      crew = first_back c.args.space.now.table c.args.space.now.seats c.args.callers.now d c.counts.new.caller c.requires.crew
          is (subst (λ (v : CallerView). IsIdleAgain v c.counts.new.caller) (sym is) back);
    }
