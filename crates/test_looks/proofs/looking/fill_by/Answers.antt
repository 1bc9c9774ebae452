use Rattle.std.proofs.Common.{rules, ◌≡◌, ◌∙◌, slice_index_or, sym, subst}
use Rattle.std.specs.Prelude.{Option, None, Result, Ok, Err, OnOk, OnErr}
use Rattle.test_crews.specs.Crews.{IsIdleAgain}
use Rattle.area_rows.specs.Callers.{CallerView}
use Rattle.test_crews.proofs.Crews.{first_of, first_back}
use Rattle.test_looks.proofs.looking.fill_by.Goals as goal

-- whether the round got the span or not, nothing is held
free_of : {A E H : Type 0} {held : Option H} (r : Result A E) → OnOk r (held ≡ None) → OnErr r (held ≡ None) → held ≡ None
free_of (Ok a) got not = got
free_of (Err e) got not = not

-- the first caller of a crew is of its space
pub fill_round-requires-clause-table : goal.fill_round-requires-clause-table
fill_round-requires-clause-table c =
    let d = c.index-callers-0.result in let is : d ≡ slice_index_or c.args.callers.now 0 d = search rules in
    let f = first_of c.args.space.now.table c.args.space.now.seats c.args.callers.now d c.requires.crew is in
    subst (λ (v : CallerView). v.seat.table ≡ c.args.space.now.table) is f.0

-- it holds nothing
pub fill_round-requires-clause-free : goal.fill_round-requires-clause-free
fill_round-requires-clause-free c =
    let d = c.index-callers-0.result in let is : d ≡ slice_index_or c.args.callers.now 0 d = search rules in
    let f = first_of c.args.space.now.table c.args.space.now.seats c.args.callers.now d c.requires.crew is in
    subst (λ (v : CallerView). v.seat.held ≡ None) is f.2

-- the crew with the first caller back
pub returns : goal.returns
returns c =
    let d = c.index-callers-0.result in let is : d ≡ slice_index_or c.args.callers.now 0 d = search rules in
    let e = c.fill_round.ensures in
    let back : IsIdleAgain (slice_index_or c.args.callers.now 0 d) c.fill_round.new.caller =
    record { table = e.looked.same.table; number = e.looked.same.number; held = free_of c.fill_round.result e.held e.free } in
    record {
      crew = first_back c.args.space.now.table c.args.space.now.seats c.args.callers.now d c.fill_round.new.caller c.requires.crew
          is (subst (λ (v : CallerView). IsIdleAgain v c.fill_round.new.caller) (sym is) back);
    }
