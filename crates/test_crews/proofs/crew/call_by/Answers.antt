use Rattle.std.proofs.Common.{rules, ◌≡◌, slice_index_or, sym, subst}
use Rattle.std.specs.Prelude.{None}
use Rattle.test_crews.specs.Crews.{IsIdleAgain}
use Rattle.area_rows.specs.Callers.{CallerView}
use Rattle.area_rows.specs.Called.{IsAnswered}
use Rattle.test_crews.proofs.Crews.{first_of, first_back, answer_back, first_is, others_stay}
use Rattle.test_crews.proofs.crew.call_by.Goals as goal

-- the first caller of a crew is of its space
pub make_call-requires-clause-table : goal.make_call-requires-clause-table
make_call-requires-clause-table g c =
    let d = c.index-callers-0.result in let is : d ≡ slice_index_or c.args.callers.now 0 d = search rules in
    let f = first_of c.args.space.now.table c.args.space.now.seats c.args.callers.now d c.requires.crew is in
    subst (λ (v : CallerView). v.seat.table ≡ c.args.space.now.table) is f.0

-- the first caller of a crew holds nothing
pub make_call-requires-clause-free : goal.make_call-requires-clause-free
make_call-requires-clause-free g c =
    let d = c.index-callers-0.result in let is : d ≡ slice_index_or c.args.callers.now 0 d = search rules in
    let f = first_of c.args.space.now.table c.args.space.now.seats c.args.callers.now d c.requires.crew is in
    subst (λ (v : CallerView). v.seat.held ≡ None) is f.2

-- the crew with the first caller back, its answer, and the others as they were
pub returns : goal.returns
returns g c =
    let d = c.index-callers-0.result in let is : d ≡ slice_index_or c.args.callers.now 0 d = search rules in
    let f = first_of c.args.space.now.table c.args.space.now.seats c.args.callers.now d c.requires.crew is in
    let free = subst (λ (v : CallerView). v.seat.held ≡ None) is f.2 in
    let back = answer_back (slice_index_or c.args.callers.now 0 d) c.make_call.new.caller c.args.line c.args.call
    c.make_call.result free c.make_call.ensures.answer in
    record {
      crew = first_back c.args.space.now.table c.args.space.now.seats c.args.callers.now d c.make_call.new.caller c.requires.crew
          is (subst (λ (v : CallerView). IsIdleAgain v c.make_call.new.caller) (sym is) back);
      answer = first_is c.args.callers.now d c.make_call.new.caller
          (λ before after. IsAnswered before c.args.line c.args.call c.make_call.result after) c.make_call.ensures.answer;
      others = others_stay c.args.callers.now c.make_call.new.caller;
    }
