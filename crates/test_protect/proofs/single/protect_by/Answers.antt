use Rattle.std.proofs.Common.{rules, ◌≡◌, slice_index_or, sym, subst}
use Rattle.std.specs.Prelude.{None}
use Rattle.test_crews.specs.Crews.{IsIdleAgain}
use Rattle.area_rows.specs.Callers.{CallerView}
use Rattle.area_rows.specs.Called.{IsAnswered}
use Rattle.page_types.specs.declared.calls.Call.TheVariants.{Protect}
use Rattle.test_crews.proofs.Crews.{answer_back, first_of, first_back, first_is, others_stay}
use Rattle.test_protect.proofs.single.protect_by.Goals as goal

-- the first caller of a crew is of its space
pub change-requires-clause-table : goal.change-requires-clause-table
change-requires-clause-table g c =
    let d = c.index-callers-0.result in let is : d ≡ slice_index_or c.args.callers.now 0 d = search rules in
    let f = first_of c.args.space.now.table c.args.space.now.seats c.args.callers.now d c.requires.crew is in
    subst (λ (v : CallerView). v.seat.table ≡ c.args.space.now.table) is f.0

-- the first caller of a crew holds nothing
pub change-requires-clause-free : goal.change-requires-clause-free
change-requires-clause-free g c =
    let d = c.index-callers-0.result in let is : d ≡ slice_index_or c.args.callers.now 0 d = search rules in
    let f = first_of c.args.space.now.table c.args.space.now.seats c.args.callers.now d c.requires.crew is in
    subst (λ (v : CallerView). v.seat.held ≡ None) is f.2

-- the crew with the first caller back, its answer, and the others as they were
pub returns : goal.returns
returns g c =
    let d = c.index-callers-0.result in let is : d ≡ slice_index_or c.args.callers.now 0 d = search rules in
    let f = first_of c.args.space.now.table c.args.space.now.seats c.args.callers.now d c.requires.crew is in
    let free = subst (λ (v : CallerView). v.seat.held ≡ None) is f.2 in let n = c.change.new.caller in
    let call = Protect c.args.addr c.args.len c.args.prot in
    let back = answer_back (slice_index_or c.args.callers.now 0 d) n c.args.line call c.change.result.0 free c.change.ensures.answer in
    record {
      crew = first_back c.args.space.now.table c.args.space.now.seats c.args.callers.now d n c.requires.crew is
          (subst (λ (v : CallerView). IsIdleAgain v n) (sym is) back);
      answer = first_is c.args.callers.now d n (λ before after. IsAnswered before c.args.line call c.change.result.0 after) c.change.ensures.answer;
      others = others_stay c.args.callers.now n;
    }
