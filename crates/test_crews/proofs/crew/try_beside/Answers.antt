use Rattle.std.proofs.Common.{◌++◌, set, subst, sym}
use Rattle.std.specs.Prelude.{List}
use Rattle.area_rows.specs.Callers.{CallerView}
use Rattle.page_types.specs.declared.sets.Access.TheVariants.{Read}
use Rattle.page_fault.specs.Faults.{IsTried}
use Rattle.test_crews.specs.Crews.{IsCrew, OfCaller}
use Rattle.test_crews.proofs.Crews.{two_of, two_back, second_tried}
use Rattle.test_crews.proofs.crew.try_beside.Goals as goal

-- the first caller of the crew is of its space and holds nothing
pub try_counting-requires-clause-writer : goal.try_counting-requires-clause-writer
try_counting-requires-clause-writer g c =
    let s = c.split_at_mut-first in
    let t = two_of _ _ c.args.callers.now s.result.0.now s.result.1.now c.index-first-0.result c.index-others-0.result
    s.ensures.value s.ensures.front_len c.requires.crew c.requires.two in (t.0, t.1)

-- so is the second one
pub try_counting-requires-clause-caller : goal.try_counting-requires-clause-caller
try_counting-requires-clause-caller g c =
    let s = c.split_at_mut-first in
    let t = two_of _ _ c.args.callers.now s.result.0.now s.result.1.now c.index-first-0.result c.index-others-0.result
    s.ensures.value s.ensures.front_len c.requires.crew c.requires.two in (t.2, t.3)

-- the crew with both callers back, and the answer of the second
pub returns : goal.returns
returns g c =
    let s = c.split_at_mut-first in
    let crew = subst (λ (l : List CallerView). IsCrew c.args.space.now.table c.args.space.now.seats l) s.ensures.value c.requires.crew in
    let old = subst (λ (l : List CallerView). OfCaller 1 l (set s.result.0.now 0 c.try_counting.new.writer ++ set s.result.1.now 0 c.try_counting.new.caller)
    (λ before after. IsTried c.args.space.now.seats before 1 c.args.addr Read c.try_counting.result after)) (sym s.ensures.value)
    (second_tried c.args.space.now.seats s.result.0.now s.result.1.now c.try_counting.new.writer c.index-others-0.result
    c.try_counting.new.caller 1 c.args.addr Read c.try_counting.result s.ensures.front_len c.try_counting.ensures.tried) in
    record {
      crew = two_back _ _ s.result.0.now s.result.1.now c.index-first-0.result c.try_counting.new.writer c.index-others-0.result
          c.try_counting.new.caller s.ensures.front_len crew c.requires.two c.try_counting.ensures.writer c.try_counting.ensures.caller;
      tried = old;
    }
