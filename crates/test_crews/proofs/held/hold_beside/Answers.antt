use Rattle.std.proofs.Common.{subst}
use Rattle.std.specs.Prelude.{List}
use Rattle.area_rows.specs.Callers.{CallerView}
use Rattle.test_crews.specs.Crews.{IsCrew}
use Rattle.test_crews.proofs.Crews.{two_of, two_back}
use Rattle.test_crews.proofs.held.hold_beside.Goals as goal

-- the first caller of the crew is of its space and holds nothing
pub hold_counting-requires-clause-holder : goal.hold_counting-requires-clause-holder
hold_counting-requires-clause-holder g c =
    let s = c.split_at_mut-first in
    let t = two_of _ _ c.args.callers.now s.result.0.now s.result.1.now c.index-first-0.result c.index-others-0.result
    s.ensures.value s.ensures.front_len c.requires.crew c.requires.two in (t.0, t.1)

-- so is the second one
pub hold_counting-requires-clause-other : goal.hold_counting-requires-clause-other
hold_counting-requires-clause-other g c =
    let s = c.split_at_mut-first in
    let t = two_of _ _ c.args.callers.now s.result.0.now s.result.1.now c.index-first-0.result c.index-others-0.result
    s.ensures.value s.ensures.front_len c.requires.crew c.requires.two in (t.2, t.3)

-- the crew with both callers back
pub returns : goal.returns
returns g c =
    let s = c.split_at_mut-first in
    let crew = subst (λ (l : List CallerView). IsCrew c.args.space.now.table c.args.space.now.seats l) s.ensures.value c.requires.crew in
    record {
      crew = two_back _ _ s.result.0.now s.result.1.now c.index-first-0.result c.hold_counting.new.holder c.index-others-0.result
          c.hold_counting.new.other s.ensures.front_len crew c.requires.two c.hold_counting.ensures.holder c.hold_counting.ensures.other;
    }
