use Rattle.std.proofs.Common.{◌++◌, set, subst, sym}
use Rattle.std.specs.Prelude.{List}
use Rattle.area_rows.specs.Callers.{CallerView}
use Rattle.page_types.specs.declared.sets.Access.TheVariants.{Read}
use Rattle.page_fault.specs.Faults.{IsTried}
use Rattle.test_crews.specs.Crews.{IsCrew, OfCaller}
use Rattle.test_protect.proofs.Threes.{three_of, three_back, second_of_three}
use Rattle.test_protect.proofs.scanning.try_beside_scan.Goals as goal

-- the second caller of the crew is of its space and holds nothing
pub try_scanning-requires-clause-caller : goal.try_scanning-requires-clause-caller
try_scanning-requires-clause-caller c =
    let s = c.split_at_mut-first in
    let t = three_of _ _ c.args.callers.now s.result.0.now s.result.1.now c.index-first-1.result c.index-others-0.result
    s.ensures.value s.ensures.front_len c.requires.crew c.requires.three in (t.0, t.1)

-- so is the third one
pub try_scanning-requires-clause-scanner : goal.try_scanning-requires-clause-scanner
try_scanning-requires-clause-scanner c =
    let s = c.split_at_mut-first in
    let t = three_of _ _ c.args.callers.now s.result.0.now s.result.1.now c.index-first-1.result c.index-others-0.result
    s.ensures.value s.ensures.front_len c.requires.crew c.requires.three in (t.2, t.3)

-- the crew with both callers back, and the answer of the second
pub returns : goal.returns
returns c =
    let s = c.split_at_mut-first in
    let crew = subst (λ (l : List CallerView). IsCrew c.args.space.now.table c.args.space.now.seats l) s.ensures.value c.requires.crew in
    let old = subst (λ (l : List CallerView). OfCaller 1 l (set s.result.0.now 1 c.try_scanning.new.caller ++ set s.result.1.now 0 c.try_scanning.new.scanner)
    (λ before after. IsTried c.args.space.now.seats before 1 c.args.addr Read c.try_scanning.result.0 after)) (sym s.ensures.value)
    (second_of_three c.args.space.now.seats s.result.0.now s.result.1.now c.try_scanning.new.scanner c.index-first-1.result
    c.try_scanning.new.caller 1 c.args.addr Read c.try_scanning.result.0 s.ensures.front_len c.try_scanning.ensures.tried) in
    record {
      crew = three_back _ _ s.result.0.now s.result.1.now c.index-first-1.result c.try_scanning.new.caller c.index-others-0.result
          c.try_scanning.new.scanner s.ensures.front_len crew c.requires.three c.try_scanning.ensures.caller c.try_scanning.ensures.scanner;
      tried = old;
    }
