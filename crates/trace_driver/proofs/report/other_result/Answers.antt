use Rattle.std.proofs.Common.{refl}
use Rattle.trace_driver.proofs.Differences.{tells_none, tells_nowhere, tells_other}
use Rattle.trace_driver.proofs.report.other_result.Goals as goal

-- what the line that was found tells is what the entry differs from
pub returns-in-Some-clause-some : goal.returns-in-Some-clause-some
returns-in-Some-clause-some c =
    let place = c.in-Some.ensures.found in
    tells_other _ c.args.lines.now c.args.entry.now c.in-Some.place _ c.requires place.0 (place.1 _) c.unless_same.ensures.some

-- where it tells nothing the entry doesn't differ
pub returns-in-Some-clause-none : goal.returns-in-Some-clause-none
returns-in-Some-clause-none c none =
    let place = c.in-Some.ensures.found in
    tells_none c.args.lines.now c.args.entry.now c.in-Some.place _ c.requires place.0 (place.1 _) (c.unless_same.ensures.none none)

-- an entry whose line isn't there doesn't differ
pub returns-in-None-clause-none : goal.returns-in-None-clause-none
returns-in-None-clause-none c none = tells_nowhere c.args.lines.now c.args.entry.now (c.in-None.ensures.none refl)
