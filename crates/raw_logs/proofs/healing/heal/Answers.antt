use Rattle.std.proofs.Common.{rules}
use Rattle.raw_logs.proofs.HealedLines.{takes_all}
use Rattle.raw_logs.proofs.healing.heal.Goals as goal

-- all lines were read
pub returns-clause-takes : goal.returns-clause-takes
returns-clause-takes c =
    let i = c.lines.invariant in
    takes_all c.lines.healer c.args.whole.now c.lines.rest.now i.0 i.5 i.1 (search rules)
