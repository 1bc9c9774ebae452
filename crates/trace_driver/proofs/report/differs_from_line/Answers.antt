use Rattle.std.proofs.Common.{◌↔◌, Bool, subst, sym}
use Rattle.std.specs.Bool.{IsTrue}
use Rattle.trace_driver.specs.Report.{DiffersFromLine}
use Rattle.trace_driver.proofs.Differences.{tells_some}
use Rattle.trace_driver.proofs.report.differs_from_line.Goals as goal

-- the result that the entry differs from, if there is one, tells whether it does
pub returns : goal.returns
returns c =
    let lines = c.args.lines.now in let entry = c.args.entry.now in
    let tells = tells_some c.other_result-other.result.0 lines entry c.other_result-other.ensures.some c.other_result-other.ensures.none in
    subst (λ (b : Bool). IsTrue b ↔ DiffersFromLine lines entry) (sym c.is_some.ensures) tells
