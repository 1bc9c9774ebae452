use Rattle.std.proofs.Common.{arith, subst}
use Rattle.space_model.specs.declared.entries.Entry.{Entry}
use Rattle.trace_driver.specs.Report.{DiffersFromLine}
use Rattle.trace_driver.proofs.Differences.{agrees, completes_yes, completes_no, completed}
use Rattle.trace_driver.proofs.report.differ_count.Goals as goal
use Rattle.trace_driver.proofs.report.differ_count.Goals.{then-differs, else-differs}

-- an entry is counted where it differs from its line, and passed over where it doesn't
pub entries-preserved : goal.entries-preserved
entries-preserved c = let is = c.entry-item.is in let tells = c.differs_from_line-differs.ensures in elim c.if-differs.branch [
  | then-differs w ↦ (
    rw w.count-is (completes_yes _ _ c.entries.entry-index _ _ c.entries-test.true c.entries.invariant.0
        (subst (λ (e : Entry). DiffersFromLine c.args.lines.now e) is (tells.0 w.if-differs.true))),
    omega (arith, w.count-is),
  )
  | else-differs w ↦ (
    rw w.count-is (completes_no _ _ c.entries.entry-index _ _ c.entries-test.true c.entries.invariant.0
        (subst (λ (e : Entry). ¬ DiffersFromLine c.args.lines.now e) is (agrees _ _ w.if-differs.false tells.1))),
    omega (arith, w.count-is),
  )
]

-- behind the last entry the count is that of all
pub returns : goal.returns
returns c = completed _ _ c.entries.entry-index _ c.entries-test.false c.entries.invariant.0
