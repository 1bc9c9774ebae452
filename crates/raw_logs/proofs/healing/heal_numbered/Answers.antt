use Rattle.std.proofs.Common.{sym, ◌∙◌}
use Rattle.raw_logs.proofs.ReadLogs.{numbered_by}
use Rattle.raw_logs.proofs.healing.heal_numbered.Goals as goal

-- the numbers stay as they are printed
pub returns-in-AsPrinted-clause-takes : goal.returns-in-AsPrinted-clause-takes
returns-in-AsPrinted-clause-takes c =
    let t = c.in_ok-healer.ensures.takes in
    let e = c.in_ok-healer.ensures.numbering in
    let healer = c.in_ok-healer.healer in (
      t,
      numbered_by healer healer _ c.in_ok-numbering.numbering t e c.in_ok-numbering.ensures t (e ∙ sym c.in-AsPrinted.is),
    )

-- the log is read once more with its numbers
pub returns-in_ok-again-in-Plain-clause-takes : goal.returns-in_ok-again-in-Plain-clause-takes
returns-in_ok-again-in-Plain-clause-takes c =
    let t = c.in_ok-again-in-Plain.ensures.takes in (
      t,
      numbered_by c.in_ok-healer.healer c.in_ok-again-in-Plain.again _ c.in_ok-numbering.numbering c.in_ok-healer.ensures.takes c.in_ok-healer.ensures.numbering
          c.in_ok-numbering.ensures t c.in_ok-again-in-Plain.ensures.numbering,
    )
