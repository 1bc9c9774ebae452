use Rattle.byte_ports.proofs.Pieces.{AppendsPrefix-more, AppendsPrefix-after, on_err}
use Rattle.trace_driver.proofs.ReportPieces.{report_all, report_prefix}
use Rattle.trace_driver.proofs.report.write_report.Goals as goal

-- a first part of the log is a first part of the report
pub returns-in_err-write_asked_log-clause-failed_prefix : goal.returns-in_err-write_asked_log-clause-failed_prefix
returns-in_err-write_asked_log-clause-failed_prefix g c = on_err c.from_residual.result (AppendsPrefix-more _ c.in_err-write_asked_log.ensures.failed_prefix)

-- so is the log with a first part of the changes
pub returns-in_err-write_asked_changes-clause-failed_prefix : goal.returns-in_err-write_asked_changes-clause-failed_prefix
returns-in_err-write_asked_changes-clause-failed_prefix g c = on_err c.from_residual-in_err-write_asked_changes.result
    (AppendsPrefix-after _ _ c.in_ok-write_asked_log.ensures.all (AppendsPrefix-more _ c.in_err-write_asked_changes.ensures.failed_prefix))

-- so are these with a first part of the maps
pub returns-in_err-write_maps-clause-failed_prefix : goal.returns-in_err-write_maps-clause-failed_prefix
returns-in_err-write_maps-clause-failed_prefix g c = on_err c.from_residual-in_err-write_maps.result
    (AppendsPrefix-after _ _ c.in_ok-write_asked_log.ensures.all
    (AppendsPrefix-after _ _ c.in_ok-write_asked_changes.ensures.all (AppendsPrefix-more _ c.in_err-write_maps.ensures.failed_prefix)))

-- so are these and the maps with a first part of the summary
pub returns-in_err-write_summary-clause-failed_prefix : goal.returns-in_err-write_summary-clause-failed_prefix
returns-in_err-write_summary-clause-failed_prefix g c = on_err c.from_residual-in_err-write_summary.result
    (AppendsPrefix-after _ _ c.in_ok-write_asked_log.ensures.all
    (AppendsPrefix-after _ _ c.in_ok-write_asked_changes.ensures.all
    (AppendsPrefix-after _ _ c.in_ok-write_maps.ensures.text (AppendsPrefix-more _ c.in_err-write_summary.ensures.failed_prefix))))

-- the log, the changes, the maps, the summary and the count are the report
pub returns-clause-all : goal.returns-clause-all
returns-clause-all g c = report_all _ _ _ _ _ _ _ c.args.options _ c.args.entries.now _ _ _ c.in_ok-write_asked_log.ensures.all
    c.in_ok-write_asked_changes.ensures.all c.in_ok-write_maps.ensures.text c.in_ok-write_summary.ensures.text c.write_asked_touched.ensures.all

-- so these with a first part of the count are a first part of it
pub returns-clause-failed_prefix : goal.returns-clause-failed_prefix
returns-clause-failed_prefix g c =
    report_prefix _ _ _ _ _ _ _ c.args.options _ c.args.entries.now _ _ _ c.in_ok-write_asked_log.ensures.all
    c.in_ok-write_asked_changes.ensures.all c.in_ok-write_maps.ensures.text c.in_ok-write_summary.ensures.text c.write_asked_touched.ensures.failed_prefix
