use Rattle.std.proofs.lemmas.Result.{on_err_weaker}
use Rattle.byte_ports.proofs.Pieces.{AppendsPrefix-more, AppendsPrefix-after, on_err}
use Rattle.trace_driver.proofs.error_line.write_bad_line.Goals as goal

-- a first part of the part with the line is a first part of the text
pub returns-in_err-write_numbered-clause-failed_prefix : goal.returns-in_err-write_numbered-clause-failed_prefix
returns-in_err-write_numbered-clause-failed_prefix g c = on_err c.from_residual.result (AppendsPrefix-more _ c.in_err-write_numbered.ensures.failed_prefix)

-- so is the part with the line and a first part of the rest
pub returns-clause-failed_prefix : goal.returns-clause-failed_prefix
returns-clause-failed_prefix g c =
    let same = c.due.ensures in
    on_err_weaker _ (λ last. AppendsPrefix-after _ _ c.in_ok-write_numbered.ensures.all last) (rw same at c.write_numbered-2.ensures.failed_prefix)
