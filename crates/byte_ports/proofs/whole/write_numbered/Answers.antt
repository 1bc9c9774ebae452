use Rattle.std.proofs.lemmas.Result.{on_err_weaker}
use Rattle.byte_ports.proofs.Pieces.{AppendsPrefix-more, AppendsPrefix-after, on_err}
use Rattle.byte_ports.proofs.whole.write_numbered.Goals as goal

-- a first part of the text before the number is a first part of the whole
pub returns-in_err-write_all-clause-failed_prefix : goal.returns-in_err-write_all-clause-failed_prefix
returns-in_err-write_all-clause-failed_prefix g c = on_err c.from_residual.result (AppendsPrefix-more _ c.in_err-write_all.ensures.failed_prefix)

-- so is that text and a first part of the number
pub returns-in_err-write_decimal-clause-failed_prefix : goal.returns-in_err-write_decimal-clause-failed_prefix
returns-in_err-write_decimal-clause-failed_prefix g c =
    on_err c.from_residual-in_err-write_decimal.result
    (AppendsPrefix-after _ _ c.in_ok-write_all.ensures.all (AppendsPrefix-more _ c.in_err-write_decimal.ensures.failed_prefix))

-- so is that text, the number and a first part of the text behind it
pub returns-clause-failed_prefix : goal.returns-clause-failed_prefix
returns-clause-failed_prefix g c =
    on_err_weaker _
    (λ last. AppendsPrefix-after _ _ c.in_ok-write_all.ensures.all (AppendsPrefix-after _ _ c.in_ok-write_decimal.ensures.all last))
    c.write_all-2.ensures.failed_prefix
