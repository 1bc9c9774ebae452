use Rattle.raw_lines.proofs.MendFacts.{error_no, error_no_sign}
use Rattle.raw_lines.proofs.mends.mend_error.Goals as goal

-- where -1 and a space don't stand before the place nothing is mended
pub returns-in_err-front : goal.returns-in_err-front
returns-in_err-front c =
    let s = c.split_at.ensures in
    rw c.from_residual.ensures (error_no_sign c.args.text.now c.split_at.result.0.now c.split_at.result.1.now c.args.bad
    s.by_index.0 s.front_len c.in_err-front.ensures)

-- where no number in parentheses stands there neither
pub returns-in_err-back : goal.returns-in_err-back
returns-in_err-back c =
    let s = c.split_at.ensures in
    rw c.from_residual-in_err-back.ensures (error_no c.args.text.now c.split_at.result.0.now c.split_at.result.1.now c.args.bad
    s.by_index.0 s.front_len c.in_err-back.ensures)
