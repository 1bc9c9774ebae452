use Rattle.std.proofs.Common.{rules}
use Rattle.raw_lines.proofs.MendFacts.{deleted_yes, deleted_no}
use Rattle.raw_lines.proofs.mends.mend_deleted.Goals as goal

-- where the word is found nowhere nothing is mended
pub returns-in_err-at : goal.returns-in_err-at
returns-in_err-at c = rw c.from_residual.ensures (deleted_no c.args.text.now c.args.bad c.in_err-at.ensures)

-- it is mended where it is found first
pub returns : goal.returns
returns c = let f = c.in_ok-at.ensures in deleted_yes c.args.text.now c.args.bad c.in_ok-at.at (search rules) (search rules) f.1 f.0.before
