use Rattle.history_check.proofs.PrintedLines.{printed_good}
use Rattle.history_check.proofs.laws.printed_logs_are_good.Goals as goal

-- with these widths the entries are those of log lines
pub returns : goal.returns
returns c = printed_good c.args.entries.now c.words_fit.ensures c.narrow_fit.ensures
