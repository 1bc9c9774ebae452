use Rattle.std.proofs.Common.{refl}
use Rattle.history_check.proofs.LinesBack.{log_line}
use Rattle.history_check.proofs.line.is_log_line.Goals as goal

-- a line that the printer writes of an entry that a log can show
pub returns : goal.returns
returns c = log_line c.args.text.now c.args.entry.now c.is_line_of.result c.has_word_numbers.ensures c.if-entry-ge-WORKERS.false c.in_range.ensures
    c.has_narrow_rows.ensures (c.if-not-is_named.ensures.0 refl) (c.if-not-is_named-2.ensures.0 refl) c.is_line_of.ensures
