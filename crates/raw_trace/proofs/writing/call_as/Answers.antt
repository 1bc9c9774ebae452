use Rattle.raw_trace.proofs.TakenTexts.{unread_none, read_short}
use Rattle.raw_trace.proofs.writing.call_as.Goals as goal

-- a line that is left unread is no call
pub returns-in-AsUnread : goal.returns-in-AsUnread
returns-in-AsUnread c = unread_none c.requires.0 c.args.line.now c.args.ending c.requires.1 c.in-AsUnread.is

-- any other is short
pub call_of-requires : goal.call_of-requires
call_of-requires c = read_short c.requires.0 c.args.line.now c.args.ending c.requires.1 c.in_default.not-AsUnread
