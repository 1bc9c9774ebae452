use Rattle.raw_trace.proofs.TakenTexts.{trouble_unread, trouble_read, read_short}
use Rattle.raw_trace.proofs.writing.trouble_of.Goals as goal

-- a line that is left unread
pub returns-in-AsUnread : goal.returns-in-AsUnread
returns-in-AsUnread c =
    trouble_unread c.args.line.now c.args.written.now c.args.ending c.trouble_of_unread.result c.in-AsUnread.is c.trouble_of_unread.ensures.some
    c.trouble_of_unread.ensures.none

-- any other is short
pub trouble_of_form-requires : goal.trouble_of_form-requires
trouble_of_form-requires c = read_short c.args.line.now c.args.written.now c.args.ending c.requires c.in_default.not-AsUnread

-- and was read
pub returns-in_default : goal.returns-in_default
returns-in_default c =
    trouble_read c.args.line.now c.args.written.now c.args.ending c.trouble_of_form.result c.in_default.not-AsUnread c.trouble_of_form.ensures.some
    c.trouble_of_form.ensures.none
