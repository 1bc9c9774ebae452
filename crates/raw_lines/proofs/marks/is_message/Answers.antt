use Rattle.std.proofs.Common.{arith}
use Rattle.raw_lines.proofs.Searches.{nowhere_byte, before_byte}
use Rattle.raw_lines.proofs.MarkFacts.{message_none, message_yes, message_cut, message_folder}
use Rattle.raw_lines.proofs.marks.is_message.Goals as goal

-- a text without a space is no message
pub returns-in_default : goal.returns-in_default
returns-in_default c = (λ e. absurd cc, λ h. absurd (message_none c.args.text.now (nowhere_byte 32 c.args.text.now c.in_default.ensures) h))

-- before its first space stand the folder and the program's name
pub returns-in-Some-strip_back : goal.returns-in-Some-strip_back
returns-in-Some-strip_back c =
    let text = c.args.text.now in let at = c.in-Some.space in let f = c.in-Some.ensures in let high = f.0.high in
    let each = before_byte 32 text at (omega arith) f.0.before in let path = c.in-Some-strip_back.path.now in
    let e = c.in-Some-strip_back.ensures in (
      λ h. message_yes text path at high f.1 each e (c.is_folder.ensures.0 h),
      λ h. c.is_folder.ensures.1 (message_folder text path at high f.1 each e h),
    )

-- where the name doesn't stand there, it is no message
pub returns-in-None : goal.returns-in-None
returns-in-None c = let text = c.args.text.now in let at = c.in-Some.space in let f = c.in-Some.ensures in let high = f.0.high in
    let each = before_byte 32 text at (omega arith) f.0.before in (λ e. absurd cc, λ h. absurd (c.in-None.ensures h.0 (message_cut text at high f.1 each h)))
