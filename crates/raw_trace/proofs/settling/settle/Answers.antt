use Rattle.std.proofs.Common.{subst}
use Rattle.std.proofs.lemmas.Result.{IfOk-weaker}
use Rattle.strace_reader.specs.Grammar.{Spells}
use Rattle.raw_trace.proofs.GoodLines.{long_unread, second_unread, unread_as}
use Rattle.raw_trace.proofs.settling.settle.Goals as goal

-- a line that is too long
pub returns-then-line-gt-LINE_LIMIT : goal.returns-then-line-gt-LINE_LIMIT
returns-then-line-gt-LINE_LIMIT c =
    IfOk-weaker c.unread.result _ _ (λ s e. unread_as c.args.line.now s (long_unread c.args.line.now c.if-line-gt-LINE_LIMIT.true) e) c.unread.ensures

-- a second half alone
pub returns-in-Ok-Resumed : goal.returns-in-Ok-Resumed
returns-in-Ok-Resumed c =
    IfOk-weaker c.unread-in-Ok-Resumed.result _ _
    (λ s e. unread_as c.args.line.now s
    (second_unread c.args.line.now _ _ _ (subst (Spells c.args.line.now) c.in-Ok-Resumed.field-0-is c.in-Ok-Resumed.ensures.found)) e)
    c.unread-in-Ok-Resumed.ensures
