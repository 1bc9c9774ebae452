use Rattle.std.proofs.Common.{sym, ◌∙◌}
use Rattle.raw_logs.proofs.Decided.{is_not}
use Rattle.raw_trace.proofs.GoodLines.{none_undone}
use Rattle.raw_trace.proofs.settling.why_undone.Goals as goal

-- neither reason is there
pub returns-clause-none : goal.returns-clause-none
returns-clause-none c = λ _.
    none_undone c.args.line.now c.requires.read.0 c.args.call c.args.recorded c.requires.read.1
    (is_not c.is_injected.result c.is_injected.ensures c.if-is_injected.false) (sym c.fails_outside.ensures ∙ c.if-fails_outside.false)
