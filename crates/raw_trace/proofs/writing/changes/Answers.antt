use Rattle.raw_logs.proofs.Decided.{is_so, is_not}
use Rattle.raw_trace.proofs.TakenTexts.{changes_by, ended_unchanged}
use Rattle.raw_trace.proofs.writing.changes.Goals as goal

-- a call that never returned
pub returns-then-ends_with : goal.returns-then-ends_with
returns-then-ends_with c = ended_unchanged c.args.line.now (is_so c.ends_with.result c.ends_with.ensures c.if-ends_with.true)

-- any other, by its body
pub returns : goal.returns
returns c =
    changes_by _ c.args.line.now _ _ (is_not c.ends_with.result c.ends_with.ensures c.if-ends_with.false) c.cut.ensures c.changes_space.ensures
