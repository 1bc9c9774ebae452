use Rattle.std.proofs.Common.{sym, ◌∙◌}
use Rattle.std.proofs.lemmas.Result.{err_from_is_err_and}
use Rattle.raw_trace.proofs.WholeLogs.{rewriting_is, written_short, none_unread, no_cause, read_fault, written_fault}
use Rattle.raw_trace.proofs.rewriting.rewritten.Goals as goal

-- the stages one behind the other
pub returns-clause-is : goal.returns-clause-is
returns-clause-is c =
    rewriting_is c.args.process c.args.strict c.args.text.now _ _ _ c.in_ok-texts.ensures.texts
    (rw c.in_ok-written.ensures.kept.0 at c.write_lines-all.ensures.wrote)

-- each line may be read
pub returns-clause-short : goal.returns-clause-short
returns-clause-short c =
    written_short c.args.process c.args.strict c.args.text.now _ _ _ c.in_ok-texts.ensures.texts
    (rw c.in_ok-written.ensures.kept.0 at c.write_lines-all.ensures.wrote)

-- no line is left unread
pub returns-clause-read_all : goal.returns-clause-read_all
returns-clause-read_all c =
    none_unread c.args.process c.args.strict c.args.text.now _ _ _ c.in_ok-texts.ensures.texts
    (rw c.in_ok-written.ensures.kept.0 at c.write_lines-all.ensures.wrote)

-- nothing is a fault
pub returns-clause-never : goal.returns-clause-never
returns-clause-never c =
    no_cause c.args.process c.args.strict c.args.text.now _ _ _ _ c.in_ok-texts.ensures.texts c.in_ok-texts.ensures.unknown
    (sym c.asked_unknown-unknown.ensures ∙ c.in_ok-written.ensures.kept.1)
    (rw c.in_ok-written.ensures.kept.0 at c.write_lines-all.ensures.wrote)

-- the texts can't be had
pub returns-in_err-texts-clause-fault : goal.returns-in_err-texts-clause-fault
returns-in_err-texts-clause-fault c =
    let p = err_from_is_err_and c.from_residual.result c.from_residual.ensures.1 in
    rw p.1 (read_fault c.args.process c.args.strict c.args.text.now _ _ p.2 c.in_err-texts.ensures.fault)

-- the writing ended, or a beginning isn't known
pub returns-in_err-written-clause-fault : goal.returns-in_err-written-clause-fault
returns-in_err-written-clause-fault c =
    let p = err_from_is_err_and c.from_residual-in_err-written.result c.from_residual-in_err-written.ensures.1 in
    rw (p.1, p.2) (written_fault c.args.process c.args.strict c.args.text.now _ _ _ _ _ c.in_err-written.field-0.0 c.in_ok-texts.ensures.texts
    c.in_ok-texts.ensures.unknown c.asked_unknown-unknown.ensures c.write_lines-all.ensures.wrote c.write_lines-all.ensures.fault
    c.in_err-written.ensures.fault)
