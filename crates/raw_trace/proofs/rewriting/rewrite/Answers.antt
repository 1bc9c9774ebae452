use Rattle.raw_trace.proofs.WholeLogs.{only_rewriting, fault_comes}
use Rattle.raw_trace.proofs.rewriting.rewrite.Goals as goal

-- a log has one rewriting
pub returns-clause-only : goal.returns-clause-only
returns-clause-only c =
    only_rewriting c.args.process c.args.text.now c.rewritten.result c.has_one_rewriting.ensures c.rewritten.ensures.is

-- and one fault
pub returns-clause-complete : goal.returns-clause-complete
returns-clause-complete c =
    fault_comes c.args.process c.args.strict c.args.text.now c.rewritten.result c.has_one_fault.ensures c.rewritten.ensures.fault c.rewritten.ensures.never
