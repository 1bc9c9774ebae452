use Rattle.std.proofs.Common.{sym, ◌∙◌}
use Rattle.trace_driver.proofs.ProcessLemmas.{index_found, index_new, indexed_found, indexed_new}
use Rattle.trace_driver.proofs.processes.Processes.index_of.Goals as goal

-- a process that was seen has its place as its index
pub returns-in-Some-clause-index : goal.returns-in-Some-clause-index
returns-in-Some-clause-index c = λ seen h. index_found seen c.args.pid _ (sym (h.places c.args.pid) ∙ sym c.in-Some.ensures.value)

-- and keeps it
pub returns-in-Some-clause-seen : goal.returns-in-Some-clause-seen
returns-in-Some-clause-seen c = λ seen h. indexed_found c.args.self.now seen c.args.pid _ (sym c.in-Some.ensures.value) h

-- a new one has as its index how many were seen
pub returns-clause-index : goal.returns-clause-index
returns-clause-index c = λ seen h. c.in_ok-index.ensures.index ∙ h.next ∙ index_new seen c.args.pid (sym (h.places c.args.pid) ∙ sym c.in_default.ensures.value)

-- and is seen with it
pub returns-clause-seen : goal.returns-clause-seen
returns-clause-seen c = λ seen h. indexed_new c.args.self.now c.add.new.self seen c.args.pid (sym c.in_default.ensures.value)
    c.in_ok-index.ensures.has c.in_ok-index.ensures.others c.in_ok-index.ensures.more h
