use Rattle.page_types.specs.declared.calls.Call.TheVariants.{Fault}
use Rattle.page_fault.specs.Faults.{page_held_as}
use Rattle.space_c.proofs.Making.{unless_kept}
use Rattle.space_c.proofs.rounds.fault_holding.Goals as goal

-- the fault under its page, and keeping that or giving it back
pub returns : goal.returns
returns c =
    let m = c.fault_counting-entry.ensures in
    unless_kept c.args.keep (page_held_as c.args.mode c.args.addr) (Fault c.args.addr c.args.access) c.args.caller.now c.fault_counting-entry.new.caller
    c.give_unless.new.caller c.fault_counting-entry.result c.give_unless.ensures m.held m.asked m.called
