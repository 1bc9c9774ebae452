use Rattle.std.proofs.Common.{sym, ◌∙◌}
use Rattle.page_types.specs.declared.calls.Call.TheVariants.{Fault}
use Rattle.page_fault.specs.Faults.{page_held_as}
use Rattle.space_c.proofs.Making.{plain_made}
use Rattle.space_c.proofs.rounds.make_fault.Goals as goal

-- the address alone decides the fault
pub returns-in-Some-clause-made : goal.returns-in-Some-clause-made
returns-in-Some-clause-made c = plain_made c.args.caller.now c.call_plain.new.caller c.call_plain.result (page_held_as c.args.mode c.args.addr)
    (Fault c.args.addr c.args.access) c.args.keep (sym c.plain.ensures ∙ c.in-Some.is) c.requires.free c.call_plain.ensures.called c.call_plain.ensures.asked
