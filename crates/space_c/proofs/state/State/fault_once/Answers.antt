use Rattle.std.proofs.Common.{IfOk, ap, subst}
use Rattle.std.specs.Prelude.{IfErr}
use Rattle.range_rw.specs.Contract.{TableShape}
use Rattle.page_types.specs.declared.calls.Call.TheVariants.{Fault}
use Rattle.page_fault.specs.Faults.{page_held_as}
use Rattle.space_c.specs.Behind.{Behind, IsMade, IsRefusedRound}
use Rattle.space_c.proofs.state.State.fault_once.Goals as goal

-- the round was made by the handle's caller
pub returns-clause-made : goal.returns-clause-made
returns-clause-made c = subst (λ (b : Behind). IfOk c.make_fault.result (λ e. IsMade
    (page_held_as c.args.mode c.args.addr) (Fault c.args.addr c.args.access) c.args.keep b.caller e c.make_fault.new.caller))
    c.self.view_is c.make_fault.ensures.made

-- in its space
pub returns-clause-refused : goal.returns-clause-refused
returns-clause-refused c =
    let here = subst (λ (t : TableShape). IfErr c.make_fault.result
    (λ _. IsRefusedRound t.cut
    (page_held_as c.args.mode c.args.addr) (Fault c.args.addr c.args.access) 0 c.self.inside.caller c.make_fault.new.caller))
    c.deref.ensures c.make_fault.ensures.refused in
    subst (λ (b : Behind). IfErr c.make_fault.result (λ _. IsRefusedRound b.cut
    (page_held_as c.args.mode c.args.addr) (Fault c.args.addr c.args.access) 0 b.caller c.make_fault.new.caller))
    c.self.view_is here

-- all else behind the handle is as it was
pub returns-clause-kept : goal.returns-clause-kept
returns-clause-kept c = ap (λ (b : Behind). record b { caller = c.make_fault.new.caller }) c.self.view_is
