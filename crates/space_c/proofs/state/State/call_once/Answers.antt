use Rattle.std.proofs.Common.{IfOk, ap, subst}
use Rattle.std.specs.Prelude.{IfErr}
use Rattle.range_rw.specs.Contract.{TableShape}
use Rattle.area_guard.specs.Reads.{everything}
use Rattle.space_c.specs.Behind.{Behind, IsMade, IsRefusedRound}
use Rattle.space_c.proofs.state.State.call_once.Goals as goal

-- the round was made by the handle's caller
pub returns-clause-made : goal.returns-clause-made
returns-clause-made c = subst (λ (b : Behind). IfOk c.make_call.result (λ e. IsMade everything c.args.call c.args.keep b.caller e c.make_call.new.caller))
    c.self.view_is c.make_call.ensures.made

-- in its space
pub returns-clause-refused : goal.returns-clause-refused
returns-clause-refused c =
    let here = subst (λ (t : TableShape). IfErr c.make_call.result
    (λ _. IsRefusedRound t.cut everything c.args.call c.args.refused c.self.inside.caller c.make_call.new.caller))
    c.deref.ensures c.make_call.ensures.refused in
    subst (λ (b : Behind). IfErr c.make_call.result (λ _. IsRefusedRound b.cut everything c.args.call c.args.refused b.caller c.make_call.new.caller))
    c.self.view_is here

-- all else behind the handle is as it was
pub returns-clause-kept : goal.returns-clause-kept
returns-clause-kept c = ap (λ (b : Behind). record b { caller = c.make_call.new.caller }) c.self.view_is
