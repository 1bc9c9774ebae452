use Rattle.std.proofs.Common.{rules, ◌≡◌, None, ap, sym, subst}
use Rattle.page_types.specs.declared.sets.Access.{Access}
use Rattle.page_types.specs.declared.calls.Call.TheVariants.{Fault}
use Rattle.page_fault.specs.Faults.{page_held_as}
use Rattle.space_c.specs.declared.answers.Answer.{Answer}
use Rattle.space_c.specs.declared.shown.GzReply.{GzReply}
use Rattle.space_c.specs.Behind.{IsTried}
use Rattle.space_c.specs.Shown.{fault_from}
use Rattle.space_c.proofs.Making.{barred_of, tried_of}
use Rattle.space_c.proofs.state.State.try_fault.Goals as goal

-- what the round came to is what the try answers
pub returns : goal.returns
returns c =
    let free : c.args.self.now.caller.seat.held ≡ None = search rules in
    let t = c.tell.ensures in let o = c.fault_once.ensures in let page = page_held_as c.args.mode c.args.addr in
    let call = Fault c.args.addr c.in-Some.access in let asked = ap (fault_from c.args.addr) c.in-Some.is in
    subst (λ (z : Answer × GzReply). IsTried (fault_from c.args.addr c.args.asked) page c.args.keep 0 z.1 z.0 c.args.self.now c.fault_once.new.self)
    (λ i. (sym t.answer i, sym t.shown i))
    (tried_of c.fault_once.result call page c.args.keep 0 c.args.self.now c.fault_once.new.self asked free
    o.made o.refused o.kept)
