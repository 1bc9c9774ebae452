use Rattle.std.proofs.Common.{arith, ◌≤◌, ap, ◌∙◌, subst}
use Rattle.std.specs.Prelude.{Some}
use Rattle.lock_core.specs.declared.range.Held.{Held}
use Rattle.page_types.specs.declared.calls.Call.TheVariants.{Fault}
use Rattle.range_rw.specs.Contract.{AsksOnly}
use Rattle.page_fault.specs.Faults.{page_held_as}
use Rattle.space_c.proofs.Making.{page_span, round_made, round_refused}
use Rattle.space_c.proofs.rounds.fault_under.Goals as goal

-- the page is held
pub fault_holding-requires-clause-held : goal.fault_holding-requires-clause-held
fault_holding-requires-clause-held c =
    c.in-Ok.ensures.held ∙ ap Some (page_span c.args.mode c.args.addr c.of_page-page.result c.of_page-page.ensures.lo c.of_page-page.ensures.hi)

-- the page was got, and the fault was made under it
pub returns-in-Ok-clause-made : goal.returns-in-Ok-clause-made
returns-in-Ok-clause-made c =
    let a = c.acquire_round.ensures in let r = c.requires in
    let page = page_span c.args.mode c.args.addr c.of_page-page.result c.of_page-page.ensures.lo c.of_page-page.ensures.hi in
    let asks = subst (λ (h : Held). AsksOnly h c.args.caller.now.seat.trace.asked c.acquire_round.new.caller.seat.trace.asked) page a.asks in
    round_made c.args.caller.now c.acquire_round.new.caller c.fault_holding.new.caller c.fault_holding.result (page_held_as c.args.mode c.args.addr)
    (Fault c.args.addr c.args.access) c.args.keep r.undecided r.free a.call a.left asks c.fault_holding.ensures

-- the page wasn't got
pub returns-in-Err-clause-refused : goal.returns-in-Err-clause-refused
returns-in-Err-clause-refused c =
    let a = c.acquire_round.ensures in let r = c.requires in
    let page = page_span c.args.mode c.args.addr c.of_page-page.result c.of_page-page.ensures.lo c.of_page-page.ensures.hi in
    let asks = subst (λ (h : Held). AsksOnly h c.args.caller.now.seat.trace.asked c.acquire_round.new.caller.seat.trace.asked) page a.asks in
    round_refused c.args.space.now.cut c.args.caller.now c.acquire_round.new.caller (page_held_as c.args.mode c.args.addr)
    (Fault c.args.addr c.args.access) 0 r.undecided a.call c.in-Err.ensures.free a.left asks (λ two many. absurd (omega arith))
