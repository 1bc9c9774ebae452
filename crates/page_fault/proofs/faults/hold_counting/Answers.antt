use Rattle.std.proofs.Common.{◌≡◌, arith, ap, sym, subst, ◌∙◌}
use Rattle.std.specs.Prelude.{Some, None}
use Rattle.area_rows.specs.Seated.{TableId}
use Rattle.range_rw.proofs.Asking.{for_only}
use Rattle.page_types.specs.declared.calls.Call.TheVariants.{Fault}
use Rattle.area_rows.specs.Rows.{keeps_by}
use Rattle.area_guard.specs.declared.guard.Pass.{Pass}
use Rattle.area_rows.proofs.Wholes.{called_from}
use Rattle.page_fault.specs.Faults.{MayHold}
use Rattle.page_fault.proofs.Numbering.{asks_page_as, holds_for, span_page}
use Rattle.page_fault.proofs.faults.hold_counting.Goals as goal

-- the page is held as the entry may name it
pub answer_held-requires-clause-held : goal.answer_held-requires-clause-held
answer_held-requires-clause-held g c =
    let a = c.acquire.ensures in
    holds_for c.args.mode (keeps_by c.acquire.new.caller.seat.table) c.acquire.new.caller.seat.held c.access_of-access.result.1
    (subst (λ (t : TableId). MayHold c.args.mode (keeps_by t)) (sym a.call.table) c.requires.mode) a.held

-- holding the page and then the call under it are one call of a caller that held nothing
pub returns-clause-called : goal.returns-clause-called
returns-clause-called g c =
    let a = c.acquire.ensures in
    called_from c.args.caller.now c.acquire.new.caller (let n = c.answer_held.new.caller in record n { seat = record n.seat { held = None } })
    c.answer_held.result c.args.line (Fault c.args.addr c.args.access) c.requires.free a.call a.left c.answer_held.ensures.called

-- the page is held
pub returns-clause-held : goal.returns-clause-held
returns-clause-held g c =
    let page = span_page c.args.mode c.args.addr c.args.access c.access_of-access.result.0 c.access_of-access.result.1 c.access_of-access.ensures in
    c.answer_held.ensures.held ∙ (c.acquire.ensures.held ∙ ap Some page)

-- that page is all that is asked for
pub returns-clause-asks : goal.returns-clause-asks
returns-clause-asks g c = asks_page_as c.args.mode c.args.addr c.args.access c.access_of-access.result.0 c.access_of-access.result.1
    c.args.caller.now.seat.trace.asked c.access_of-access.ensures c.requires.undecided (for_only c.acquire.ensures.asks) c.answer_held.ensures.asked

-- waiting for the page is made of steps of the lock
pub returns-clause-took : goal.returns-clause-took
returns-clause-took g c =
    let same : c.acquire.new.caller.seat.pass.since ≡ c.args.caller.now.seat.pass.since = ap (λ (p : Pass). p.since) c.acquire.ensures.call.pass in
    let took = c.answer_held.ensures.took in omega arith
