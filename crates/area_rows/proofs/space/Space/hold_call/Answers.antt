use Rattle.std.proofs.Common.{◌∙◌, ap}
use Rattle.std.specs.Prelude.{None}
use Rattle.area_guard.specs.declared.guard.Pass.{Pass}
use Rattle.area_rows.proofs.Wholes.{called_from, ends_from}
use Rattle.range_rw.proofs.Asking.{for_kept}
use Rattle.area_rows.proofs.space.Space.hold_call.Goals as goal

-- holding all pages and then the call under them are one call
pub returns-clause-called : goal.returns-clause-called
returns-clause-called g c =
    let a = c.acquire.ensures in let after = c.call_held.new.caller in
    called_from c.args.caller.now c.acquire.new.caller (record after { seat = record after.seat { held = None } }) c.call_held.result c.args.line
    c.args.call c.requires.free a.call a.left c.call_held.ensures.called

-- it made no look
pub returns-clause-looks : goal.returns-clause-looks
returns-clause-looks g c = c.call_held.ensures.looks ∙ ap (λ (x : Pass). x.looks) c.acquire.ensures.call.pass

-- it asked for everything, and for nothing behind that
pub returns-clause-asks : goal.returns-clause-asks
returns-clause-asks g c = for_kept c.acquire.ensures.asks c.call_held.ensures.asked

-- its steps are those of the call under what is held
pub returns-clause-soon : goal.returns-clause-soon
returns-clause-soon g c = ends_from c.acquire.ensures.call c.call_held.ensures.soon

-- the last of them raised the sequence word
pub returns-clause-last : goal.returns-clause-last
returns-clause-last g c = c.call_held.ensures.last
