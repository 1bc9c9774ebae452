use Rattle.std.proofs.Common.{◌∙◌, ap}
use Rattle.std.specs.Prelude.{None}
use Rattle.area_guard.specs.declared.guard.Pass.{Pass}
use Rattle.area_rows.proofs.Wholes.{called_from, called_back, ends_from, ends_back}
use Rattle.range_rw.proofs.Asking.{for_kept}
use Rattle.area_rows.proofs.space.Space.call_whole.Goals as goal

-- holding all pages, the call under them and giving them back are one call
pub returns-clause-called : goal.returns-clause-called
returns-clause-called g c =
    let a = c.acquire.ensures in let d = c.release_uncounted.ensures in
    called_back c.args.caller.now c.call_held-entry.new.caller c.release_uncounted.new.caller c.requires.free d.release d.left
    (called_from c.args.caller.now c.acquire.new.caller (let w = c.call_held-entry.new.caller in record w { seat = record w.seat { held = None } })
    c.call_held-entry.result c.args.line c.args.call c.requires.free a.call a.left c.call_held-entry.ensures.called)

-- it made no look
pub returns-clause-looks : goal.returns-clause-looks
returns-clause-looks g c =
    let looks = λ (x : Pass). x.looks in
    ap looks c.release_uncounted.ensures.release.pass ∙ (c.call_held-entry.ensures.looks ∙ ap looks c.acquire.ensures.call.pass)

-- it asked for everything, and for nothing behind that
pub returns-clause-asks : goal.returns-clause-asks
returns-clause-asks g c = for_kept c.acquire.ensures.asks (c.release_uncounted.ensures.release.asked ∙ c.call_held-entry.ensures.asked)

-- from its draw on it took as many steps as the call under what is held, and giving back
pub returns-clause-soon : goal.returns-clause-soon
returns-clause-soon g c =
    ends_back (ends_from c.acquire.ensures.call c.call_held-entry.ensures.soon) c.call_held-entry.ensures.last c.release_uncounted.ensures.release
