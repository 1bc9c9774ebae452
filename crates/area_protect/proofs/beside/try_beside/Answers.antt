use Rattle.std.proofs.Common.{◌∙◌, refl, subst}
use Rattle.area_protect.specs.Attempts.{HoldsRow}
use Rattle.area_protect.specs.Looks.{HasLooked}
use Rattle.area_protect.specs.Protects.{AsksPagesFirst}
use Rattle.area_protect.proofs.Asking.{looks_first, area_then}
use Rattle.area_protect.proofs.Looking.{looked_on, changed_after}
use Rattle.area_protect.proofs.Stages.{held_and_back, no_lock_call}
use Rattle.area_protect.proofs.beside.try_beside.Given.{Over}
use Rattle.area_protect.proofs.beside.try_beside.Goals.{After-hold_found}
use Rattle.range_rw.proofs.Asking.{asks_kept}
use Rattle.area_protect.proofs.beside.try_beside.Goals as goal

-- the row that is held is that of the first page of the call
pub change_held-requires-clause-holds : goal.change_held-requires-clause-holds
change_held-requires-clause-holds g c =
    let r = c.in-Some-hold_found in
    subst (λ n. HoldsRow c.hold_found.new.caller n c.widened-wide.result r.row r.kind) (c.lo.ensures ∙ c.requires.pages.0) r.ensures.held.0

-- the pages are asked for, and then the area
asked : (g : Over) (c : After-hold_found g)
    → AsksPagesFirst c.args.pages.lo c.args.pages.hi c.args.caller.now.seat.trace.asked c.hold_found.new.caller.seat.trace.asked
asked g c =
    let f = c.in-Some.ensures.found in
    area_then c.args.pages.lo c.args.pages.hi _ _ _ f.area f.from f.until c.widened-wide.ensures
    (looks_first c.args.pages.lo c.args.pages.hi _ _ c.find_area.ensures.asks) c.hold_found.ensures.asks

-- finding and holding the area leave the history to others
looked : (g : Over) (c : After-hold_found g) → HasLooked c.args.caller.now c.hold_found.new.caller
looked g c = looked_on c.find_area.ensures.looked c.hold_found.ensures.looked

-- where the pages lie in no area, they alone were asked for
pub returns-in-None-clause-asks : goal.returns-in-None-clause-asks
returns-in-None-clause-asks g c = looks_first c.args.pages.lo c.args.pages.hi _ _ c.find_area.ensures.asks

-- where the boundaries have moved, the area was asked for too
pub returns-in-None-hold_found-clause-asks : goal.returns-in-None-hold_found-clause-asks
returns-in-None-hold_found-clause-asks g c = asked g (goal.at.returns-in-None-hold_found-clause-asks g c).After-hold_found

pub returns-in-None-hold_found-clause-made : goal.returns-in-None-hold_found-clause-made
returns-in-None-hold_found-clause-made g c = looked g (goal.at.returns-in-None-hold_found-clause-made g c).After-hold_found

-- a change over the held area is one call from before the area was looked for
pub returns-in-Some-change_held-clause-made : goal.returns-in-Some-change_held-clause-made
returns-in-Some-change_held-clause-made g c =
    let d = c.in-Some-change_held.ensures.changed in
    (changed_after c.requires.caller.free (looked g (goal.at.returns-in-Some-change_held-clause-made g c).After-hold_found) d, d.area)

pub returns-in-Some-change_held-clause-asks : goal.returns-in-Some-change_held-clause-asks
returns-in-Some-change_held-clause-asks g c =
    asks_kept (asked g (goal.at.returns-in-Some-change_held-clause-asks g c).After-hold_found) c.change_held.ensures.asked

-- where it needs more rows, the area is given back
pub returns-in-None-change_held-clause-made : goal.returns-in-None-change_held-clause-made
returns-in-None-change_held-clause-made g c =
    let h = (goal.at.returns-in-None-change_held-clause-made g c).After-hold_found in
    let b = c.hold_found.new.caller in let n = c.in-None-change_held.ensures.changed in let d = c.release in
    looked_on (looked g h) (held_and_back b b c.change_held.new.caller d.new.caller (no_lock_call b.seat) refl c.hold_found.ensures.looked.rest
    n.reading n.left d.ensures.release d.ensures.left)

pub returns-in-None-change_held-clause-asks : goal.returns-in-None-change_held-clause-asks
returns-in-None-change_held-clause-asks g c =
    asks_kept (asked g (goal.at.returns-in-None-change_held-clause-asks g c).After-hold_found)
    (c.release.ensures.release.asked ∙ c.change_held.ensures.asked)
