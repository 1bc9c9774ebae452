use Rattle.std.proofs.Common.{ℕ, ◌≡◌, ◌+◌, ◌-◌, ◌≤◌, arith}
use Rattle.std.specs.Prelude.{Some, None, min}
use Rattle.page_types.specs.declared.TheConstants.{LIMIT}
use Rattle.lock_core.specs.declared.range.Mode.TheVariants.{Reader}
use Rattle.area_rows.specs.Callers.{held_span}
use Rattle.area_looks.specs.Shown.{IsAreaAt, WasSeen}
use Rattle.area_looks.proofs.Showing.{seen_here}
use Rattle.area_looks.proofs.Ends.{shows_free, shows_whole}
use Rattle.area_looks.proofs.at.look_under.Goals as goal

-- a page whose row is a gap isn't mapped
pub returns-in-None-clause-found : goal.returns-in-None-clause-found
returns-in-None-clause-found g c =
    let r = c.row_of-row in let wide = c.args.wide in let page = c.args.page in let held = c.requires.held in
    seen_here c.args.caller.now.seat r.new.caller.seat (Some (held_span wide Reader)) (IsAreaAt page None) held r.ensures.reading
    c.sequence.ensures.moment
    (shows_free r.new.caller.seat wide c.args.caller.now.seat.held page r.result r.ensures.shows held c.in-None.is r.ensures.from r.ensures.until
    c.requires.inside.0 c.requires.inside.1)

-- a row that lies in what is held, with a page past each end, is an area
pub returns-then-hi-clause-found : goal.returns-then-hi-clause-found
returns-then-hi-clause-found g c =
    let r = c.row_of-row in let wide = c.args.wide in let page = c.args.page in let held = c.requires.held in let k = c.in-Some.kind in
    let first : wide.lo ≤ r.result.lo - 1 =
    (let l = c.lo.ensures in let m = c.lo-in-Some.ensures in let t = c.if-lo.true in let f = c.widened-around.ensures.first in omega arith) in
    let last : min (r.result.hi + 1) LIMIT ≤ wide.hi =
    (let l = c.hi.ensures in let m = c.hi-then-lo.ensures in let t = c.if-hi.true in let f = c.widened-around.ensures.end in omega arith) in
    seen_here c.args.caller.now.seat r.new.caller.seat (Some (held_span wide Reader))
    (IsAreaAt page (Some (record { lo = r.result.lo; hi = r.result.hi; kind = k }))) held r.ensures.reading c.sequence.ensures.moment
    (shows_whole r.new.caller.seat wide c.args.caller.now.seat.held page r.result k r.ensures.shows held c.in-Some.is r.ensures.from r.ensures.until
    r.ensures.limit first last)
