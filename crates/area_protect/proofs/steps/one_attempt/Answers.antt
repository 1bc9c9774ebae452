use Rattle.std.proofs.Common.{◌∙◌, [], ap, subst}
use Rattle.area_rows.specs.Rows.{keeps_by}
use Rattle.area_protect.specs.Attempts.{HoldsRow}
use Rattle.area_protect.specs.Looks.{LooksFirst}
use Rattle.area_protect.specs.Protects.{AsksPagesFirst}
use Rattle.area_protect.proofs.Asking.{looks_first, area_then}
use Rattle.area_protect.proofs.Looking.{looked_on, moved_between, more_rows_later, changed_after, first_then, first_more}
use Rattle.area_protect.proofs.steps.one_attempt.Given.{Over}
use Rattle.area_protect.proofs.steps.one_attempt.Goals.{After-hold_area}
use Rattle.range_rw.proofs.Asking.{asks_kept}
use Rattle.area_protect.proofs.steps.one_attempt.Goals as goal

-- the row that is held is that of the first page of the call
pub change_area-requires-clause-holds : goal.change_area-requires-clause-holds
change_area-requires-clause-holds g c =
    subst (λ n. HoldsRow c.hold_area.new.caller n c.widened-wide.result c.in-Area.row c.in-Area.kind) (c.lo.ensures ∙ c.requires.pages.0)
    c.in-Area.ensures.held.holds

-- the first look was made under the pages as a reader
held_first : (g : Over) (c : After-hold_area g) → LooksFirst c.args.caller.now.seat c.args.pages.lo c.args.pages.hi c.hold_area.new.caller.seat
held_first g c = first_then c.args.caller.now c.args.pages.lo c.args.pages.hi c.look_around.ensures.first c.hold_area.ensures.looked

-- the look asks for the pages
pub returns-in-Err-clause-asks : goal.returns-in-Err-clause-asks
returns-in-Err-clause-asks g c = looks_first c.args.pages.lo c.args.pages.hi _ _ c.look_around.ensures.asks

-- and then the area is asked for
area_asked : (g : Over) (c : After-hold_area g)
    → AsksPagesFirst c.args.pages.lo c.args.pages.hi c.args.caller.now.seat.trace.asked c.hold_area.new.caller.seat.trace.asked
area_asked g c =
    let f = c.in-Ok.ensures.found in
    area_then c.args.pages.lo c.args.pages.hi _ _ _ f.area f.from f.until c.widened-wide.ensures
    (looks_first c.args.pages.lo c.args.pages.hi _ _ c.look_around.ensures.asks) c.hold_area.ensures.asks

-- where the boundaries have moved, the caller has only looked
pub returns-in-Other : goal.returns-in-Other
returns-in-Other g c =
    let h = (goal.at.returns-in-Other g c).After-hold_area in
    record {
      free = c.in-Other.ensures.held;
      first = held_first g h;
      asks = area_asked g h;
      attempt = looked_on c.look_around.ensures.looked c.in-Other.ensures.looked;
    }

-- where a call under everything came between, that is the reason for everything
pub returns-in-Moved : goal.returns-in-Moved
returns-in-Moved g c =
    let h = (goal.at.returns-in-Moved g c).After-hold_area in
    let f = c.in-Ok.ensures.found in let m = c.in-Moved.ensures.held in let look = c.look_around.ensures.looked in let next = c.in-Moved.ensures.looked in
    record {
      free = m.0;
      first = held_first g h;
      asks = area_asked g h;
      attempt = (
        looked_on look next,
        moved_between c.args.request c.in-Ok.found.at c.in-Moved.second c.in-Ok.found.sequence c.in-Moved.sequence look next f.looked f.whole m.1 m.2 m.3,
      );
    }

-- a change over the held area is one call from before the two looks
pub returns-in-Ok-change_area : goal.returns-in-Ok-change_area
returns-in-Ok-change_area g c =
    let h = (goal.at.returns-in-Ok-change_area g c).After-hold_area in
    let a = c.in-Area.ensures in let d = c.in-Ok-change_area.ensures.changed in
    let look = looked_on c.look_around.ensures.looked a.looked in
    let keeps = ap keeps_by look.table ∙ (ap keeps_by c.requires.caller.table_is ∙ c.requires.keeps) in
    record {
      free = c.change_area.ensures.free;
      first = first_more c.args.caller.now.seat c.hold_area.new.caller.seat c.change_area.new.caller.seat c.args.pages.lo c.args.pages.hi (held_first g h)
          ([], d.looks);
      asks = asks_kept (area_asked g h) c.change_area.ensures.asked;
      attempt = (changed_after c.requires.caller.free look d, d.area, d.whole keeps c.in-Ok.found.sequence a.held.whole);
    }

-- where it needs more rows, that is the reason
pub returns-in-Err-change_area : goal.returns-in-Err-change_area
returns-in-Err-change_area g c =
    let h = (goal.at.returns-in-Err-change_area g c).After-hold_area in
    let look = looked_on c.look_around.ensures.looked c.in-Area.ensures.looked in
    let needs = c.in-Err-change_area.ensures.rows in
    record {
      free = c.change_area.ensures.free;
      first = first_then c.args.caller.now c.args.pages.lo c.args.pages.hi (held_first g h) needs.looked;
      asks = asks_kept (area_asked g h) c.change_area.ensures.asked;
      attempt = (looked_on look needs.looked, more_rows_later look needs);
    }
