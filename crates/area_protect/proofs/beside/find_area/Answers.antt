use Rattle.std.proofs.Common.{◌≡◌, ◌∙◌, arith}
use Rattle.range_rw.specs.Contract.{AsksFor}
use Rattle.range_rw.proofs.Asking.{for_kept}
use Rattle.area_protect.specs.Looks.{HasLooked}
use Rattle.area_protect.specs.Protects.{read_pages}
use Rattle.area_protect.proofs.Stages.{held_and_back}
use Rattle.area_protect.proofs.beside.find_area.Given.{Over}
use Rattle.area_protect.proofs.beside.find_area.Goals.{After-release}
use Rattle.area_protect.proofs.beside.find_area.Goals as goal

-- holding, reading and giving back leave the history to others
looked : (g : Over) (c : After-release g) → HasLooked c.args.caller.now c.release.new.caller
looked g c =
    let a = c.acquire in let r = c.row_of-row in let d = c.release in
    held_and_back c.args.caller.now a.new.caller r.new.caller d.new.caller a.ensures.call a.ensures.left a.ensures.rest
    r.ensures.reading r.ensures.left d.ensures.release d.ensures.left

-- what is asked for is the pages
asks : (g : Over) (c : After-release g)
    → AsksFor (read_pages c.args.pages.lo c.args.pages.hi) c.args.caller.now.seat.trace.asked c.release.new.caller.seat.trace.asked
asks g c = for_kept c.acquire.ensures.asks (c.release.ensures.release.asked ∙ c.row_of-row.ensures.reading.asked)

-- a row with a kind that reaches behind the pages is an area with all of them
pub returns-in-Some : goal.returns-in-Some
returns-in-Some g c =
    let r = c.row_of-row in let h = (goal.at.returns-in-Some g c).After-release in
    record {
      looked = looked g h;
      free = c.release.ensures.release.held;
      asks = asks g h;
      found = record {
        area = record { has_page = (let f = r.ensures.from in let u = r.ensures.until in omega arith); below_limit = r.ensures.limit };
        from = (let f = r.ensures.from in let p = c.lo.ensures in omega arith);
        until = (let h = c.if-row-hi.true in let p = c.hi.ensures in omega arith);
      };
    }

-- of pages that the first one's row doesn't reach behind nothing is said
pub returns-in_default : goal.returns-in_default
returns-in_default g c =
    let h = (goal.at.returns-in_default g c).After-release in
    record { looked = looked g h; free = c.release.ensures.release.held; asks = asks g h; found = tt }

-- nor of those whose first one isn't mapped
pub returns-in_default-2 : goal.returns-in_default-2
returns-in_default-2 g c =
    let h = (goal.at.returns-in_default-2 g c).After-release in
    record { looked = looked g h; free = c.release.ensures.release.held; asks = asks g h; found = tt }
