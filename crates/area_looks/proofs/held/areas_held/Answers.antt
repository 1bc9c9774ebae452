use Rattle.std.proofs.Common.{ℕ, ◌≡◌, ◌+◌, ◌*◌, ◌≤◌, List, length, sym, subst, arith}
use Rattle.space_model.specs.declared.areas.Area.{Area}
use Rattle.area_rows.proofs.Reading.{shows_on}
use Rattle.area_looks.specs.Shown.{AreAreasIn, HasReadAll, HasReadPart, ShowsAreas, ShowsPart, WasSeen}
use Rattle.area_looks.proofs.Showing.{all_shown, all_were, err_on, ok_then, part_on, part_shown, read_list, read_steps, IsSomeRead, some_read}
use Rattle.area_looks.proofs.held.areas_held.Given.{Over}
use Rattle.area_looks.proofs.held.areas_held.Goals.{After-sequence}
use Rattle.area_looks.proofs.held.areas_held.Goals as goal

-- rows were read in any case
read : (g : Over) (c : After-sequence g)
    → IsSomeRead c.args.caller.now c.args.span c.read_rows-read.new.into.items c.read_rows-read.new.caller
read g c =
    let r = c.read_rows-read in
    some_read r.result c.args.caller.now r.new.caller c.args.span r.new.into.items r.ensures.all r.ensures.part

-- the list is shown while the caller reads on
pub returns-clause-shows : goal.returns-clause-shows
returns-clause-shows g c =
    let r = c.read_rows-read in let list : List Area = r.new.into.items in
    ok_then r.result (λ (all : HasReadAll c.args.caller.now c.args.span list r.new.caller).
    shows_on (λ words state. AreAreasIn c.args.span.lo c.args.span.hi list state) c.sequence.ensures.reading
    (all_shown c.args.caller.now r.new.caller c.args.span list all)) r.ensures.all

-- and it was so at the moment of the last step
pub returns-clause-were : goal.returns-clause-were
returns-clause-were g c =
    let r = c.read_rows-read in let list : List Area = r.new.into.items in
    ok_then r.result (λ (all : HasReadAll c.args.caller.now c.args.span list r.new.caller).
    all_were c.args.caller.now r.new.caller c.args.span list all c.sequence.ensures.moment) r.ensures.all

-- at which it was an area list
pub returns-clause-list : goal.returns-clause-list
returns-clause-list g c =
    let r = c.read_rows-read in let some = read g (goal.at.returns-clause-list g c).After-sequence in
    read_list c.args.caller.now r.new.caller c.args.span some.page some.rows some.made r.new.into.items some.read c.sequence.ensures.moment

-- a part is shown still
pub returns-clause-part : goal.returns-clause-part
returns-clause-part g c =
    let r = c.read_rows-read in let list : List Area = r.new.into.items in
    err_on r.result (λ (part : HasReadPart c.args.caller.now c.args.span list r.new.caller).
    part_on r.new.caller.seat c.sequence.new.caller.seat c.args.span list c.sequence.ensures.reading
    (part_shown c.args.caller.now r.new.caller c.args.span list part)) r.ensures.part

-- at most two rows an area were read, and two more
pub returns-clause-bound : goal.returns-clause-bound
returns-clause-bound g c =
    let r = c.read_rows-read in let some = read g (goal.at.returns-clause-bound g c).After-sequence in
    let most = read_steps c.args.caller.now r.new.caller c.args.span some.page some.rows some.made r.new.into.items some.read
    c.sequence.ensures.moment some.few in
    let one = c.sequence.ensures.taken in omega arith
