use Rattle.std.proofs.Common.{◌≡◌, List, length, arith, ap}
use Rattle.space_model.specs.declared.areas.Area.{Area}
use Rattle.area_rows.proofs.Reading.{shows_on}
use Rattle.area_looks.specs.declared.told.Counts.{Counts}
use Rattle.area_looks.specs.Shown.{AreAreasIn}
use Rattle.area_looks.proofs.Showing.{all_shown, all_were, read_steps}
use Rattle.area_looks.proofs.counted.fill_held.Goals as goal

-- the list is shown while the caller reads on, and was so at the moment of the last step
pub returns-clause-shows : goal.returns-clause-shows
returns-clause-shows g c =
    let r = c.fill_rows-counts in let before = c.args.caller.now in let span = c.args.span in
    let list : List Area = r.ensures.told.0 in let read = r.ensures.told.2 in (
      list,
      r.ensures.told.1,
      (
        shows_on (λ words state. AreAreasIn span.lo span.hi list state) c.sequence.ensures.reading (all_shown before r.new.caller span list read),
        all_were before r.new.caller span list read c.sequence.ensures.moment,
      ),
    )

-- at most two rows an area were read, and two more
pub returns-clause-bound : goal.returns-clause-bound
returns-clause-bound g c =
    let r = c.fill_rows-counts in let before = c.args.caller.now in let span = c.args.span in
    let list : List Area = r.ensures.told.0 in let read = r.ensures.told.2 in
    let many : r.result.areas ≡ length list = ap (λ (n : Counts). n.areas) r.ensures.told.1.1 in
    let most = read_steps before r.new.caller span span.hi read.0 read.0 list read.1 c.sequence.ensures.moment (omega arith) in
    let one = c.sequence.ensures.taken in omega arith
