-- The first gap from above that is long enough has the highest place.
use Rattle.std.proofs.Common.{◌++◌, ◌+◌, ◌-◌, sym, subst, arith, length, get_or}
use Rattle.space_model.specs.Building.{no_area}
use Rattle.space_model.specs.Cutting.{NoneAbove}
use Rattle.space_model.proofs.Highest.{none_above_next, highest_here}
use Rattle.space_model.proofs.InPlaces.{at_between, within_between}
use Rattle.space_model.proofs.fits.fit_by_area.Goals as goal

-- where the gap above an area is too short, each place ends at or below the area's start
pub loop-i-preserved : goal.loop-i-preserved
loop-i-preserved c front back window w above =
    let B = c.args.areas.now in let i = c.loop-i.i in
    subst (NoneAbove (front ++ (B ++ back)) window c.args.pages (length front + (i - 1))) (sym c.min-at.ensures)
    (none_above_next (front ++ (B ++ back)) window c.args.pages (length front + i) (length front + (i - 1)) c.loop-i.at (get_or B (i - 1) no_area)
    (omega arith) w (within_between front B back (i - 1) (omega arith)) c.requires.some (c.loop-i.invariant front back window w above)
    (sym (at_between front B back (i - 1) (omega arith)))
    (omega (arith, c.max-from.ensures, c.saturating_sub.ensures, c.if-pages-saturating_sub.false)))

-- where it is long enough, the place at its end is the highest
pub returns-then-pages-saturating_sub : goal.returns-then-pages-saturating_sub
returns-then-pages-saturating_sub c front back window w above =
    let B = c.args.areas.now in let i = c.loop-i.i in
    highest_here (front ++ (B ++ back)) window c.args.pages (length front + i) (length front + (i - 1)) c.loop-i.at (get_or B (i - 1) no_area)
    (omega arith) w (within_between front B back (i - 1) (omega arith)) c.requires.some (c.loop-i.invariant front back window w above)
    (sym (at_between front B back (i - 1) (omega arith)))
    (omega (arith, c.max-from.ensures, c.saturating_sub.ensures, c.if-pages-saturating_sub.true))

-- below the first area each place ends at or below its start
pub returns : goal.returns
returns c front back window w above =
    let B = c.args.areas.now in
    subst (λ n. NoneAbove (front ++ (B ++ back)) window c.args.pages n c.loop-i.at) (omega arith) (c.loop-i.invariant front back window w above)
