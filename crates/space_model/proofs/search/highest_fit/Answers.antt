-- The first gap from above that is long enough has the highest place.
use Rattle.std.proofs.Common.{◌≡◌, ◌-◌, sym, subst, refl, arith}
use Rattle.space_model.specs.Cutting.{NoneAbove}
use Rattle.space_model.proofs.Highest.{none_above_all, none_above_next, highest_here, highest_below, no_fit}
use Rattle.space_model.proofs.search.highest_fit.Goals as goal

-- at the start each place ends at or below the window's end
pub loop-i-init : goal.loop-i-init
loop-i-init c = none_above_all c.args.areas.now c.args.window c.args.pages c.requires.window

-- where the gap above an area is too short, each place ends at or below the area's start
pub loop-i-preserved : goal.loop-i-preserved
loop-i-preserved c =
    subst (NoneAbove c.args.areas.now c.args.window c.args.pages (c.loop-i.i - 1)) (sym c.min-to.ensures)
    (none_above_next c.args.areas.now c.args.window c.args.pages c.loop-i.i (c.loop-i.i - 1) c.loop-i.to _ (omega arith)
    c.requires.in_order (omega arith) c.requires.some c.loop-i.invariant refl
    (omega (arith, c.max-from.ensures, c.saturating_sub.ensures, c.if-pages-saturating_sub.false)))

-- where it is long enough, the place at its end is the highest
pub returns-then-pages-saturating_sub : goal.returns-then-pages-saturating_sub
returns-then-pages-saturating_sub c =
    highest_here c.args.areas.now c.args.window c.args.pages c.loop-i.i (c.loop-i.i - 1) c.loop-i.to _ (omega arith) c.requires.in_order
    (omega arith) c.requires.some c.loop-i.invariant refl
    (omega (arith, c.max-from.ensures, c.saturating_sub.ensures, c.if-pages-saturating_sub.true))

-- so it is where the gap below the first area is long enough
pub returns-then-pages-saturating_sub-2 : goal.returns-then-pages-saturating_sub-2
returns-then-pages-saturating_sub-2 c =
    let first : c.loop-i.i ≡ 0 = omega arith in
    highest_below c.args.areas.now c.args.window c.args.pages c.loop-i.to c.requires.in_order
    (subst (λ n. NoneAbove c.args.areas.now c.args.window c.args.pages n c.loop-i.to) first c.loop-i.invariant) (omega arith)

-- where that one is too short too, no place fits
pub returns-else-pages-saturating_sub-2 : goal.returns-else-pages-saturating_sub-2
returns-else-pages-saturating_sub-2 c =
    let first : c.loop-i.i ≡ 0 = omega arith in
    no_fit c.args.areas.now c.args.window c.args.pages c.loop-i.to
    (subst (λ n. NoneAbove c.args.areas.now c.args.window c.args.pages n c.loop-i.to) first c.loop-i.invariant) (omega arith)
