use Rattle.std.proofs.Common.{ℕ, ◌+◌, ◌++◌, List, length}
use Rattle.space_model.specs.declared.areas.Area.{Area}
use Rattle.space_model.specs.Areas.{IsAreaList}
use Rattle.space_model.specs.Cutting.{NoneAbove}
use Rattle.space_model.proofs.fits.fit_by_area.Given as goal

-- each place ends below the areas so far, whatever lists they stand between
abbrev pub invariant-loop-i : goal.invariant-loop-i
invariant-loop-i l =
    (front back : List Area) (window : ℕ) → IsAreaList (front ++ (l.areas ++ back)) →
    NoneAbove (front ++ (l.areas ++ back)) window l.pages (length front + length l.areas) l.to →
    NoneAbove (front ++ (l.areas ++ back)) window l.pages (length front + l.i) l.at
