use Rattle.space_model.specs.Cutting.{NoneAbove}
use Rattle.space_model.proofs.search.highest_fit.Given as goal

-- each place ends below the areas so far
abbrev pub invariant-loop-i : goal.invariant-loop-i
invariant-loop-i l = NoneAbove l.areas l.window l.pages l.i l.to
