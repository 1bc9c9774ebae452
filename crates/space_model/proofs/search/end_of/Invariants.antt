use Rattle.std.proofs.Common.{drop}
use Rattle.space_model.proofs.Searching.{NoneSoFar}
use Rattle.space_model.proofs.search.end_of.Given as goal

-- no page so far is of the sort, and the areas that are left have the kinds from there on
abbrev pub invariant-loop-area : goal.invariant-loop-area
invariant-loop-area l = NoneSoFar l.areas (drop l.area-index l.rest) l.sort l.lo l.at
