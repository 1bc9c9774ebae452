use Rattle.std.proofs.Common.{◌-◌, ◌≤◌}
use Rattle.range_rw.specs.Several.{TakesNone}
use Rattle.range_rw.proofs.several.next_taken.Given as goal

-- from the first list on and before this one the range takes none
abbrev pub invariant-all : goal.invariant-all
invariant-all l = record { from : l.from ≤ l.at; most : l.at ≤ l.lists; none : TakesNone l.cut l.range l.from l.at }

-- how many lists are left
abbrev pub decreases-all : goal.decreases-all
decreases-all l = l.lists - l.at
