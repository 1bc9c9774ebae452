use Rattle.std.proofs.Common.{◌≡◌, ◌++◌, map, drop}
use Rattle.area_changes.specs.Changes.{of_entry}
use Rattle.area_changes.proofs.history.append.Given as goal

-- with the changes that are left the list is the whole one
abbrev pub invariant-changes : goal.invariant-changes
invariant-changes l =
    l.list.items ++ map (of_entry l.number) (drop l.change-index l.changes) ≡ l.initial.list.items ++ map (of_entry l.number) l.changes
