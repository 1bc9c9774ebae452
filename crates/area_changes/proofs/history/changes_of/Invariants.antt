use Rattle.std.proofs.Common.{drop}
use Rattle.area_changes.proofs.Running.{GoesOnWith}
use Rattle.area_changes.proofs.history.changes_of.Given as goal

-- the entries that are left have the right replies, and their changes complete the list
abbrev pub invariant-entries : goal.invariant-entries
invariant-entries l = GoesOnWith l.start l.entries l.space (drop l.entry-index l.entries) l.list.items
