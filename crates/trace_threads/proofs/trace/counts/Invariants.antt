use Rattle.std.proofs.Common.{◌≡◌, ◌++◌, drop, map, length}
use Rattle.std.specs.Prelude.{vec_items}
use Rattle.trace_threads.proofs.trace.counts.Given as goal

-- the lengths so far, and those of the lists that are left, are all of them
abbrev pub invariant-lists : goal.invariant-lists
invariant-lists l = l.calls.items ++ map length (map vec_items (drop l.list-index l.lines)) ≡ map length (map vec_items l.lines)
