use Rattle.std.proofs.Common.{◌≡◌, ◌++◌, drop, map}
use Rattle.std.specs.Prelude.{vec_items}
use Rattle.trace_threads.specs.Touching.{fault_count}
use Rattle.trace_threads.proofs.touched.quotas_of.Given as goal

-- the counts so far, and those of the lists that are left, are all of them
abbrev pub invariant-lists : goal.invariant-lists
invariant-lists l = l.quotas.items ++ map fault_count (map vec_items (drop l.list-index l.lines)) ≡ map fault_count (map vec_items l.lines)
