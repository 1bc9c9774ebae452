use Rattle.std.proofs.Common.{◌≡◌, ◌+◌, ◌≤◌, length, drop}
use Rattle.trace_threads.specs.Touching.{fault_count}
use Rattle.trace_threads.proofs.touched.faults_in.Given as goal

-- the faults so far, and those of the lines that are left, are all of them
abbrev pub invariant-lines : goal.invariant-lines
invariant-lines l = record {
  sum : l.faults + fault_count (drop l.line-index l.lines) ≡ fault_count l.lines;
  few : l.faults + length (drop l.line-index l.lines) ≤ length l.lines;
}
