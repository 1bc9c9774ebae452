use Rattle.std.proofs.Common.{◌≡◌, ◌++◌, length, drop}
use Rattle.raw_logs.specs.Buffer.{IsSieve, kept_in, rest_in}
use Rattle.raw_logs.proofs.lines.Lines.without_first.Given as goal

-- those that were kept and those that are left are all but the first
abbrev pub invariant-texts : goal.invariant-texts
invariant-texts l = IsSieve l.sieve × (kept_in l.sieve ++ rest_in l.sieve ≡ drop l.fn.count l.fn.self)

-- each turn keeps one
abbrev pub decreases-texts : goal.decreases-texts
decreases-texts l = length (rest_in l.sieve)
