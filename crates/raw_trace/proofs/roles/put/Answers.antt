use Rattle.std.proofs.Common.{ℕ, List, ap}
use Rattle.std.specs.BTreeMap.{is_at}
use Rattle.std.specs.Map.{lookup}
use Rattle.std.specs.Ordering.{nat_cmp}
use Rattle.raw_trace.specs.declared.halves.Role.{Role}
use Rattle.raw_trace.proofs.roles.put.Goals as goal

-- no role changes where there is no memory
pub returns-in-Err-clause-others : goal.returns-in-Err-clause-others
returns-in-Err-clause-others c = λ q other. ap (λ (es : List (ℕ × Role)). lookup (is_at (nat_cmp q)) es) c.in-Err.ensures.err
