use Rattle.std.proofs.Common.{ℕ, List, ap}
use Rattle.std.specs.Ordering.{nat_cmp}
use Rattle.std.specs.BTreeMap.{is_at}
use Rattle.std.specs.Map.{lookup}
use Rattle.strace_reader.specs.declared.half.Half.{Half}
use Rattle.strace_reader.proofs.JoinFacts.{fed_nothing}
use Rattle.strace_reader.proofs.joiner.Joiner.new.Goals as goal

-- a new joiner stands for no texts
pub returns : goal.returns
returns c = fed_nothing _ (λ q. ap (λ (es : List (ℕ × Half)). lookup (is_at (nat_cmp q)) es) c.new.ensures.empty)
