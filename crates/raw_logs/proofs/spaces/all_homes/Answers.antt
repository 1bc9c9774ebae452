use Rattle.std.proofs.Common.{ℕ, List, [], ap, sym}
use Rattle.std.specs.BTreeMap.{is_at}
use Rattle.std.specs.Map.{lookup}
use Rattle.std.proofs.lemmas.List.{append-nil}
use Rattle.raw_logs.specs.declared.spaces.Home.{Home}
use Rattle.raw_logs.specs.Stages.{pair_cmp}
use Rattle.raw_logs.proofs.HomeFacts.{no_homes}
use Rattle.raw_logs.proofs.spaces.all_homes.Goals as goal

-- no link was taken
pub links-init : goal.links-init
links-init c = (
  [],
  sym (append-nil c.args.made.now),
  no_homes c.new-homes.result (λ q. ap (λ (es : List ((ℕ × ℕ) × Home)). lookup (is_at (pair_cmp q)) es) c.new-homes.ensures.empty),
)
