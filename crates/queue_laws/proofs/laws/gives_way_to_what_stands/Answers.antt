use Rattle.queue_laws.proofs.Conflicting.{gives_way_law}
use Rattle.queue_laws.proofs.laws.gives_way_to_what_stands.Goals as goal

-- who gives way gives way to what stands
pub returns : goal.returns
returns c = gives_way_law
