use Rattle.strace_reader.proofs.OneOutcome.{one_maps_outcome}
use Rattle.strace_reader.proofs.laws.maps_lines_have_one_outcome.Goals as goal

-- each line of a maps file has one outcome at most
pub returns : goal.returns
returns c = one_maps_outcome
