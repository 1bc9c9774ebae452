use Rattle.std.proofs.Common.{length}
use Rattle.raw_logs.proofs.SpaceFacts.{LeadsTo}
use Rattle.raw_logs.proofs.spaces.past_of.Given as goal

-- what is of the past is there, or follows from the links that are left
abbrev pub invariant-links : goal.invariant-links
invariant-links l = LeadsTo l.made l.asked l.count l.past l.rest l.pid l.limit

-- the links that are left
abbrev pub decreases-links : goal.decreases-links
decreases-links l = length l.rest
