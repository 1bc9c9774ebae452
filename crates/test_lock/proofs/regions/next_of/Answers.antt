use Rattle.range_rw.proofs.SeatedScans.{next_open}
use Rattle.test_lock.proofs.regions.next_of.Goals as goal

-- an open scan stays open behind each answer
pub returns-clause-inside : goal.returns-clause-inside
returns-clause-inside c = next_open _ _ _ c.next.ensures.next c.requires.inside
