use Rattle.lock_laws.proofs.Running.{runs_are_exclusive_law, runs_grant_apart_law}
use Rattle.lock_laws.proofs.runs.runs_are_exclusive.Goals as goal

-- after any run no two conflicting ranges are held
pub returns-clause-held : goal.returns-clause-held
returns-clause-held c = runs_are_exclusive_law

-- after any run no two grants of the list conflict, and no seat stands twice in it
pub returns-clause-listed : goal.returns-clause-listed
returns-clause-listed c = runs_grant_apart_law
