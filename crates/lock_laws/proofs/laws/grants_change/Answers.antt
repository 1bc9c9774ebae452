use Rattle.lock_laws.proofs.Outcomes.{change, outcome}
use Rattle.lock_laws.proofs.laws.grants_change.Goals as goal

-- each step changes no grant, or its seat gains or gives back
pub returns-clause-change : goal.returns-clause-change
returns-clause-change c = change

-- each kind of step does so in exactly its case
pub returns-clause-outcome : goal.returns-clause-outcome
returns-clause-outcome c = outcome
