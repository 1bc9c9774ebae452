use Rattle.lock_laws.proofs.laws.lock_has_no_reuse.Goals as goal

-- it is the ninth part of the invariant
pub returns : goal.returns
returns c = λ m l. l.invariant.no_reuse
