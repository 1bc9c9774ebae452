use Rattle.test_lock.proofs.visits.enter.Given as goal

-- the note of the step is what the visit is for
abbrev pub ghosts-enter_for : goal.ghosts-enter_for
ghosts-enter_for a = record { noted = a.errand }
