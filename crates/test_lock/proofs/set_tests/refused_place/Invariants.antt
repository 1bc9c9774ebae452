use Rattle.test_lock.proofs.set_tests.refused_place.Given as goal

-- the ledger of the steps is that of the blank
abbrev pub ghosts-refused_counting : goal.ghosts-refused_counting
ghosts-refused_counting g a = record { name = a.blank.name; parts = a.blank.parts }
