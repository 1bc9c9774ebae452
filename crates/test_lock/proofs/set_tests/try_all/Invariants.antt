use Rattle.test_lock.proofs.set_tests.try_all.Given as goal

-- the ledger of the steps is that of the blank
abbrev pub ghosts-try_counting : goal.ghosts-try_counting
ghosts-try_counting a = record { name = a.blank.name; parts = a.blank.parts }
