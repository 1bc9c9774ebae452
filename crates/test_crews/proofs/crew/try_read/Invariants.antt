use Rattle.test_crews.proofs.crew.try_read.Given as goal

-- the steps of the try are counted under the name and parts of a new blank
abbrev pub ghosts-try_alone : goal.ghosts-try_alone
ghosts-try_alone a = record { name = a.blank.name; parts = a.blank.parts }
