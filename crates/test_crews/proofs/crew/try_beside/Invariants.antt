use Rattle.test_crews.proofs.crew.try_beside.Given as goal

-- the steps of the try are counted under the name and parts of a new blank
abbrev pub ghosts-try_counting : goal.ghosts-try_counting
ghosts-try_counting g a = record { name = a.blank.name; parts = a.blank.parts }
