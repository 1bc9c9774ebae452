use Rattle.test_crews.proofs.held.hold_beside.Given as goal

-- the steps of the calls are counted under the name and parts of a new blank
abbrev pub ghosts-hold_counting : goal.ghosts-hold_counting
ghosts-hold_counting g a = record { name = a.blank.name; parts = a.blank.parts }
