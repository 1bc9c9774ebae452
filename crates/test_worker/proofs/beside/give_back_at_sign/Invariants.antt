use Rattle.test_worker.proofs.beside.give_back_at_sign.Given as goal

-- the steps are counted under the name and parts of a new blank
abbrev pub ghosts-release_at_sign : goal.ghosts-release_at_sign
ghosts-release_at_sign a = record { name = a.blank.name; parts = a.blank.parts }
