use Rattle.test_list.proofs.playing.make.Given as goal

-- the steps are counted under the name and parts of a new blank
abbrev pub ghosts-make_counting : goal.ghosts-make_counting
ghosts-make_counting a = record { name = a.blank.name; parts = a.blank.parts }
