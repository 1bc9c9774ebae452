use Rattle.area_looks.proofs.at.area_round.Given as goal

-- the counter's name and parts are those of the blank
abbrev pub ghosts-round_counting : goal.ghosts-round_counting
ghosts-round_counting a = record { name = a.blank.name; parts = a.blank.parts }
