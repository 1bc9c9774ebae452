use Rattle.area_looks.proofs.at.area_at.Given as goal

-- the counter's name and parts are those of the blank
abbrev pub ghosts-at_counting : goal.ghosts-at_counting
ghosts-at_counting g a = record { name = a.blank.name; parts = a.blank.parts }
