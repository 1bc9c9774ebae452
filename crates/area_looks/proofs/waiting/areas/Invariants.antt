use Rattle.area_looks.proofs.waiting.areas.Given as goal

-- the counter's name and parts are those of the blank
abbrev pub ghosts-areas_counting : goal.ghosts-areas_counting
ghosts-areas_counting g a = record { name = a.blank.name; parts = a.blank.parts }
