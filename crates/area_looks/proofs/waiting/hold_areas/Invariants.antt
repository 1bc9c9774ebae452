use Rattle.area_looks.proofs.waiting.hold_areas.Given as goal

-- the counter's name and parts are those of the blank
abbrev pub ghosts-hold_counting : goal.ghosts-hold_counting
ghosts-hold_counting g a = record { name = a.blank.name; parts = a.blank.parts }
