use Rattle.area_protect.proofs.beside.protect_beside.Given as goal

-- the counter's name and parts are those of the blank
abbrev pub ghosts-beside_counting : goal.ghosts-beside_counting
ghosts-beside_counting g a = record { name = a.blank.name; parts = a.blank.parts }
