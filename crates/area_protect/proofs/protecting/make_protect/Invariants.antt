use Rattle.area_protect.proofs.protecting.make_protect.Given as goal

-- the counter's name and parts are those of the blank
abbrev pub ghosts-protect_counting : goal.ghosts-protect_counting
ghosts-protect_counting g a = record { name = a.blank.name; parts = a.blank.parts }
