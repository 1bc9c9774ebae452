use Rattle.area_looks.proofs.counted.fill_round.Given as goal

-- the counter's name and parts are those of the blank
abbrev pub ghosts-fill_under : goal.ghosts-fill_under
ghosts-fill_under g a = record { name = a.blank.name; parts = a.blank.parts }
