use Rattle.area_protect.proofs.tests.a_boundary_that_moves_between_two_looks_is_seen.Given as goal

-- the counter's name and parts are those of the blank
abbrev pub ghosts-held_beside : goal.ghosts-held_beside
ghosts-held_beside g a = record { name = a.blank.name; parts = a.blank.parts }
