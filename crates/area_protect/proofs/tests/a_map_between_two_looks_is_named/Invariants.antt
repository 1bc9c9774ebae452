use Rattle.area_protect.proofs.tests.a_map_between_two_looks_is_named.Given as goal

-- the counter's name and parts are those of the blank
abbrev pub ghosts-held_after : goal.ghosts-held_after
ghosts-held_after g a = record { name = a.blank.name; parts = a.blank.parts }
