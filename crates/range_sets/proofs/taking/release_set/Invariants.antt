use Rattle.range_sets.proofs.taking.release_set.Given as goal

-- the ledger of the steps is that of the blank
abbrev pub ghosts-release_with : goal.ghosts-release_with
ghosts-release_with g a = record { name = a.blank.name; parts = a.blank.parts }
