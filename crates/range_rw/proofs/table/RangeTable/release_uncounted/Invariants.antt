use Rattle.range_rw.proofs.table.RangeTable.release_uncounted.Given as goal

-- the ledger of the steps is that of the blank
abbrev pub ghosts-release_counting : goal.ghosts-release_counting
ghosts-release_counting g a = record { name = a.blank.name; parts = a.blank.parts }
