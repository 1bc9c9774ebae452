use Rattle.range_rw.proofs.table.RangeTable.acquire_round.Given as goal

-- the ledger of the steps is that of the blank
abbrev pub ghosts-attempt_counting : goal.ghosts-attempt_counting
ghosts-attempt_counting g a = record { name = a.blank.name; parts = a.blank.parts }
