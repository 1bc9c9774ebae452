use Rattle.range_rw.proofs.table.RangeTable.scan.Given as goal

-- the ledger of the steps is that of the blank
abbrev pub ghosts-begin_scan : goal.ghosts-begin_scan
ghosts-begin_scan g a = record { name = a.blank.name; parts = a.blank.parts }
