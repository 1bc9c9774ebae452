use Rattle.range_rw.proofs.scan.Scan.end.Given as goal

-- the ledger of the steps is that of the blank
abbrev pub ghosts-end_scan : goal.ghosts-end_scan
ghosts-end_scan g a = record { name = a.blank.name; parts = a.blank.parts }
