use Rattle.range_rw.proofs.scan.Scan.next.Given as goal

-- the ledger of the steps is that of the blank
abbrev pub ghosts-scan_next : goal.ghosts-scan_next
ghosts-scan_next g a = record { name = a.blank.name; parts = a.blank.parts }
