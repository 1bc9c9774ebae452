use Rattle.area_rows.proofs.space.Space.scan.Given as goal

-- the beginning counts its steps in the ledger of the blank that it was given
abbrev pub ghosts-begin_scan : goal.ghosts-begin_scan
ghosts-begin_scan a = record { name = a.blank.name; parts = a.blank.parts }
