use Rattle.area_rows.proofs.scan.SpaceScan.end.Given as goal

-- the end counts its steps in the ledger of the blank that it was given
abbrev pub ghosts-end_scan : goal.ghosts-end_scan
ghosts-end_scan a = record { name = a.blank.name; parts = a.blank.parts }
