use Rattle.range_c.proofs.showing.look.Given as goal

-- the call counts its steps in the ledger of the blank that it was given
abbrev pub ghosts-scan_next : goal.ghosts-scan_next
ghosts-scan_next a = record { name = a.blank.name; parts = a.blank.parts }
