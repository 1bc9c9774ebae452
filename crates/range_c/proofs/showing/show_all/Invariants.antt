use Rattle.range_c.proofs.showing.show_all.Given as goal

-- the beginning and the end count their steps in the ledgers of the blanks that they were given
abbrev pub ghosts-begin_scan : goal.ghosts-begin_scan
ghosts-begin_scan a = record { name = a.blank.name; parts = a.blank.parts }

abbrev pub ghosts-end_scan : goal.ghosts-end_scan
ghosts-end_scan a = record { name = a.blank.name; parts = a.blank.parts }
