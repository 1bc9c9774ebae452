use Rattle.example_ranges.proofs.tries.hold_once.Given as goal

-- the try counts its steps in the ledger of the blank that it was given
abbrev pub ghosts-hold_with : goal.ghosts-hold_with
ghosts-hold_with a = record { name = a.blank.name; parts = a.blank.parts }
