use Rattle.space_c.proofs.rounds.fault_holding.Given as goal

-- the counter of steps, which nobody reads
abbrev pub ghosts-fault_counting : goal.ghosts-fault_counting
ghosts-fault_counting a = record { name = a.blank.name; parts = a.blank.parts }
