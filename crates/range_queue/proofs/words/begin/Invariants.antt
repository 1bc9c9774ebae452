use Rattle.range_queue.proofs.words.begin.Given as goal

-- the range that is asked for
abbrev pub ghosts-begin_for : goal.ghosts-begin_for
ghosts-begin_for g a = record { asked = a.asked.now }
