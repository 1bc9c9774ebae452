use Rattle.test_list.proofs.calls.make_call.Given as goal

-- the steps of the call are counted under the name and parts of a new blank
abbrev pub ghosts-call_counting : goal.ghosts-call_counting
ghosts-call_counting a = record { name = a.blank.name; parts = a.blank.parts }
