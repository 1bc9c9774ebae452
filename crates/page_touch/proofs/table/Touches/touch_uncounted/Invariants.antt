use Rattle.page_touch.proofs.table.Touches.touch_uncounted.Given as goal

-- the ledger of the steps is that of the blank
abbrev pub ghosts-touch_with : goal.ghosts-touch_with
ghosts-touch_with a = record { name = a.blank.name; parts = a.blank.parts }
