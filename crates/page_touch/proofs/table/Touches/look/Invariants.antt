use Rattle.std.specs.Prelude.{true, false}
use Rattle.page_touch.proofs.table.Touches.look.Given as goal

-- the step is a load for the page of the call
abbrev pub ghosts-load_at : goal.ghosts-load_at
ghosts-load_at g a = record { room = a.self.now.room; page = a.page; puts = false }

-- the step is an exchange for it
abbrev pub ghosts-put_at : goal.ghosts-put_at
ghosts-put_at g a = record { room = a.self.now.room; page = a.page; puts = true }
