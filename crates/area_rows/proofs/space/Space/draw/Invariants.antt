use Rattle.area_guard.specs.History.{pending_of, entry_note}
use Rattle.area_rows.specs.Callers.{splice_of}
use Rattle.area_rows.proofs.space.Space.draw.Given as goal

-- the note is the drafted entry, with what its call has to write
abbrev pub ghosts-draw_as : goal.ghosts-draw_as
ghosts-draw_as a = record { noted = entry_note a.draft.now (pending_of a.draft.now.under (splice_of a.seat.now a.cut a.more.now) a.change) }
