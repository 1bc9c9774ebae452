-- The line of an entry in a printed log, and how a line of a log begins. A line tells its entry, so the entries meant
-- here are those that a line can show: their sets have named bits alone, and their numbers have the widths of an
-- entry's fields. The form of a line is this project's own profile, with the call as strace(1) prints it.
use Rattle.std.specs.Prelude.{◌≡◌, ℕ, ◌<◌, ◌^◌, List, [], ◌∷◌, ◌++◌}
use Rattle.line_parts.specs.Leaves.{IsRun, is_digit}
use Rattle.page_types.specs.declared.calls.Reply.{Reply}
use Rattle.page_types.specs.declared.calls.Reply.TheVariants.{Refused}
use Rattle.page_types.specs.declared.calls.Why.TheVariants.{Enomem}
use Rattle.page_types.specs.declared.calls.Short.TheVariants.{Rows}
use Rattle.space_model.specs.declared.entries.Entry.{Entry}
use Rattle.maps_printer.specs.Lines.{entry_line}
use Rattle.round_trip.specs.Logs.{HasWordNumbers, IsNamedEntry}

-- the number of rows that a reply may name fits in 32 bits
abbrev pub HasNarrowRows : Reply → Type 0
HasNarrowRows (Refused (Enomem (Rows rows))) = rows < 2 ^ 32
HasNarrowRows reply = Unit {0}

-- an entry that a line of a log can show
pub record IsLogEntry (e : Entry) : Type 0 where
  -- all numbers fit in 64 bits
  pub words : HasWordNumbers e
  -- a run has at most 16 workers
  pub worker : e.worker < 16
  -- the number of the input's line fits in 32 bits
  pub line : e.line < 2 ^ 32
  -- so does a number of rows
  pub rows : HasNarrowRows e.reply
  -- a bit without a word isn't printed, so there is none
  pub named : IsNamedEntry e

-- the text is the line of this entry without its newline (byte 10)
abbrev pub IsLogLine : List ℕ → Entry → Type 0
IsLogLine text e = IsLogEntry e × (text ++ 10 ∷ [] ≡ entry_line e)

-- the line begins as one of a log: decimal digits and a space
abbrev pub BeginsLog : List ℕ → Type 0
BeginsLog text = (digits rest : List ℕ) × IsRun is_digit is_digit digits × (text ≡ digits ++ 32 ∷ rest)
