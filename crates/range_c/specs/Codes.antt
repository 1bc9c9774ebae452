-- The numbers by which answers go to C, and what C is shown of a range in conflict. They are this project's own, and
-- `gz_range.h` has the same numbers as an enum. No two answers of different causes have one code, and the codes of
-- refusals by the lock come first, so that a caller who tries again compares once.
use Rattle.std.specs.Prelude.{ℕ, Bool, true, false, Option, Some, None}
use Rattle.lock_core.specs.declared.range.Held.{Held}
use Rattle.lock_core.specs.declared.range.Mode.{Mode}
use Rattle.lock_core.specs.declared.range.Mode.TheVariants.{Reader, Writer}
use Rattle.range_rw.specs.declared.refusals.NotHeld.{NotHeld}
use Rattle.range_rw.specs.declared.refusals.NotHeld.TheVariants.{Busy, Again, Long, NoNode}
use Rattle.range_rw.specs.declared.scan.Scanned.{Scanned}
use Rattle.range_rw.specs.declared.scan.Scanned.TheVariants.{Found, End, Again as LostExchange, Long as TooLong}
use Rattle.c_handles.specs.Handles.{SaysBy}
use Rattle.range_c.specs.declared.answers.Answer.{Answer}
use Rattle.range_c.specs.declared.answers.Answer.TheVariants.{Done, Refused, NotTried, BadRange, HasOne, HasNone}
use Rattle.range_c.specs.declared.answers.Answer.TheVariants.{Closed, Open, Memory, Seats, Words, NoneLeft, NoWord, Other, BadCut, Ended}
use Rattle.range_c.specs.declared.answers.GzBusy.{GzBusy}

-- the code of a refusal by the lock
abbrev pub refusal_code : NotHeld → ℕ
refusal_code (Busy owner range mode) = 1
refusal_code (Again list place expected found) = 2
refusal_code (Long visits) = 3
refusal_code (NoNode list stuck) = 4

-- the code of what the last call of a scan came to: the end of the last list, a lost exchange or a walk that was too
-- long, as of a refusal; or one node more than there were places
abbrev pub scan_code : Scanned → ℕ
scan_code (Found owner range mode) = 18
scan_code End = 0
scan_code (LostExchange place expected found) = 2
scan_code (TooLong visits) = 3

-- the code of an answer
abbrev pub code_of : Answer → ℕ
code_of Done = 0
code_of (Refused why) = refusal_code why
code_of NotTried = 5
code_of BadRange = 6
code_of HasOne = 7
code_of HasNone = 8
code_of Closed = 9
code_of Open = 10
code_of Memory = 11
code_of Seats = 12
code_of Words = 13
code_of NoneLeft = 14
code_of NoWord = 15
code_of Other = 16
code_of BadCut = 17
code_of (Ended last) = scan_code last

-- a code is that of an answer of which this holds
abbrev pub Says : (Answer → Type 0) → ℕ → Type 0
Says Holds code = SaysBy code_of Holds code

-- the flag of a mode: true is a writer's
abbrev pub is_writer : Mode → Bool
is_writer Reader = false
is_writer Writer = true

-- what C is shown where no range was in conflict
abbrev pub nothing_shown : GzBusy
nothing_shown = record { lo = 0; hi = 0; owner = 0; writer = false }

-- what C is shown of a refusal by the lock
abbrev pub shown_in : NotHeld → GzBusy
shown_in (Busy owner range mode) = record { lo = range.lo; hi = range.hi; owner = owner; writer = is_writer mode }
shown_in _ = nothing_shown

-- what C is shown with an answer
abbrev pub shown_of : Answer → GzBusy
shown_of (Refused why) = shown_in why
shown_of _ = nothing_shown

-- what C is shown of what the seat of a number holds
abbrev pub held_shown : ℕ → Option Held → GzBusy
held_shown number None = record nothing_shown { owner = number }
held_shown number (Some h) = record { lo = h.range.lo; hi = h.range.hi; owner = number; writer = is_writer h.mode }

-- what C is shown of the node that a call of a scan went past
abbrev pub shown_by : Scanned → Option GzBusy
shown_by (Found owner range mode) = Some (record { lo = range.lo; hi = range.hi; owner = owner; writer = is_writer mode })
shown_by _ = None
