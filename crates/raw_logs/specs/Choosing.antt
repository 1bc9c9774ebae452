-- Which lines of a log are written. Those of another space are left out; and since execve(2) gives a process a new
-- address space, so are the lines before the last one of those that are left which tells of it. What is left out is
-- counted by its cause, and the first line whose beginning isn't known has its number kept.
use Rattle.std.specs.Prelude.{ℕ, ◌+◌, List, [], ◌∷◌, length, Option, Some, None, Bool, true, false, if◌then◌else◌}
use Rattle.raw_lines.specs.declared.makers.MadeAs.{MadeAs}
use Rattle.raw_lines.specs.declared.makers.MadeAs.TheVariants.{Thread, Shared, Process, Untold as NotShown}
use Rattle.raw_lines.specs.declared.makers.Making.{Making}
use Rattle.raw_lines.specs.declared.makers.Making.TheVariants.{Makes, Begins, Ends, Execs, Nothing}
use Rattle.raw_logs.specs.declared.counts.Counts.{Counts}
use Rattle.raw_logs.specs.declared.counts.Sort.TheVariants.{Elsewhere, Earlier, Unknown as OfUnknown, Long as OfLong, Untold}
use Rattle.raw_logs.specs.declared.fault.LogFault.{LogFault}
use Rattle.raw_logs.specs.declared.fault.LogFault.TheVariants.{LongLine, NoProcess}
use Rattle.raw_logs.specs.declared.told.Form.{Form}
use Rattle.raw_logs.specs.declared.told.Form.TheVariants.{Blank, Unknown, Long, TooLong, Whole}
use Rattle.raw_logs.specs.declared.told.Told.{Told}
use Rattle.raw_logs.specs.Counting.{within_32_bits, no_counts, one_more_of}
use Rattle.raw_logs.specs.Log.{Numbered}
use Rattle.raw_logs.specs.Spaces.{execs, made_from, has_line, speaks, silent, twice, unmade, foreign}

-- what is picked of lines
pub record Picked : Type 0 where
  -- the lines that are written
  pub lines : List Numbered
  -- how many are not, by cause
  pub counts : Counts
  -- one of those that are written tells of execve: what stands before it isn't
  pub ended : Bool
  -- the first line whose beginning isn't known
  pub unknown : Option ℕ
  -- the first line of a call of the profile that is longer than a line may be
  pub too_long : Option ℕ

abbrev pub nothing_picked : Picked
nothing_picked = record { lines = []; counts = no_counts; ended = false; unknown = None; too_long = None }

-- the flags aren't shown
abbrev pub isnt_shown : MadeAs → Bool
isnt_shown NotShown = true
isnt_shown Thread = false
isnt_shown Shared = false
isnt_shown Process = false

-- the line makes a number, or begins to, and doesn't show as what
abbrev pub hides : Making → Bool
hides (Makes kind None) = false
hides (Makes kind (Some child)) = isnt_shown kind
hides (Begins kind) = isnt_shown kind
hides (Ends child) = false
hides Execs = false
hides Nothing = false

-- a line of the space, before these; one that is too long to be written still tells of execve
abbrev pub with_own : Form → Numbered → Making → Picked → Picked
with_own Blank line making p = p
with_own Unknown line making p = record p { counts = one_more_of OfUnknown p.counts; unknown = Some line.number }
with_own Long line making p = record p { counts = one_more_of OfLong p.counts; ended = execs making }
with_own TooLong line making p = record p { too_long = Some line.number }
with_own Whole line making p =
    record p { lines = line ∷ p.lines; counts = if hides making then one_more_of Untold p.counts else p.counts; ended = execs making }

abbrev pub is_blank : Form → Bool
is_blank Blank = true
is_blank Unknown = false
is_blank Long = false
is_blank TooLong = false
is_blank Whole = false

-- a line more, before these
abbrev pub with_line : Bool → Numbered → Told → Picked → Picked
with_line here line told p =
    if is_blank told.form then p
    else if here then (if p.ended then record p { counts = one_more_of Earlier p.counts } else with_own told.form line told.making p)
    else record p { counts = one_more_of Elsewhere p.counts }

-- what is picked of lines, the first of which has this place, where those of the space are told
abbrev pub picked : (ℕ → Told → Bool) → ℕ → List Numbered → List Told → Picked
picked here place [] tolds = nothing_picked
picked here place (line ∷ lines) [] = nothing_picked
picked here place (line ∷ lines) (told ∷ tolds) = with_line (here place told) line told (picked here (place + 1) lines tolds)

-- what is picked, with how many numbers were made that have no line, how many others have, and how many were made
-- twice
abbrev pub with_numbers : ℕ → ℕ → ℕ → Picked → Picked
with_numbers m n again p = record p { counts = record (p.counts) { silent = m; foreign = foreign n; twice = again } }

-- what is picked of a log
abbrev pub picked_of : Option ℕ → List Numbered → List Told → Picked
picked_of process lines tolds =
    with_numbers (within_32_bits (silent (made_from 0 tolds) tolds)) (within_32_bits (unmade (made_from 0 tolds) tolds))
    (within_32_bits (twice (made_from 0 tolds))) (picked (has_line process (made_from 0 tolds) (length tolds)) 0 lines tolds)

-- a line is too long
abbrev pub long_fault : Option ℕ → Option LogFault
long_fault None = None
long_fault (Some number) = Some (LongLine number)

-- why nothing is written of a log: the process that was asked for has no line, or one of its lines is too long
abbrev pub fault_of : Option ℕ → List Told → Option ℕ → Option LogFault
fault_of None tolds too_long = long_fault too_long
fault_of (Some asked) tolds too_long = if speaks asked tolds then long_fault too_long else Some NoProcess
