-- Whose address space a line is of. strace(1) follows children too, and numbers threads as it numbers processes. Lines
-- of clone(2) and its like tell which number is a thread of another, and which has an address space of its own; it
-- begins with the areas of its maker, so the maker's lines up to there are of its past. A child of vfork(2), or with
-- the flag CLONE_VM, has one of its own from its execve(2) on. The kernel gives a number again once it is free: a line
-- is of the last that was made before it. What lines don't tell isn't guessed: a number of which no line tells is of
-- the program, and one whose flags aren't shown is taken for a thread.
use Rattle.std.specs.Prelude.{ℕ, ◌+◌, ◌-◌, List, [], ◌∷◌, ◌++◌, Option, Some, None, Bool, true, false, not, ◌==◌, nat_lt, if◌then◌else◌}
use Rattle.raw_lines.specs.declared.makers.MadeAs.{MadeAs}
use Rattle.raw_lines.specs.declared.makers.MadeAs.TheVariants.{Thread, Shared, Process, Untold}
use Rattle.raw_lines.specs.declared.makers.Making.{Making}
use Rattle.raw_lines.specs.declared.makers.Making.TheVariants.{Makes, Begins, Ends, Execs, Nothing}
use Rattle.raw_logs.specs.declared.spaces.Made.{Made}
use Rattle.raw_logs.specs.declared.spaces.Space.{Space}
use Rattle.raw_logs.specs.declared.told.Told.{Told}

-- ---- who made whom

-- what the second half of a call tells that a process began, where the next that it tells is this, and later ones that
abbrev pub ends : Making → Option ℕ → Option ℕ
ends (Makes kind child) later = None
ends (Begins kind) later = None
ends (Ends child) later = child
ends Execs later = later
ends Nothing later = later

-- the number that the call made which this process began before these lines
abbrev pub ended_by : ℕ → List Told → Option ℕ
ended_by pid [] = None
ended_by pid (told ∷ tolds) = if told.pid == pid then ends told.making (ended_by pid tolds) else ended_by pid tolds

-- the line tells of execve
abbrev pub execs : Making → Bool
execs Execs = true
execs (Makes kind child) = false
execs (Begins kind) = false
execs (Ends child) = false
execs Nothing = false

-- where a process calls execve first, in these lines, the first of which has this place
abbrev pub exec_place : ℕ → ℕ → List Told → Option ℕ
exec_place pid place [] = None
exec_place pid place (told ∷ tolds) =
    if told.pid == pid then (if execs told.making then Some place else exec_place pid (place + 1) tolds) else exec_place pid (place + 1) tolds

-- the link that a call makes at this place, where it made a number, which calls execve there
abbrev pub links : ℕ → ℕ → MadeAs → (ℕ → Option ℕ) → Option ℕ → List Made
links place parent kind exec None = []
links place parent kind exec (Some child) = record { place = place; parent = parent; child = child; kind = kind; exec = exec child } ∷ []

-- the link that a line makes, where the call that it may begin ends so, and numbers call execve there
abbrev pub link_of : ℕ → ℕ → Making → (ℕ → Option ℕ) → Option ℕ → List Made
link_of place pid (Makes kind child) exec later = links place pid kind exec child
link_of place pid (Begins kind) exec later = links place pid kind exec later
link_of place pid (Ends child) exec later = []
link_of place pid Execs exec later = []
link_of place pid Nothing exec later = []

-- who made whom by these lines, the first of which has this place, the latest first
abbrev pub made_from : ℕ → List Told → List Made
made_from place [] = []
made_from place (told ∷ tolds) =
    made_from (place + 1) tolds ++ link_of place told.pid told.making (λ child. exec_place child (place + 1) tolds) (ended_by told.pid tolds)

-- ---- spaces

-- the call of execve, where there is one, isn't behind this place
abbrev pub is_done_at : ℕ → Option ℕ → Bool
is_done_at place None = false
is_done_at place (Some exec) = not (nat_lt place exec)

-- what was made so, and calls execve there, is in a space of its own at this place, and not in its maker's
abbrev pub has_left : MadeAs → Option ℕ → ℕ → Bool
has_left Process exec place = true
has_left Shared exec place = is_done_at place exec
has_left Thread exec place = false
has_left Untold exec place = false

-- the space of a number that the line at this place made, and that has left that of its maker or hasn't
abbrev pub led : Bool → ℕ → Space → Space
led true place maker = record { id = place; made = true }
led false place maker = maker

-- a link made the number
abbrev pub is_made : ℕ → List Made → Bool
is_made pid [] = false
is_made pid (link ∷ earlier) = if link.child == pid then true else is_made pid earlier

-- the link says whose the lines of a number at this place are, before earlier ones: it made it, and not behind them,
-- or it was the first to make it
abbrev pub decides_at : Made → List Made → ℕ → ℕ → Bool
decides_at link earlier place pid =
    if link.child == pid then (if nat_lt place link.place then not (is_made pid earlier) else true) else false

-- the space of a number at a place, by who made whom, the latest first: a thread is of its maker's, and a process that
-- shares it until its execve is too
abbrev pub space_at : List Made → ℕ → ℕ → Space
space_at [] place pid = record { id = pid; made = false }
space_at (link ∷ earlier) place pid =
    if decides_at link earlier place pid then led (has_left link.kind link.exec place) link.place (space_at earlier link.place link.parent)
    else space_at earlier place pid

-- it is the space of the process that the line at a place made
abbrev pub is_born : Space → ℕ → Bool
is_born space place = if space.made then place == space.id else false

-- it is the space of a number that no line made
abbrev pub is_first : Space → ℕ → Bool
is_first space pid = if space.made then false else pid == space.id

-- a process in its own space ends the search there, and goes on with its maker's lines before it was made
abbrev pub before_by : Bool → ℕ → ℕ → Space → Option ℕ → Option ℕ → Option ℕ
before_by true place limit space made shared = if is_born space place then Some limit else made
before_by false place limit space made shared = shared

-- the place before which lines of a space are of the past of a number, by the last link that made it, whose own are
-- before this one
abbrev pub before_in : List Made → ℕ → ℕ → Space → Option ℕ
before_in [] pid limit space = if is_first space pid then Some limit else None
before_in (link ∷ earlier) pid limit space =
    if link.child == pid then before_by (has_left link.kind link.exec limit) link.place limit space (before_in earlier link.parent link.place space)
    (before_in earlier link.parent limit space)
    else before_in earlier pid limit space

-- ---- lines that are written

abbrev pub is_before : ℕ → Option ℕ → Bool
is_before place None = false
is_before place (Some limit) = nat_lt place limit

-- lines of a space at this place are written: those of the program, or of the past of the process that was asked for
abbrev pub of_process : Option ℕ → List Made → ℕ → ℕ → Space → Bool
of_process None made count place space = not space.made
of_process (Some asked) made count place space = is_before place (before_in made asked count space)

-- a line at this place, of so many, is written, or would be if a later one didn't leave it out
abbrev pub has_line : Option ℕ → List Made → ℕ → ℕ → Told → Bool
has_line process made count place told = if told.marked then true else of_process process made count place (space_at made place told.pid)

-- the number has a line
abbrev pub speaks : ℕ → List Told → Bool
speaks pid [] = false
speaks pid (told ∷ tolds) = if told.pid == pid then true else speaks pid tolds

-- how many links made numbers that have no line: they were not followed, or are of another numbering
abbrev pub silent : List Made → List Told → ℕ
silent [] tolds = 0
silent (link ∷ earlier) tolds = if speaks link.child tolds then silent earlier tolds else silent earlier tolds + 1

-- how many links made a number that an earlier one made
abbrev pub twice : List Made → ℕ
twice [] = 0
twice (link ∷ earlier) = if is_made link.child earlier then twice earlier + 1 else twice earlier

-- the number is no new one beside these lines: 0 stands where a line has none, and others speak there or were made
abbrev pub is_known : ℕ → List Made → List Told → Bool
is_known pid made tolds = if 0 == pid then true else if speaks pid tolds then true else is_made pid made

-- how many numbers have lines and were made by no link
abbrev pub unmade : List Made → List Told → ℕ
unmade made [] = 0
unmade made (told ∷ tolds) = if is_known told.pid made tolds then unmade made tolds else unmade made tolds + 1

-- One of these is the program's own. The others may be its threads, or other programs: no line tells.
abbrev pub foreign : ℕ → ℕ
foreign unmade = unmade - 1
