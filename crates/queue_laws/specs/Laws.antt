-- The laws of the queue. Bounded overtaking is a sentence of safety: it says which grants can't come before that of a
-- seat that waits, and not that the seat is ever granted its range. It speaks of a moment at which an announcement
-- stands, and of the steps after it for as long as it stands. This project's own.
use Rattle.std.specs.Prelude.{◌≡◌, ◌↔◌, ℕ, ◌+◌, ◌≤◌, ◌==◌, ◌&&◌, ◌||◌, nat_lt, not, Bool, true, false, if◌then◌else◌, List, [], ◌∷◌, length}
use Rattle.std.specs.Prelude.{Option, Some, None, is_none}
use mathlib.Core.Option.{some}
use lib.ListN.{get_elem?}
use Rattle.view_lists.specs.Counted.{times}
use Rattle.lock_core.specs.Grants.{Conflicts}
use Rattle.lock_core.specs.declared.range.Held.{Held}
use Rattle.queue_laws.specs.declared.places.Announcement.{Announcement}
use Rattle.queue_laws.specs.declared.places.Telling.{Telling}
use Rattle.queue_laws.specs.declared.places.Telling.TheVariants.{Silent, Counted, Drawn, Shown}
use Rattle.queue_laws.specs.declared.places.Look.{Look}
use Rattle.queue_laws.specs.declared.places.Look.TheVariants.{Idle, At, Clear, Way}
use Rattle.queue_laws.specs.declared.steps.QueueStep.{QueueStep}
use Rattle.queue_laws.specs.declared.steps.QueueStep.TheVariants.{Count, Draw, Show, Hide, Uncount, Begin, Note, Judge, Gain, Give}
use Rattle.queue_laws.specs.Machine.{Place, Queue, IsLine, IsRun, start, conflicts, telling_at}

-- the announcement of that seat stands
pub record IsShown (q : Queue) (seat : ℕ) (a : Announcement) : Type 0 where
  pub place : Place
  pub stood : get_elem? q.places seat ≡ some place
  pub told : place.telling ≡ Shown a

-- a step takes an announcement back
abbrev pub is_hide : QueueStep → Bool
is_hide Hide = true
is_hide Count = false
is_hide Draw = false
is_hide (Show held) = false
is_hide Uncount = false
is_hide (Begin asked) = false
is_hide Note = false
is_hide Judge = false
is_hide (Gain held) = false
is_hide Give = false

-- none of these steps takes that seat's announcement back, so it stands in each state of the run
abbrev pub Keeps : ℕ → List (ℕ × QueueStep) → Type 0
Keeps seat [] = Unit {0}
Keeps seat (t ∷ ts) = ((t.0 == seat) && is_hide t.1 ≡ false) × Keeps seat ts

-- a step grants a range that conflicts with this one
abbrev pub is_gain_against : Held → QueueStep → Bool
is_gain_against held (Gain h) = conflicts h held
is_gain_against held Count = false
is_gain_against held Draw = false
is_gain_against held (Show h) = false
is_gain_against held Hide = false
is_gain_against held Uncount = false
is_gain_against held (Begin h) = false
is_gain_against held Note = false
is_gain_against held Judge = false
is_gain_against held Give = false

-- the other seats to which these steps grant ranges that conflict with this one, one for each grant, in order
abbrev pub overtakers : ℕ → Held → List (ℕ × QueueStep) → List ℕ
overtakers seat held [] = []
overtakers seat held (t ∷ ts) = if not (t.0 == seat) && is_gain_against held t.1 then t.0 ∷ overtakers seat held ts else overtakers seat held ts

-- a seat has an older ticket than this
abbrev pub has_older : ℕ → Telling → Bool
has_older ticket Silent = false
has_older ticket Counted = false
has_older ticket (Drawn t) = nat_lt t ticket
has_older ticket (Shown a) = nat_lt a.ticket ticket

-- a look has noted another ticket than this
abbrev pub has_other : ℕ → Option ℕ → Bool
has_other ticket None = false
has_other ticket (Some t) = not (t == ticket)

-- a look for a range that conflicts with the announcement of that seat has looked at what stood there before
abbrev pub has_looked : ℕ → Announcement → Look → Bool
has_looked seat a Idle = false
has_looked seat a (At asked k seen) = (nat_lt seat k || ((k == seat) && has_other a.ticket seen)) && conflicts asked a.held
has_looked seat a (Clear asked) = conflicts asked a.held
has_looked seat a (Way asked k met) = false

-- who may overtake the announcement of a seat that stands: one that holds nothing, and has an older ticket or had
-- looked before
abbrev pub may_overtake : ℕ → Announcement → Place → Bool
may_overtake seat a p = is_none p.held && (has_older a.ticket p.telling || has_looked seat a p.look)

-- a moment of a run at which the announcement of a seat stands, and further steps for as long as it stands
pub record Waits (seats : ℕ) (q r : Queue) (seat : ℕ) (a : Announcement) (steps : List (ℕ × QueueStep)) : Type 0 where
  pub before : List (ℕ × QueueStep)
  pub came : IsRun (start seats) before q
  pub shown : IsShown q seat a
  pub goes : IsRun q steps r
  pub keeps : Keeps seat steps

-- each other seat overtakes it at most once, and only if it might at that moment
abbrev pub OvertakesOnce : Type 0
OvertakesOnce = (seats : ℕ) (q r : Queue) (seat : ℕ) (a : Announcement) (steps : List (ℕ × QueueStep)) → Waits seats q r seat a steps
    → (other : ℕ) (p : Place) → get_elem? q.places other ≡ some p
    → times other (overtakers seat a.held steps) ≤ (if may_overtake seat a p then 1 else 0)

-- so at most as many conflicting ranges are granted as there are other seats
abbrev pub OvertakesFew : Type 0
OvertakesFew = (seats : ℕ) (q r : Queue) (seat : ℕ) (a : Announcement) (steps : List (ℕ × QueueStep)) → Waits seats q r seat a steps
    → length (overtakers seat a.held steps) + 1 ≤ seats

-- the machine's test for a conflict
abbrev pub ConflictsAreExact : Type 0
ConflictsAreExact = (g h : Held) → (conflicts g h ≡ true) ↔ Conflicts g h

-- a seat that gives way by a step gives way to what stands
abbrev pub GivesWayToWhatStands : Type 0
GivesWayToWhatStands = (next : ℕ) (tellings : List Telling) (p now : Place) (asked : Held) (k : ℕ) (a : Announcement)
    → IsLine next tellings p Judge now → now.look ≡ Way asked k a
    → (telling_at tellings k ≡ Shown a) × Conflicts asked a.held
