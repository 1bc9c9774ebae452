-- The queue as a pure machine. A seat that was refused counts itself, draws a ticket and shows its announcement. Each
-- seat that is about to try looks first: if nobody is counted it may try at once; otherwise it looks at seat after
-- seat, and gives way to an announcement that is older than its own and conflicts. That a lower ticket comes first
-- follows Lamport's bakery (CACM 1974), in which each thread chooses its own; the rest is this project's own profile.
use Rattle.std.specs.Prelude.{◌≡◌, ℕ, suc, zero, ◌+◌, ◌==◌, ◌&&◌, ◌||◌, nat_lt, nat_le, Bool, true, false, if◌then◌else◌, List, [], ◌∷◌, map, length, replicate}
use Rattle.std.specs.Prelude.{slice_set, Option, Some, None}
use mathlib.Core.Option.{some}
use lib.ListN.{get_elem?}
use Rattle.lock_core.specs.declared.range.Mode.{Mode}
use Rattle.lock_core.specs.declared.range.Mode.TheVariants.{Reader, Writer}
use Rattle.lock_core.specs.declared.range.Held.{Held}
use Rattle.queue_laws.specs.declared.places.Announcement.{Announcement}
use Rattle.queue_laws.specs.declared.places.Telling.{Telling}
use Rattle.queue_laws.specs.declared.places.Telling.TheVariants.{Silent, Counted, Drawn, Shown}
use Rattle.queue_laws.specs.declared.places.Look.{Look}
use Rattle.queue_laws.specs.declared.places.Look.TheVariants.{Idle, At, Clear, Way}
use Rattle.queue_laws.specs.declared.steps.QueueStep.{QueueStep}
use Rattle.queue_laws.specs.declared.steps.QueueStep.TheVariants.{Count, Draw, Show, Hide, Uncount, Begin, Note, Judge, Gain, Give}

-- a seat: what it has told the others, how far its look is, and the range that it holds
pub record Place : Type 0 where
  pub telling : Telling
  pub look : Look
  pub held : Option Held

-- the next ticket, and each seat by its number
pub record Queue : Type 0 where
  pub next : ℕ
  pub places : List Place

abbrev pub is_writer : Mode → Bool
is_writer Reader = false
is_writer Writer = true

-- two ranges overlap, and one at least is a writer's
abbrev pub conflicts : Held → Held → Bool
conflicts g h = nat_lt g.range.lo h.range.hi && nat_lt h.range.lo g.range.hi && (is_writer g.mode || is_writer h.mode)

-- whether a ticket is older than the seat's own, if it has one
abbrev pub is_older : ℕ → Telling → Bool
is_older ticket Silent = true
is_older ticket Counted = true
is_older ticket (Drawn own_ticket) = nat_lt ticket own_ticket
is_older ticket (Shown a) = nat_lt ticket a.ticket

-- a seat that others needn't look for
abbrev pub is_silent : Telling → Bool
is_silent Silent = true
is_silent Counted = false
is_silent (Drawn ticket) = false
is_silent (Shown a) = false

abbrev pub are_silent : List Telling → Bool
are_silent [] = true
are_silent (t ∷ ts) = is_silent t && are_silent ts

-- what seat k has told
abbrev pub telling_at : List Telling → ℕ → Telling
telling_at [] k = Silent
telling_at (t ∷ ts) zero = t
telling_at (t ∷ ts) (suc k) = telling_at ts k

-- a look of so many seats that has passed seat k: it is over behind the last one
abbrev pub past_seat : ℕ → Held → ℕ → Look
past_seat seats asked k = if nat_le seats (k + 1) then Clear asked else At asked (k + 1) None

-- a look that begins: it is over at once if all are silent
abbrev pub begun : List Telling → Held → Look
begun tellings asked = if are_silent tellings then Clear asked else At asked 0 None

-- a look at what seat k has told: an older announcement is noted
abbrev pub noted : ℕ → Telling → Held → ℕ → Telling → Look
noted seats mine asked k (Shown a) = if is_older a.ticket mine then At asked k (Some a.ticket) else past_seat seats asked k
noted seats mine asked k Silent = past_seat seats asked k
noted seats mine asked k Counted = past_seat seats asked k
noted seats mine asked k (Drawn ticket) = past_seat seats asked k

-- the judgement of a noted one: it is passed if it doesn't stand any more, or doesn't conflict
abbrev pub judged : ℕ → Held → ℕ → ℕ → Telling → Look
judged seats asked k ticket (Shown a) = if (a.ticket == ticket) && conflicts asked a.held then Way asked k a else past_seat seats asked k
judged seats asked k ticket Silent = past_seat seats asked k
judged seats asked k ticket Counted = past_seat seats asked k
judged seats asked k ticket (Drawn t) = past_seat seats asked k

-- the line of each step: when a seat at such a place may make it, and its place after it, by the next ticket and what
-- all seats have told. A seat gains the range for which its look is over, gives a range back once it is silent, and
-- looks only while it holds nothing. That a range is free when it is gained is the lock's own promise
abbrev pub IsLine : ℕ → List Telling → Place → QueueStep → Place → Type 0
IsLine next tellings p Count now = (p.telling ≡ Silent) × (now ≡ record p { telling = Counted })
IsLine next tellings p Draw now = (p.telling ≡ Counted) × (now ≡ record p { telling = Drawn next })
IsLine next tellings p (Show held) now = (ticket : ℕ) × (p.telling ≡ Drawn ticket)
    × (now ≡ record p { telling = Shown (record { ticket = ticket; held = held }) })
IsLine next tellings p Hide now = (a : Announcement) × (p.telling ≡ Shown a) × (now ≡ record p { telling = Counted })
IsLine next tellings p Uncount now = (p.telling ≡ Counted) × (now ≡ record p { telling = Silent })
IsLine next tellings p (Begin asked) now = (p.held ≡ None) × (now ≡ record p { look = begun tellings asked })
IsLine next tellings p Note now = (asked : Held) × (k : ℕ) × (p.look ≡ At asked k None)
    × (now ≡ record p { look = noted (length tellings) p.telling asked k (telling_at tellings k) }) × (p.held ≡ None)
IsLine next tellings p Judge now = (asked : Held) × (k : ℕ) × (ticket : ℕ) × (p.look ≡ At asked k (Some ticket))
    × (now ≡ record p { look = judged (length tellings) asked k ticket (telling_at tellings k) }) × (p.held ≡ None)
IsLine next tellings p (Gain held) now = (p.held ≡ None) × (p.look ≡ Clear held) × (now ≡ record p { held = Some held })
IsLine next tellings p Give now = (held : Held) × (p.held ≡ Some held) × (p.telling ≡ Silent) × (now ≡ record p { look = Idle; held = None })

-- a drawn ticket is the next one
abbrev pub next_after : ℕ → QueueStep → ℕ
next_after next Draw = next + 1
next_after next Count = next
next_after next (Show held) = next
next_after next Hide = next
next_after next Uncount = next
next_after next (Begin asked) = next
next_after next Note = next
next_after next Judge = next
next_after next (Gain held) = next
next_after next Give = next

abbrev pub told_by : Place → Telling
told_by p = p.telling

-- what all seats have told
abbrev pub tellings_in : Queue → List Telling
tellings_in q = map told_by q.places

-- a step of seat s leads from one state to the other: by its line, and nobody else's place changes
pub record IsMove (q : Queue) (s : ℕ) (step : QueueStep) (r : Queue) : Type 0 where
  pub was : Place
  pub stood : get_elem? q.places s ≡ some was
  pub now : Place
  pub line : IsLine q.next (tellings_in q) was step now
  pub places : r.places ≡ slice_set q.places s now
  pub next : r.next ≡ next_after q.next step

-- a run of steps, each with its seat, leads from one state to the other
abbrev pub IsRun : Queue → List (ℕ × QueueStep) → Queue → Type 0
IsRun q [] r = q ≡ r
IsRun q (t ∷ ts) r = (m : Queue) × IsMove q t.0 t.1 m × IsRun m ts r

-- so many seats before any step; tickets are counted from 1, so that a word of 0 may stand for none
abbrev pub start : ℕ → Queue
start seats = record { next = 1; places = replicate seats (record { telling = Silent; look = Idle; held = None }) }
