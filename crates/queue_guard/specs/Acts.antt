-- The acts of a seat on the queue's words: which step each is, when it may be made, and what the seat knows after it,
-- by the word that it found. A look reads a ticket, then the two ends, and then the ticket again: that no other
-- announcement stood there in between is known by the ticket, which is never drawn twice. This project's own.
use Rattle.std.specs.Prelude.{◌≡◌, ℕ, ◌+◌, ◌-◌, ◌/◌, ◌^◌, ◌<◌, ◌==◌, ◌&&◌, Bool, true, false, if◌then◌else◌, List, slice_index, Option, Some, None}
use Rattle.lock_core.specs.Range.{IsRange}
use Rattle.lock_core.specs.declared.range.Held.{Held}
use Rattle.lock_core.specs.Client.{ClientStep, loads, stores, adds, exchanges}
use Rattle.queue_laws.specs.declared.places.Announcement.{Announcement}
use Rattle.queue_laws.specs.declared.places.Telling.{Telling}
use Rattle.queue_laws.specs.declared.places.Telling.TheVariants.{Silent, Counted, Drawn, Shown}
use Rattle.queue_laws.specs.declared.places.Look.{Look}
use Rattle.queue_laws.specs.declared.places.Look.TheVariants.{At, Clear, Way}
use Rattle.queue_laws.specs.Machine.{conflicts, is_older, past_seat}
use Rattle.queue_guard.specs.declared.passes.Act.{Act}
use Rattle.queue_guard.specs.declared.passes.Act.TheVariants.{Glances, Begins, Notes, ReadsLo, ReadsHi, Judges, WritesLo, WritesHi, Counts, Draws, Shows}
use Rattle.queue_guard.specs.declared.passes.Act.TheVariants.{Hides, Uncounts}
use Rattle.queue_guard.specs.declared.passes.Ends.{Ends}
use Rattle.queue_guard.specs.declared.passes.QueuePass.{QueuePass}
use Rattle.queue_guard.specs.Places.{count_place, next_place, ticket_place, lo_place, hi_place, held_from}

-- no end is known
abbrev pub no_ends : Ends
no_ends = record { lo = None; hi = None }

-- both are
abbrev pub both_ends : ℕ → ℕ → Ends
both_ends lo hi = record { lo = Some lo; hi = Some hi }

abbrev pub is_shown : Telling → Bool
is_shown Silent = false
is_shown Counted = false
is_shown (Drawn ticket) = false
is_shown (Shown a) = true

-- a look that begins, by the count
abbrev pub look_begun : Held → ℕ → Look
look_begun asked count = if count == 0 then Clear asked else At asked 0 None

-- a look at the ticket word of seat k
abbrev pub look_noted : ℕ → Telling → Held → ℕ → ℕ → Look
look_noted seats mine asked k ticket = if ticket == 0 then past_seat seats asked k
    else if is_older ticket mine then At asked k (Some ticket) else past_seat seats asked k

-- a second look at it, behind one at the two ends
abbrev pub look_judged : ℕ → Held → ℕ → ℕ → ℕ → ℕ → ℕ → Look
look_judged seats asked k ticket lo hi again = if (again == ticket) && conflicts asked (held_from lo hi)
    then Way asked k (record { ticket = ticket; held = held_from lo hi }) else past_seat seats asked k

-- what a seat has told after it has tried to draw that ticket
abbrev pub told_drawn : ℕ → ℕ → Telling
told_drawn expected ticket = if ticket == expected then Drawn ticket else Counted

module _ {P : Type 0} where
  abbrev pub with_look : QueuePass P → Look → QueuePass P
  with_look p look = record { seats = p.seats; telling = p.telling; look = look; own = p.own; read = no_ends; begun = p.begun; inner = p.inner }

  abbrev pub with_begun : QueuePass P → Look → QueuePass P
  with_begun p look = record { seats = p.seats; telling = p.telling; look = look; own = p.own; read = no_ends; begun = p.begun + 1; inner = p.inner }

  abbrev pub with_read : QueuePass P → Ends → QueuePass P
  with_read p read = record { seats = p.seats; telling = p.telling; look = p.look; own = p.own; read = read; begun = p.begun; inner = p.inner }

  abbrev pub with_own : QueuePass P → Ends → QueuePass P
  with_own p ends = record { seats = p.seats; telling = p.telling; look = p.look; own = ends; read = p.read; begun = p.begun; inner = p.inner }

  abbrev pub with_telling : QueuePass P → Telling → QueuePass P
  with_telling p telling = record { seats = p.seats; telling = telling; look = p.look; own = p.own; read = p.read; begun = p.begun; inner = p.inner }

  abbrev pub with_inner : QueuePass P → P → QueuePass P
  with_inner p inner =
      record { seats = p.seats; telling = p.telling; look = p.look; own = p.own; read = p.read; begun = p.begun; inner = inner }

  -- the step that an act of seat s is, over these words; with what it holds, and what it knows before and after
  abbrev pub IsAct : List ℕ → ℕ → Option Held → QueuePass P → ClientStep → Act → QueuePass P → Type 0
  IsAct words s held p step Glances q = (step ≡ loads next_place) × (q ≡ p)
  IsAct words s held p step (Begins asked) q = (step ≡ loads count_place) × (held ≡ None)
      × (q ≡ with_begun p (look_begun asked (slice_index words count_place)))
  IsAct words s held p step Notes q = (asked : Held) × (k : ℕ) × (step ≡ loads (ticket_place k)) × (p.look ≡ At asked k None) × (k < p.seats)
      × (q ≡ with_look p (look_noted p.seats p.telling asked k (slice_index words (ticket_place k)))) × (held ≡ None)
  IsAct words s held p step ReadsLo q = (asked : Held) × (k : ℕ) × (ticket : ℕ) × (step ≡ loads (lo_place k))
      × (p.look ≡ At asked k (Some ticket)) × (k < p.seats)
      × (q ≡ with_read p (record { lo = Some (slice_index words (lo_place k)); hi = None }))
  IsAct words s held p step ReadsHi q = (asked : Held) × (k : ℕ) × (ticket : ℕ) × (step ≡ loads (hi_place k))
      × (p.look ≡ At asked k (Some ticket)) × (k < p.seats)
      × (q ≡ with_read p (record { lo = p.read.lo; hi = Some (slice_index words (hi_place k)) }))
  IsAct words s held p step Judges q = (asked : Held) × (k : ℕ) × (ticket : ℕ) × (lo : ℕ) × (hi : ℕ) × (step ≡ loads (ticket_place k))
      × (p.look ≡ At asked k (Some ticket)) × (p.read ≡ both_ends lo hi) × (k < p.seats)
      × (q ≡ with_look p (look_judged p.seats asked k ticket lo hi (slice_index words (ticket_place k)))) × (held ≡ None)
  IsAct words s held p step WritesLo q = (value : ℕ) × (step ≡ stores (lo_place s) value) × (is_shown p.telling ≡ false)
      × (q ≡ with_own p (record { lo = Some value; hi = p.own.hi }))
  IsAct words s held p step WritesHi q = (value : ℕ) × (step ≡ stores (hi_place s) value) × (is_shown p.telling ≡ false)
      × (q ≡ with_own p (record { lo = p.own.lo; hi = Some value }))
  IsAct words s held p step Counts q = (step ≡ adds count_place 1) × (p.telling ≡ Silent) × (q ≡ with_telling p Counted)
  IsAct words s held p step Draws q = (expected : ℕ) × (step ≡ exchanges next_place expected (expected + 1)) × (p.telling ≡ Counted) × (expected < 2 ^ 62)
      × (q ≡ with_telling p (told_drawn expected (slice_index words next_place)))
  IsAct words s held p step Shows q = (ticket : ℕ) × (lo : ℕ) × (hi : ℕ) × (step ≡ stores (ticket_place s) ticket) × (p.telling ≡ Drawn ticket)
      × (p.own ≡ both_ends lo hi) × IsRange lo (hi / 2) × (q ≡ with_telling p (Shown (record { ticket = ticket; held = held_from lo hi })))
  IsAct words s held p step Hides q = (a : Announcement) × (step ≡ stores (ticket_place s) 0) × (p.telling ≡ Shown a) × (q ≡ with_telling p Counted)
  IsAct words s held p step Uncounts q = (step ≡ adds count_place (2 ^ 64 - 1)) × (p.telling ≡ Counted) × (q ≡ with_telling p Silent)
