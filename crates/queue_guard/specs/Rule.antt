-- The rule of the queue's words, and the guard that has it beside another guard's rule. The count is how many seats
-- have told something, the next ticket is above all tickets, the words of a seat are what it has told, and what a seat
-- has read of an announcement is so for as long as that stands. This project's own.
use Rattle.std.specs.Prelude.{◌≡◌, ◌≢◌, ℕ, ◌^◌, ◌<◌, ◌≤◌, if◌then◌else◌, List, length, map, drop, slice_index, sum_by, Option, Some}
use mathlib.Core.Option.{some}
use lib.ListN.{get_elem?}
use Rattle.lock_core.specs.Range.{IsRange}
use Rattle.lock_core.specs.Grants.{Grants}
use Rattle.lock_core.specs.declared.range.Held.{Held}
use Rattle.lock_core.specs.Client.{ClientStep}
use Rattle.queue_laws.specs.declared.places.Telling.{Telling}
use Rattle.queue_laws.specs.declared.places.Telling.TheVariants.{Silent, Counted, Drawn, Shown}
use Rattle.queue_laws.specs.declared.places.Look.TheVariants.{Idle, At}
use Rattle.queue_laws.specs.Machine.{is_silent}
use Rattle.queue_guard.specs.declared.passes.Ends.{Ends}
use Rattle.queue_guard.specs.declared.passes.QueuePass.{QueuePass}
use Rattle.queue_guard.specs.declared.passes.Doing.{Doing}
use Rattle.queue_guard.specs.declared.passes.Doing.TheVariants.{Queue, Inner}
use Rattle.queue_guard.specs.Places.{seats_place, count_place, next_place, ticket_place, lo_place, hi_place, queue_words, behind, held_from}
use Rattle.queue_guard.specs.Acts.{IsAct, no_ends, both_ends, with_inner}

-- the word in which a seat shows its ticket
abbrev pub ticket_word : Telling → ℕ
ticket_word Silent = 0
ticket_word Counted = 0
ticket_word (Drawn ticket) = 0
ticket_word (Shown a) = a.ticket

-- a seat has this ticket
abbrev pub HasTicket : Telling → ℕ → Type 0
HasTicket Silent n = ⊥
HasTicket Counted n = ⊥
HasTicket (Drawn t) n = t ≡ n
HasTicket (Shown a) n = a.ticket ≡ n

-- what was read is what stands there
abbrev pub IsOf : Ends → Ends → Type 0
IsOf read stands = ((v : ℕ) → read.lo ≡ Some v → stands.lo ≡ Some v) × ((v : ℕ) → read.hi ≡ Some v → stands.hi ≡ Some v)

-- so it is while that ticket is shown, and nobody has it otherwise
abbrev pub Fits : ℕ → Ends → Telling → Ends → Type 0
Fits ticket read Silent stands = Unit {0}
Fits ticket read Counted stands = Unit {0}
Fits ticket read (Drawn t) stands = t ≢ ticket
Fits ticket read (Shown a) stands = a.ticket ≡ ticket → IsOf read stands

-- an announcement that stands says what its two words say
abbrev pub IsTold : Telling → Ends → Type 0
IsTold Silent ends = Unit {0}
IsTold Counted ends = Unit {0}
IsTold (Drawn t) ends = Unit {0}
IsTold (Shown a) ends = (lo : ℕ) × (hi : ℕ) × (ends ≡ both_ends lo hi) × (a.held ≡ held_from lo hi) × IsRange lo (a.held.range.hi)

module _ {P : Type 0} where
  -- 1 for a seat that has told something
  abbrev pub counts : QueuePass P → ℕ
  counts p = if is_silent p.telling then 0 else 1

  abbrev pub inner_of : QueuePass P → P
  inner_of p = p.inner

  -- the words of seat k are what it knows of them
  pub record IsPart (words : List ℕ) (k : ℕ) (p : QueuePass P) : Type 0 where
    pub ticket : slice_index words (ticket_place k) ≡ ticket_word p.telling
    pub drawn : (n : ℕ) → HasTicket p.telling n → (1 ≤ n) × (n < slice_index words next_place)
    pub lo : (v : ℕ) → p.own.lo ≡ Some v → slice_index words (lo_place k) ≡ v
    pub hi : (v : ℕ) → p.own.hi ≡ Some v → slice_index words (hi_place k) ≡ v
    pub told : IsTold p.telling p.own

  -- what a seat has read of an announcement that it noted
  abbrev pub IsRead : List ℕ → List (QueuePass P) → QueuePass P → Type 0
  IsRead words passes p = (asked : Held) (j ticket : ℕ) → p.look ≡ At asked j (Some ticket)
      → (1 ≤ ticket) × (ticket < slice_index words next_place) × ((x : QueuePass P) → get_elem? passes j ≡ some x → Fits ticket p.read x.telling x.own)

  pub record IsQueue (words : List ℕ) (passes : List (QueuePass P)) : Type 0 where
    pub wide : queue_words ≤ length words
    pub few : length passes ≤ 16
    pub seats : (k : ℕ) (p : QueuePass P) → get_elem? passes k ≡ some p → p.seats ≡ length passes
    pub count : slice_index words count_place ≡ sum_by counts passes
    pub first : 1 ≤ slice_index words next_place
    pub last : slice_index words next_place ≤ 2 ^ 62
    pub parts : (k : ℕ) (p : QueuePass P) → get_elem? passes k ≡ some p → IsPart words k p
    pub reads : (k : ℕ) (p : QueuePass P) → get_elem? passes k ≡ some p → IsRead words passes p

  -- what a seat knows before its first step
  abbrev pub new_pass : ℕ → P → QueuePass P
  new_pass seats inner = record { seats = seats; telling = Silent; look = Idle; own = no_ends; read = no_ends; begun = 0; inner = inner }

  abbrev pub first_pass : (List ℕ → ℕ → P) → List ℕ → ℕ → QueuePass P
  first_pass first words seat = new_pass (slice_index words seats_place) (first (drop queue_words words) seat)

  -- the rule: the queue's, and that of the guard behind it over its own words
  abbrev pub HasQueue : (Grants → List ℕ → List P → Type 0) → Grants → List ℕ → List (QueuePass P) → Type 0
  HasQueue holds grants words passes = IsQueue words passes × holds grants (drop queue_words words) (map inner_of passes)

  -- a seat that gives its range back has told nothing, and its look is used up
  abbrev pub rested_pass : (P → P) → QueuePass P → QueuePass P
  rested_pass rested p = record { seats = p.seats; telling = p.telling; look = Idle; own = p.own; read = no_ends; begun = p.begun; inner = rested p.inner }

  abbrev pub is_resting : (P → Type 0) → QueuePass P → Type 0
  is_resting is_at_rest p = (p.telling ≡ Silent) × is_at_rest p.inner

  module _ {N : Type 0} (allows : Grants → List ℕ → List P → ℕ → ClientStep → N → P → Type 0) where
    -- what a seat may do: an act on the queue's words, or a step of the guard behind it on its own
    abbrev pub IsAllowedBy : Grants → List ℕ → List (QueuePass P) → ℕ → ClientStep → Doing N → QueuePass P → Type 0
    IsAllowedBy grants words passes seat step (Queue act) after = (p : QueuePass P) × (get_elem? passes seat ≡ some p) × (held : Option Held)
        × (get_elem? grants seat ≡ some held) × IsAct words seat held p step act after
    IsAllowedBy grants words passes seat step (Inner note) after = (p : QueuePass P) × (get_elem? passes seat ≡ some p) × (by : ClientStep) × (step ≡ behind by)
        × (inner : P) × allows grants (drop queue_words words) (map inner_of passes) seat by note inner
        × (after ≡ with_inner p inner)
