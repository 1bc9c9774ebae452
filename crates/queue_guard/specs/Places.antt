-- Where the words of the queue stand among the client words. The count and the next ticket have a line of memory each,
-- and so has each seat; the first line has a word that no step changes, since the lock's own words end in front of it.
-- This project's own.
use Rattle.std.specs.Prelude.{ℕ, ◌+◌, ◌*◌, ◌/◌}
use Rattle.lock_core.specs.declared.range.Held.{Held}
use Rattle.lock_core.specs.Words.{mode_of}
use Rattle.lock_core.specs.Client.{ClientStep, loads, stores, adds, exchanges}

-- how many seats the table has
abbrev pub seats_place : ℕ
seats_place = 0

-- how many of them are counted
abbrev pub count_place : ℕ
count_place = 8

-- the next ticket
abbrev pub next_place : ℕ
next_place = 16

-- of seat k: its ticket, or 0; the lower end of its range; its higher end with the mode, as in the lock's own words
abbrev pub ticket_place : ℕ → ℕ
ticket_place k = 24 + 8 * k

abbrev pub lo_place : ℕ → ℕ
lo_place k = 25 + 8 * k

abbrev pub hi_place : ℕ → ℕ
hi_place k = 26 + 8 * k

-- how many words the queue has; the words of the guard behind it follow
abbrev pub queue_words : ℕ
queue_words = 152

-- a step of the guard behind the queue, on the words that all share
abbrev pub behind : ClientStep → ClientStep
behind (loads i) = loads (queue_words + i)
behind (stores i value) = stores (queue_words + i) value
behind (adds i by) = adds (queue_words + i) by
behind (exchanges i expected new) = exchanges (queue_words + i) expected new

-- the range and the mode of two words
abbrev pub held_from : ℕ → ℕ → Held
held_from lo hi = record { range = record { lo = lo; hi = hi / 2 }; mode = mode_of hi }
