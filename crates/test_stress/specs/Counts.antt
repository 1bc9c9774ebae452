-- How the program counts: one more each time, and no further at the end of a word. Of the tries one count grows, that
-- of their answer, and the others stay. This is the program's own.
use Rattle.std.specs.Prelude.{ℕ, ◌≡◌, ◌⊎◌, ◌+◌, ◌-◌, ◌^◌, min}
use Rattle.range_rw.specs.declared.refusals.NotHeld.{NotHeld}
use Rattle.range_rw.specs.declared.refusals.NotHeld.TheVariants.{Busy, Again, Long, NoNode}
use Rattle.test_stress.specs.declared.counts.Tries.{Tries}

-- the count after so many more
abbrev pub more_by : ℕ → ℕ → ℕ
more_by more count = min (count + more) (2 ^ 64 - 1)

-- the count after one more
abbrev pub one_more : ℕ → ℕ
one_more count = min (count + 1) (2 ^ 64 - 1)

-- after a try that held its range
abbrev pub after_held : Tries → Tries
after_held t = record t { held = one_more t.held }

-- after a try that was refused, by its cause
abbrev pub after_refusal : NotHeld → Tries → Tries
after_refusal (Busy owner range mode) t = record t { busy = one_more t.busy }
after_refusal (Again list place expected found) t = record t { again = one_more t.again }
after_refusal (Long visits) t = record t { long = one_more t.long }
after_refusal (NoNode list stuck) t = record t { no_node = one_more t.no_node }

-- one try was counted, by its answer
abbrev pub CountsOneTry : Tries → Tries → Type 0
CountsOneTry before after = (after ≡ after_held before) ⊎ ((why : NotHeld) × (after ≡ after_refusal why before))

-- the counts of both
abbrev pub together : Tries → Tries → Tries
together a b = record {
  held = more_by b.held a.held;
  busy = more_by b.busy a.busy;
  again = more_by b.again a.again;
  long = more_by b.long a.long;
  no_node = more_by b.no_node a.no_node;
}
