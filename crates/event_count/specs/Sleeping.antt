-- What a sleep is: turns that each find the event word as it was seen, and one that finds it changed, or the deadline
-- come. The kernel's own look at the word, when it puts a thread to sleep (futex(2)), is no step of these lists.
use Rattle.std.specs.Prelude.{◌≡◌, ◌≢◌, ℕ, ◌<◌, ◌≤◌, List, [], ◌∷◌, ◌++◌, replicate, Option, Some, None}
use Rattle.std.specs.Time.{instant_nanos}
use Rattle.std.specs.declared.time.Instant.{Instant}
use Rattle.event_count.specs.declared.records.EventStep.{EventStep}
use Rattle.event_count.specs.declared.records.EventStep.TheVariants.{Read, Left}
use Rattle.event_count.specs.declared.sleeping.Slept.{Slept}
use Rattle.event_count.specs.declared.sleeping.Slept.TheVariants.{Advanced, Late, NoClock}

-- so many turns, each a load that found the event word as it was seen
abbrev pub IsAsleep : ℕ → ℕ → List EventStep → List EventStep → Type 0
IsAsleep seen turns before after = after ≡ before ++ replicate turns (Read seen)

-- turns, and then a load that found another number
abbrev pub Dozes : ℕ → List EventStep → ℕ → List EventStep → Type 0
Dozes seen before found after = (mid : List EventStep) × (turns : ℕ) × IsAsleep seen turns before mid × (found ≢ seen)
    × (after ≡ mid ++ Read found ∷ [])

-- at least one turn
abbrev pub DozesInVain : ℕ → List EventStep → List EventStep → Type 0
DozesInVain seen before after = (turns : ℕ) × (0 < turns) × IsAsleep seen turns before after

-- the same with a deadline, which a reading of the clock had reached where it came first
abbrev pub DozesUntil : ℕ → Instant → List EventStep → Slept → List EventStep → Type 0
DozesUntil seen deadline before (Advanced found) after = Dozes seen before found after
DozesUntil seen deadline before (Late now) after = (instant_nanos deadline ≤ instant_nanos now) × DozesInVain seen before after
DozesUntil seen deadline before NoClock after = DozesInVain seen before after

-- it dozed, and then counted itself out, which it was not before
abbrev pub Sleeps : ℕ → List EventStep → ℕ → List EventStep → Type 0
Sleeps seen before found after = (woken : List EventStep) × (n : ℕ) × Dozes seen before found woken × (0 < n) × (after ≡ woken ++ Left n ∷ [])

abbrev pub SleepsUntil : ℕ → Instant → List EventStep → Slept → List EventStep → Type 0
SleepsUntil seen deadline before slept after = (woken : List EventStep) × (n : ℕ) × DozesUntil seen deadline before slept woken × (0 < n)
    × (after ≡ woken ++ Left n ∷ [])

-- one turn: one load, which found the number seen unless the word has changed
abbrev pub Turns : ℕ → Instant → List EventStep → Option Slept → List EventStep → Type 0
Turns seen deadline before None after = after ≡ before ++ Read seen ∷ []
Turns seen deadline before (Some (Advanced found)) after = (found ≢ seen) × (after ≡ before ++ Read found ∷ [])
Turns seen deadline before (Some (Late now)) after = (instant_nanos deadline ≤ instant_nanos now) × (after ≡ before ++ Read seen ∷ [])
Turns seen deadline before (Some NoClock) after = after ≡ before ++ Read seen ∷ []
