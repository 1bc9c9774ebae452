-- Steps on client words, which are the words that the layer above the lock keeps in the lock's table, and the moments
-- at which they are made. The definitions speak of the held ranges, the client words and what each seat knows, and
-- never of how a lock keeps its ranges; so every lock that meets them serves the same layer above. They are this
-- project's own.
use Rattle.std.specs.Prelude.{◌≡◌, ℕ, ◌+◌, ◌%◌, ◌^◌, ◌<◌, List, length, slice_index, slice_set, ◌==◌, Option}
use mathlib.Core.Option.{some}
use lib.ListN.{get_elem?}
use prog.Atomic.{either}
use Rattle.lock_core.specs.declared.range.Held.{Held}
use Rattle.lock_core.specs.Grants.{Grants, IsExclusive}

-- one atomic step on the client word of a place: a load, a store of a value, a wrapping addition, or an exchange of
-- an expected value for a new one
pub data ClientStep : Type 0 where
  loads : ℕ → ClientStep
  stores : ℕ → ℕ → ClientStep
  adds : ℕ → ℕ → ClientStep
  exchanges : ℕ → ℕ → ℕ → ClientStep

-- the client word that a step is made on
abbrev pub place_of : ClientStep → ℕ
place_of (loads i) = i
place_of (stores i value) = i
place_of (adds i by) = i
place_of (exchanges i expected new) = i

-- the client words after a step
abbrev pub words_after : List ℕ → ClientStep → List ℕ
words_after words (loads i) = words
words_after words (stores i value) = slice_set words i value
words_after words (adds i by) = slice_set words i ((slice_index words i + by) % 2 ^ 64)
words_after words (exchanges i expected new) = slice_set words i (either (slice_index words i == expected) new (slice_index words i))

module _ {P : Type 0} (holds : Grants → List ℕ → List P → Type 0) where
  -- a moment of the running table, at which the seat of that number holds that range and has that pass
  pub record Moment (seat : ℕ) (held : Option Held) (pass : P) (grants : Grants) (words : List ℕ) (passes : List P) : Type 0 where
    pub met : holds grants words passes
    pub exclusive : IsExclusive grants
    pub grant : get_elem? grants seat ≡ some held
    pub own : get_elem? passes seat ≡ some pass

  module _ {N : Type 0} (allows : Grants → List ℕ → List P → ℕ → ClientStep → N → P → Type 0) (note : N) where
    -- the guard allows the seat this step, with what the caller means by it, at every such moment
    abbrev pub IsAllowed : ℕ → Option Held → P → ClientStep → Type 0
    IsAllowed seat held pass step = (grants : Grants) (words : List ℕ) (passes : List P) → Moment seat held pass grants words passes
        → place_of step < length words → slice_index words (place_of step) < 2 ^ 64 → (after : P) × allows grants words passes seat step note after

    -- the step was made at one such moment, found that value, and left a pass that the guard gives there
    abbrev pub IsMade : ℕ → Option Held → P → ClientStep → ℕ → P → Type 0
    IsMade seat held pass step found after = (grants : Grants) × (words : List ℕ) × (passes : List P) × Moment seat held pass grants words passes
        × (slice_index words (place_of step) ≡ found) × allows grants words passes seat step note after
