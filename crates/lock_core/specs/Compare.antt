-- What a seat makes of an unmarked node that it meets: goes on past it, stops before it, or finds it in conflict. A
-- seat that fills a node compares by the order of the list; a seat whose node is linked validates, a reader forward
-- from its own node and a writer from the head up to its own node; every other seat only passes. The order of ranges
-- and both validations follow Kogan, Dice and Issa 2020; that readers stand by their lower ends is this project's own
-- profile.
use Rattle.std.specs.Prelude.{ℕ, ◌/◌, ◌&&◌, nat_lt, nat_le, Bool, true, false, if◌then◌else◌, Option, Some}
use Rattle.lock_core.specs.Range.{Interval}
use Rattle.lock_core.specs.declared.range.Mode.{Mode}
use Rattle.lock_core.specs.declared.range.Mode.TheVariants.{Reader, Writer}
use Rattle.lock_core.specs.declared.views.Todo.{Todo}
use Rattle.lock_core.specs.declared.views.Todo.TheVariants.{Forward, FromHead, Done}
use Rattle.lock_core.specs.declared.views.Own.{Own}
use Rattle.lock_core.specs.declared.views.Own.TheVariants.{Nothing, Filling, Linked}
use Rattle.lock_core.specs.declared.compare.Verdict.{Verdict}
use Rattle.lock_core.specs.declared.compare.Verdict.TheVariants.{Past, Stop, Conflict}
use Rattle.lock_core.specs.Words.{mode_of}

abbrev pub is_reader : Mode → Bool
is_reader Reader = true
is_reader Writer = false

-- the compare rule of a walk for a range from lo to hi of this mode, at a node with this lo word and this hi word
abbrev pub compared : Mode → ℕ → ℕ → ℕ → ℕ → Verdict
compared mode lo hi node_lo word =
    if nat_le (word / 2) lo then Past
    else if is_reader mode && is_reader (mode_of word) && nat_lt node_lo lo then Past
    else if nat_le hi node_lo then Stop
    else if is_reader mode && is_reader (mode_of word) && nat_le lo node_lo then Stop
    else Conflict

-- a reader validates forward: it stops at a node that starts at its end or later, and an overlapping writer is in
-- conflict
abbrev pub forward : Interval → ℕ → ℕ → Verdict
forward range node_lo word =
    if nat_le range.hi node_lo then Stop
    else if is_reader (mode_of word) then Past
    else if nat_lt range.lo (word / 2) then Conflict
    else Past

-- a writer validates from the head: every overlapping node is in conflict
abbrev pub from_head : Interval → ℕ → ℕ → Verdict
from_head range node_lo word = if nat_lt range.lo (word / 2) && nat_lt node_lo range.hi then Conflict else Past

abbrev pub validated : Todo → Interval → ℕ → ℕ → Verdict
validated Forward range node_lo word = forward range node_lo word
validated FromHead range node_lo word = from_head range node_lo word
validated Done range node_lo word = Past

abbrev pub walked_past : Option ℕ → Option ℕ → Mode → ℕ → ℕ → Verdict
walked_past (Some lo) (Some hi) mode node_lo word = compared mode lo hi node_lo word
walked_past _ _ mode node_lo word = Conflict

-- what the owner of this own node makes of a node with this lo word and this hi word
abbrev pub verdict_of : Own → ℕ → ℕ → Verdict
verdict_of Nothing node_lo word = Past
verdict_of (Filling node lo hi mode aimed) node_lo word = walked_past lo hi mode node_lo word
verdict_of (Linked node range mode todo) node_lo word = validated todo range node_lo word
