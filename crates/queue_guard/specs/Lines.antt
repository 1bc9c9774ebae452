-- Each act is a line of the queue's machine, or leaves what the others see of its seat. So a table whose client words
-- have this guard makes the machine's steps, and its laws hold of what its seats do. This project's own.
use Rattle.std.specs.Prelude.{◌≡◌, ℕ, List, map, slice_index, Option, ◌⊎◌}
use mathlib.Core.Option.{some}
use lib.ListN.{get_elem?}
use Rattle.lock_core.specs.Client.{ClientStep}
use Rattle.lock_core.specs.declared.range.Held.{Held}
use Rattle.queue_laws.specs.declared.places.Telling.{Telling}
use Rattle.queue_laws.specs.declared.steps.QueueStep.TheVariants.{Count, Draw, Show, Hide, Uncount, Begin, Note, Judge}
use Rattle.queue_laws.specs.Machine.{Place, IsLine}
use Rattle.queue_guard.specs.declared.passes.Act.{Act}
use Rattle.queue_guard.specs.declared.passes.Act.TheVariants.{Glances, Begins, Notes, ReadsLo, ReadsHi, Judges, WritesLo, WritesHi, Counts, Draws, Shows}
use Rattle.queue_guard.specs.declared.passes.Act.TheVariants.{Hides, Uncounts}
use Rattle.queue_guard.specs.declared.passes.QueuePass.{QueuePass}
use Rattle.queue_guard.specs.Places.{next_place}
use Rattle.queue_guard.specs.Acts.{IsAct}
use Rattle.queue_guard.specs.Rule.{IsQueue}

-- the line of an act, or none: what leaves the seat's place as it was
abbrev pub IsLineOf : ℕ → List Telling → Place → Act → Place → Type 0
IsLineOf next tellings was (Begins asked) now = IsLine next tellings was (Begin asked) now
IsLineOf next tellings was Notes now = IsLine next tellings was Note now
IsLineOf next tellings was Judges now = IsLine next tellings was Judge now
IsLineOf next tellings was Counts now = IsLine next tellings was Count now
IsLineOf next tellings was Draws now = IsLine next tellings was Draw now ⊎ (now ≡ was)
IsLineOf next tellings was Shows now = (held : Held) × IsLine next tellings was (Show held) now
IsLineOf next tellings was Hides now = IsLine next tellings was Hide now
IsLineOf next tellings was Uncounts now = IsLine next tellings was Uncount now
IsLineOf next tellings was Glances now = now ≡ was
IsLineOf next tellings was ReadsLo now = now ≡ was
IsLineOf next tellings was ReadsHi now = now ≡ was
IsLineOf next tellings was WritesLo now = now ≡ was
IsLineOf next tellings was WritesHi now = now ≡ was

module _ {P : Type 0} where
  abbrev pub telling_of : QueuePass P → Telling
  telling_of p = p.telling

  -- a seat's place in the machine, by what it knows and holds
  abbrev pub place_with : QueuePass P → Option Held → Place
  place_with p held = record { telling = p.telling; look = p.look; held = held }

-- every act on words that meet the rule is a line of the machine, over what all seats have told
abbrev pub ActsAreLines : Type 0 → Type 0
ActsAreLines P = (words : List ℕ) (passes : List (QueuePass P)) (seat : ℕ) (held : Option Held) (p : QueuePass P) (step : ClientStep)
    (act : Act) (after : QueuePass P)
    → IsQueue words passes → get_elem? passes seat ≡ some p → IsAct words seat held p step act after
    → IsLineOf (slice_index words next_place) (map telling_of passes) (place_with p held) act (place_with after held)
