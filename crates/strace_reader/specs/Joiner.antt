-- What a joiner holds, seen by process: the first half that is kept for it. A joiner stands for the texts that it was
-- fed where it holds just what is kept after them.
use Rattle.std.specs.Prelude.{◌≡◌, ◌≢◌, ◌⊎◌, ℕ, List, ◌++◌, Option, Some, None}
use Rattle.std.specs.Ordering.{nat_cmp}
use Rattle.std.specs.BTreeMap.{get}
use Rattle.strace_reader.specs.declared.item.Item.{Item}
use Rattle.strace_reader.specs.declared.item.Item.TheVariants.{Played, Unfinished, Resumed, Other as Passed, Blank as Nothing}
use Rattle.strace_reader.specs.declared.item.Name.{Name}
use Rattle.strace_reader.specs.declared.joiner.Fed.{Fed}
use Rattle.strace_reader.specs.declared.joiner.Fed.TheVariants.{Played as Answered, Skipped}
use Rattle.strace_reader.specs.declared.joiner.FeedFault.{FeedFault}
use Rattle.strace_reader.specs.declared.joiner.FeedFault.TheVariants.{Bad, Memory}
use Rattle.strace_reader.specs.Grammar.{Spells, Refuses}
use Rattle.strace_reader.specs.declared.half.Half.{Half}
use Rattle.strace_reader.specs.declared.joiner.Joiner.{Joiner}
use Rattle.strace_reader.specs.Joining.{IsKept}

-- the half that a joiner holds for a process
abbrev pub half_of : Joiner → ℕ → Option Half
half_of joiner process = get nat_cmp joiner.halves process

-- it holds these bytes of a call of this name
abbrev pub Holds : Joiner → ℕ → Name → List ℕ → Type 0
Holds joiner process name half = (kept : Half) × (half_of joiner process ≡ Some kept) × (kept.name ≡ name) × (kept.text.items ≡ half)

-- it was fed these texts, the last one first
pub record IsFed (joiner : Joiner) (fed : List (List ℕ)) : Type 0 where
  pub kept : (process : ℕ) (name : Name) (half : List ℕ) → IsKept fed process name half → Holds joiner process name half
  pub held : (process : ℕ) (name : Name) (half : List ℕ) → Holds joiner process name half → IsKept fed process name half

-- it holds for each process what it held
abbrev pub HoldsTheSame : Joiner → Joiner → Type 0
HoldsTheSame old new = (process : ℕ) → half_of new process ≡ half_of old process

-- ---- what the code computes

-- what joined halves answer that are read as this item
abbrev pub answer_of : ℕ → Item → Fed
answer_of process (Played pid done recorded) = Answered process done recorded 0
answer_of process (Unfinished pid name from to) = Skipped 2
answer_of process (Resumed pid name from) = Skipped 1
answer_of process Passed = Skipped 1
answer_of process Nothing = Skipped 1

-- what a second half answers, by the half that is held for its process
abbrev pub IsJoinAnswer : Joiner → ℕ → Name → List ℕ → Fed → Type 0
IsJoinAnswer joiner process name rest fed =
    ((half_of joiner process ≡ None) × (fed ≡ Skipped 1))
    ⊎ ((kept : Half) × (half_of joiner process ≡ Some kept) × (kept.name ≢ name) × (fed ≡ Skipped 2))
    ⊎ ((kept : Half) × (item : Item) × (half_of joiner process ≡ Some kept) × (kept.name ≡ name)
    × Spells (kept.text.items ++ rest) item × (fed ≡ answer_of process item))

-- why a joined text is not taken
abbrev pub IsJoinRefusal : List ℕ → FeedFault → Type 0
IsJoinRefusal joined (Bad bad) = Refuses joined bad
IsJoinRefusal joined Memory = Unit {0}

-- why a second half is not taken
abbrev pub IsJoinFault : Joiner → ℕ → Name → List ℕ → FeedFault → Type 0
IsJoinFault joiner process name rest (Bad bad) = (kept : Half) × (half_of joiner process ≡ Some kept) × (kept.name ≡ name)
    × Refuses (kept.text.items ++ rest) bad
IsJoinFault joiner process name rest Memory = Unit {0}
