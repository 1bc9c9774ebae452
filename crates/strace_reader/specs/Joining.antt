-- Joining the halves of an interrupted call, which strace(1) prints as `<unfinished ...>` and `<... NAME resumed>`. The
-- definitions speak of all the texts that were fed, the last one first, and of each process by itself: what is kept for
-- it, what a further text answers, and how many lines are passed over. The counts are this project's own profile.
use Rattle.std.specs.Prelude.{◌≡◌, ◌≢◌, ◌⊎◌, ◌↔◌, ℕ, ◌-◌, ◌^◌, ◌<◌, List, [], ◌∷◌, ◌++◌, length, take, drop, Contains}
use Rattle.std.specs.List.Sorted.{IsStrictlyIncreasing}
use Rattle.strace_reader.specs.declared.item.BadCall.{BadCall}
use Rattle.strace_reader.specs.declared.item.Item.{Item}
use Rattle.strace_reader.specs.declared.item.Item.TheVariants.{Played, Unfinished, Resumed, Other as Passed, Blank as Nothing}
use Rattle.strace_reader.specs.declared.item.Name.{Name}
use Rattle.strace_reader.specs.declared.joiner.Fed.{Fed}
use Rattle.strace_reader.specs.declared.joiner.Fed.TheVariants.{Played as Answered, Kept, Skipped, Blank}
use Rattle.strace_reader.specs.declared.joiner.FeedFault.{FeedFault}
use Rattle.strace_reader.specs.declared.joiner.FeedFault.TheVariants.{Bad, Memory}
use Rattle.strace_reader.specs.Grammar.{Spells, Refuses}

-- the item is a call of the process or a half of one
abbrev pub IsOf : ℕ → Item → Type 0
IsOf process (Played pid done recorded) = pid ≡ process
IsOf process (Unfinished pid name from to) = pid ≡ process
IsOf process (Resumed pid name from) = pid ≡ process
IsOf process Passed = ⊥
IsOf process Nothing = ⊥

-- none of the texts is a call of the process or a half of one
abbrev pub IsSilent : ℕ → List (List ℕ) → Type 0
IsSilent process [] = Unit {0}
IsSilent process (text ∷ texts) = ((item : Item) → Spells text item → IsOf process item → ⊥) × IsSilent process texts

-- For the process a first half of this name is kept: it is the last that was fed of this process, and these its bytes.
pub record IsKept (fed : List (List ℕ)) (process : ℕ) (name : Name) (half : List ℕ) : Type 0 where
  pub later : List (List ℕ)
  pub text : List ℕ
  pub earlier : List (List ℕ)
  pub from : ℕ
  pub to : ℕ
  pub parts : fed ≡ later ++ (text ∷ earlier)
  pub is_half : Spells text (Unfinished process name from to)
  pub bytes : half ≡ take (to - from) (drop from text)
  pub silent : IsSilent process later

-- for the process no first half is kept
abbrev pub KeepsNone : List (List ℕ) → ℕ → Type 0
KeepsNone fed process = (name : Name) (half : List ℕ) → IsKept fed process name half → ⊥

-- how many kept halves a new call or first half of the process drops
abbrev pub Drops : List (List ℕ) → ℕ → ℕ → Type 0
Drops fed process count = ((name : Name) × (half : List ℕ) × IsKept fed process name half × (count ≡ 1)) ⊎ (KeepsNone fed process × (count ≡ 0))

-- the text is the second half of the call of the process whose first half is kept, and together they are joined
abbrev pub IsJoined : List (List ℕ) → List ℕ → ℕ → List ℕ → Type 0
IsJoined fed text process joined = (name : Name) × (from : ℕ) × (half : List ℕ) × Spells text (Resumed process name from)
    × IsKept fed process name half × (joined ≡ half ++ drop from text)

-- the text is a second half of the process, and a first half of another name is kept
abbrev pub IsOfOtherName : List (List ℕ) → List ℕ → Type 0
IsOfOtherName fed text = (process : ℕ) × (name other : Name) × (from : ℕ) × (half : List ℕ)
    × Spells text (Resumed process name from) × IsKept fed process other half × (other ≢ name)

-- the text is a second half of a process for which no first half is kept
abbrev pub IsAlone : List (List ℕ) → List ℕ → Type 0
IsAlone fed text = (process : ℕ) × (name : Name) × (from : ℕ) × Spells text (Resumed process name from) × KeepsNone fed process

-- the joined text is a first half again
abbrev pub IsHalfAgain : List ℕ → Type 0
IsHalfAgain joined = (process : ℕ) × (name : Name) × (from to : ℕ) × Spells joined (Unfinished process name from to)

-- How many lines a text passes over that is neither kept nor played: a line that is passed over by itself, a second
-- half alone, one whose first half has another name, and joined halves that are no call or a first half again.
abbrev pub PassesOver : List (List ℕ) → List ℕ → ℕ → Type 0
PassesOver fed text count =
    (Spells text Passed × (count ≡ 1))
    ⊎ (IsAlone fed text × (count ≡ 1))
    ⊎ (IsOfOtherName fed text × (count ≡ 2))
    ⊎ ((process : ℕ) × (joined : List ℕ) × IsJoined fed text process joined × Spells joined Passed × (count ≡ 1))
    ⊎ ((process : ℕ) × (joined : List ℕ) × IsJoined fed text process joined × IsHalfAgain joined × (count ≡ 2))

-- what a text answers behind those that were fed
abbrev pub IsAnswer : List (List ℕ) → List ℕ → Fed → Type 0
IsAnswer fed text (Answered pid done recorded count) =
    (Spells text (Played pid done recorded) × Drops fed pid count)
    ⊎ ((joined : List ℕ) × IsJoined fed text pid joined × Spells joined (Played 0 done recorded) × (count ≡ 0))
IsAnswer fed text (Kept count) = (process : ℕ) × (name : Name) × (from to : ℕ) × Spells text (Unfinished process name from to) × Drops fed process count
IsAnswer fed text (Skipped count) = PassesOver fed text count
IsAnswer fed text Blank = Spells text Nothing

-- A text is refused as a line is, or as the line that it makes with the first half; columns count in the joined text.
abbrev pub RefusesFed : List (List ℕ) → List ℕ → BadCall → Type 0
RefusesFed fed text bad = Refuses text bad ⊎ ((process : ℕ) × (joined : List ℕ) × IsJoined fed text process joined × Refuses joined bad)

-- why a text is not taken; out of memory may come for a half alone
abbrev pub IsFeedFault : List (List ℕ) → List ℕ → FeedFault → Type 0
IsFeedFault fed text (Bad bad) = RefusesFed fed text bad
IsFeedFault fed text Memory = (process : ℕ) × (name : Name) × (from to : ℕ)
    × (Spells text (Unfinished process name from to) ⊎ Spells text (Resumed process name from))

-- so many processes have a first half that is kept; the count stands still at the end of 32 bits
pub record CountsKept (fed : List (List ℕ)) (count : ℕ) : Type 0 where
  pub processes : List ℕ
  pub ascending : IsStrictlyIncreasing processes
  pub each : (process : ℕ) → Contains processes process ↔ ((name : Name) × (half : List ℕ) × IsKept fed process name half)
  pub is : (count ≡ length processes) ⊎ ((count ≡ 2 ^ 32 - 1) × (count < length processes))
