-- What the private functions of this crate say of what they hold: lines as numbered texts, what was read of a log so
-- far, and what was found of spaces. It ties the code to the other definitions, which speak of texts. `AreShort` is also
-- cited by `read_log` and by `raw_trace`.
use Rattle.std.specs.Prelude.{All, ◌≤◌, ◌<◌, ◌≡◌, ℕ, zero, suc, ◌+◌, List, [], ◌∷◌, length, drop, Option, Some, None, option_map, is_some, Bool, true, false, if◌then◌else◌}
use Rattle.std.specs.BTreeMap.{BTreeMap, get}
use Rattle.std.specs.BTreeSet.{BTreeSet, contains}
use Rattle.std.specs.Ordering.{nat_cmp, ordering_then}
use Rattle.std.specs.declared.cmp.Ordering.{Ordering}
use Rattle.strace_reader.specs.Grammar.{IsBracketed}
use Rattle.raw_lines.specs.declared.makers.Making.{Making}
use Rattle.raw_lines.specs.declared.makers.Making.TheVariants.{Makes, Ends}
use Rattle.raw_logs.specs.declared.choosing.Picker.{Picker}
use Rattle.raw_logs.specs.declared.counts.Counts.{Counts}
use Rattle.raw_logs.specs.declared.counts.Sort.{Sort}
use Rattle.raw_logs.specs.declared.counts.Sort.TheVariants.{Stripped, Numbered as OfNumbered}
use Rattle.raw_logs.specs.declared.healing.Changed.{Changed}
use Rattle.raw_logs.specs.declared.healing.Healer.{Healer}
use Rattle.raw_logs.specs.declared.healing.Part.{Part}
use Rattle.raw_logs.specs.declared.spaces.Chooser.{Chooser}
use Rattle.raw_logs.specs.declared.spaces.Home.{Home}
use Rattle.raw_logs.specs.declared.spaces.Made.{Made}
use Rattle.raw_logs.specs.declared.spaces.Makers.{Makers}
use Rattle.raw_logs.specs.declared.spaces.Past.{Past}
use Rattle.raw_logs.specs.declared.spaces.Space.{Space}
use Rattle.raw_logs.specs.declared.told.Form.{Form}
use Rattle.raw_logs.specs.declared.told.Form.TheVariants.{Blank, Unknown, Long, TooLong, Whole}
use Rattle.raw_logs.specs.declared.told.Told.{Told}
use Rattle.raw_logs.specs.Choosing.{Picked, picked}
use Rattle.raw_logs.specs.Log.{Numbered, line_of, LineKind, IsKind, Each, healed, changed, count_changes, IsStripped}
use Rattle.raw_logs.specs.Numbering.{IsRenumbered}
use Rattle.raw_logs.specs.Spaces.{made_from, ended_by, exec_place, has_left, led, space_at, is_first, before_in, speaks, is_made, is_known}
use Rattle.raw_logs.specs.Told.{AreTold}

-- no text is longer than a line may be
abbrev pub AreShort : List Numbered → Type 0
AreShort lines = All (λ line. length line.text ≤ 65535) lines

-- a part of a line as a numbered text
abbrev pub part_line : Part → Numbered
part_line part = line_of part.number part.text.items

-- the part that waits for its rest
abbrev pub part_of : Healer → Option Numbered
part_of healer = option_map part_line healer.part

-- ---- lines that are made one by one

-- of these texts, each of which changes so or stays, these are made, and so many changed
pub record IsMade (R : Numbered → Option (List ℕ) → Type 0) (sort : Sort) (texts made : List Numbered) (counts : Counts) : Type 0 where
  pub changes : List (Option (List ℕ))
  pub each : Each R texts changes
  pub is : made ≡ changed texts changes
  pub count : counts ≡ count_changes sort changes

-- these texts are written so: made plain, and with their numbers
pub record AreWritten (changed : Changed) (texts : List Numbered) : Type 0 where
  pub plain : List Numbered
  pub made : IsMade IsStripped Stripped texts plain changed.plain
  pub numbers : IsMade (IsRenumbered changed.numbering) OfNumbered plain changed.lines changed.numbered

-- these lines were read, and their texts are written
pub record Takes (healer : Healer) (lines : List (List ℕ)) : Type 0 where
  pub kinds : List LineKind
  pub of_kinds : Each IsKind lines kinds
  pub texts : List Numbered
  pub is : healed lines kinds ≡ record { texts = texts; part = part_of healer; counts = healer.counts }
  pub written : AreWritten healer.written texts

-- ---- numbers

-- the number is in the set
abbrev pub Has : BTreeSet ℕ → ℕ → Type 0
Has set pid = contains nat_cmp set pid ≡ true

-- the number that is told as the result of a call that makes a process or a thread
abbrev pub told_number : Making → Option ℕ
told_number (Makes kind child) = child
told_number (Ends child) = child
told_number making = None

-- each number in brackets that the text begins with came later
abbrev pub EachLater : (ℕ → Type 0) → List ℕ → Type 0
EachLater later text = (n : ℕ) (rest : List ℕ) → IsBracketed text n rest → later n

-- ---- spaces

-- the lines from this place on were taken: who made whom by them, what calls made that they end, and where numbers call
-- execve
pub record HasMade (makers : Makers) (place : ℕ) (tolds : List Told) : Type 0 where
  pub made : makers.made.items ≡ made_from place tolds
  pub ended : (pid : ℕ) → get nat_cmp makers.ended pid ≡ ended_by pid tolds
  pub execs : (pid : ℕ) → get nat_cmp makers.execs pid ≡ exec_place pid place tolds

-- each of these links stands before a place
abbrev pub AreBefore : ℕ → List Made → Type 0
AreBefore place [] = Unit {0}
AreBefore place (link ∷ earlier) = (link.place < place) × AreBefore place earlier

-- later links stand first
abbrev pub AreLatestFirst : List Made → Type 0
AreLatestFirst [] = Unit {0}
AreLatestFirst (link ∷ earlier) = AreBefore link.place earlier × AreLatestFirst earlier

-- the order of numbers with places
abbrev pub pair_cmp : ℕ × ℕ → ℕ × ℕ → Ordering
pair_cmp = λ a b. ordering_then (nat_cmp a.0 b.0) (nat_cmp a.1 b.1)

-- the home of a number from a place on, where a link gave it one there; the first of a number has place 0
abbrev pub home_at : BTreeMap (ℕ × ℕ) Home → ℕ → ℕ → Option Home
home_at homes pid place = get pair_cmp homes (pid, place)

-- the first, where there is one, or the other
abbrev pub home_or : Option Home → Option Home → Option Home
home_or None other = other
home_or (Some home) other = Some home

-- the last of homes up to a place
abbrev pub last_at : (ℕ → Option Home) → ℕ → Option Home
last_at at zero = at 0
last_at at (suc place) = home_or (at (suc place)) (last_at at place)

-- the space of a number at a place, by its home, or its own
abbrev pub space_or : ℕ → ℕ → Option Home → Space
space_or pid place None = record { id = pid; made = false }
space_or pid place (Some home) = led (has_left home.kind home.exec place) home.place home.maker

abbrev pub space_in : BTreeMap (ℕ × ℕ) Home → ℕ → ℕ → Space
space_in homes pid place = space_or pid place (last_at (home_at homes pid) place)

-- the map has the space of each number at each place, by who made whom
pub record AreSpaces (homes : BTreeMap (ℕ × ℕ) Home) (made : List Made) : Type 0 where
  pub spaces : (pid place : ℕ) → space_in homes pid place ≡ space_at made place pid
  -- the first home of a number is at 0
  pub first : (pid : ℕ) → is_some (home_at homes pid 0) ≡ is_made pid made
  pub none : (pid : ℕ) → is_made pid made ≡ false → (place : ℕ) → home_at homes pid place ≡ None
  -- none is behind the links
  pub behind : (pid place : ℕ) → AreBefore place made → home_at homes pid place ≡ None

-- it has them, where the links stand so
abbrev pub HasSpaces : BTreeMap (ℕ × ℕ) Home → List Made → Type 0
HasSpaces homes made = AreLatestFirst made → AreSpaces homes made

-- the first, where there is one, or the other
abbrev pub or_else : Option ℕ → Option ℕ → Option ℕ
or_else None other = other
or_else (Some n) other = Some n

-- the place that a map has for the space of a process that a line made
abbrev pub born_in : BTreeMap ℕ ℕ → Space → Option ℕ
born_in past space = if space.made then get nat_cmp past space.id else None

-- the place before which lines of a space are of the past
abbrev pub limit_in : Past → Space → Option ℕ
limit_in past space = or_else (born_in past.born space) (if is_first space past.first then Some past.limit else None)

-- it has the places before which lines of a space are of the past of a process
abbrev pub IsPast : Past → List Made → ℕ → ℕ → Type 0
IsPast past made asked count = (space : Space) → limit_in past space ≡ before_in made asked count space

-- the past is that of the process that was asked for, where one was
abbrev pub IsPastOf : Option ℕ → List Made → ℕ → Option Past → Type 0
IsPastOf None made count None = Unit {0}
IsPastOf None made count (Some past) = ⊥
IsPastOf (Some asked) made count None = ⊥
IsPastOf (Some asked) made count (Some past) = IsPast past made asked count

-- it chooses lines by who made whom, and by the process that was asked for
pub record IsChooser (process : Option ℕ) (made : List Made) (count : ℕ) (chooser : Chooser) : Type 0 where
  pub homes : AreSpaces chooser.homes made
  pub past : IsPastOf process made count chooser.past

-- the set has the numbers that links made
abbrev pub HasNumbers : BTreeSet ℕ → List Made → Type 0
HasNumbers found made = (q : ℕ) → contains nat_cmp found q ≡ is_made q made

-- the set has 0, the numbers that links made, and those that have a line
abbrev pub HasKnown : BTreeSet ℕ → List Made → List Told → Type 0
HasKnown found made tolds = (q : ℕ) → contains nat_cmp found q ≡ is_known q made tolds

-- the set has the numbers that have a line
abbrev pub HasSpeakers : BTreeSet ℕ → List Numbered → Type 0
HasSpeakers found lines = (tolds : List Told) → AreTold lines tolds → (q : ℕ) → contains nat_cmp found q ≡ speaks q tolds

-- ---- lines that are picked

-- what was picked, where these lines are written
abbrev pub seen : List Numbered → Picker → Picked
seen lines picker = record {
  lines = lines;
  counts = picker.counts;
  ended = picker.ended;
  unknown = picker.unknown;
  too_long = picker.too_long;
}

-- a line before others, where it is written
abbrev pub written : Bool → Numbered → List Numbered → List Numbered
written is line lines = if is then line ∷ lines else lines

-- a line may be written
abbrev pub keeps : Form → Bool → Bool
keeps Blank here = false
keeps Unknown here = false
keeps Long here = false
keeps TooLong here = false
keeps Whole here = here

-- of lines, the first of which has this place, those that may be written
abbrev pub kept : (ℕ → Told → Bool) → ℕ → List Numbered → List Told → List Numbered
kept here place [] tolds = []
kept here place (line ∷ lines) [] = []
kept here place (line ∷ lines) (told ∷ tolds) = written (keeps told.form (here place told)) line (kept here (place + 1) lines tolds)

-- those from this place on
abbrev pub kept_from : (ℕ → Told → Bool) → ℕ → List Numbered → List Told → List Numbered
kept_from here place lines tolds = kept here place (drop place lines) (drop place tolds)

-- what was picked of the lines from this place on, where those are written that may be, from the picker's start on
pub record HasPicked (here : ℕ → Told → Bool) (lines : List Numbered) (tolds : List Told) (place : ℕ) (picker : Picker) : Type 0 where
  pub is : seen (kept_from here picker.start lines tolds) picker ≡ picked here place (drop place lines) (drop place tolds)
  pub at : picker.ended ≡ false → picker.start ≡ place
