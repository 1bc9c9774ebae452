-- What the words of the command line ask for, this project's own profile. Behind `play`, `load` or `check` stand
-- options in any order, each at most once; an option with a number is written as two words or as one with `=` in it.
-- What is accepted is said by what is written: the words are the spellings of some options, one behind the other. So a
-- reader may rely on each list of words asking for one thing at most.
use Rattle.std.specs.Prelude.{◌≡◌, ℕ, ◌<◌, ◌≤◌, List, [], ◌∷◌, ◌++◌, Option, Some, None, ⊤, ◌⊎◌, option_to_list}
use Rattle.std.specs.Prelude.{unwrap_or, length, if◌then◌else◌, codes, Bool, false}
use Rattle.std.specs.Fmt.{decimal}
use Rattle.command_words.specs.declared.commands.Command.{Command}
use Rattle.command_words.specs.declared.commands.Command.TheVariants.{Play, Load, Check}
use Rattle.command_words.specs.declared.commands.Given.{Given}
use Rattle.command_words.specs.declared.commands.Given.TheVariants.{Opening, Log, Touched, Changes, Differ, Threads, Seed, Calls}
use Rattle.command_words.specs.declared.commands.Asked.{Asked}
use Rattle.command_words.specs.declared.commands.Options.{Options}
use Rattle.command_words.specs.Spellings.{Ask, AddsOne}

-- the name of an option
abbrev pub option_name : Given → List ℕ
option_name Opening = codes "--opening"
option_name Log = codes "--log"
option_name Touched = codes "--touched"
option_name Changes = codes "--changes"
option_name Differ = codes "--differ"
option_name (Threads n) = codes "--threads"
option_name (Seed n) = codes "--seed"
option_name (Calls n) = codes "--calls"

-- the number that it is given, if it takes one
abbrev pub number_of : Given → Option ℕ
number_of Opening = None
number_of Log = None
number_of Touched = None
number_of Changes = None
number_of Differ = None
number_of (Threads n) = Some n
number_of (Seed n) = Some n
number_of (Calls n) = Some n

-- the numbers that it may be given
abbrev pub HasNumberInRange : Given → Type 0
HasNumberInRange Opening = ⊤
HasNumberInRange Log = ⊤
HasNumberInRange Touched = ⊤
HasNumberInRange Changes = ⊤
HasNumberInRange Differ = ⊤
HasNumberInRange (Threads n) = (1 ≤ n) × (n ≤ 16)
HasNumberInRange (Seed n) = n ≤ 2147483647
HasNumberInRange (Calls n) = n ≤ 1048576

-- the words are an option with this name and number, and then the rest: the name alone, or the name and the number as
-- two words, or as one with `=` between them. A number is written as it is printed, in decimal digits without a sign or
-- zeros before it
abbrev pub AreWritten : List ℕ → Option ℕ → List (List ℕ) → List (List ℕ) → Type 0
AreWritten name None rest words = words ≡ name ∷ rest
AreWritten name (Some n) rest words = (words ≡ name ∷ decimal n ∷ rest) ⊎ (words ≡ (name ++ codes "=" ++ decimal n) ∷ rest)

-- the words are the spelling of an option, and then the rest
abbrev pub BeginsWithOption : Given → List (List ℕ) → List (List ℕ) → Type 0
BeginsWithOption given rest words = HasNumberInRange given × AreWritten (option_name given) (number_of given) rest words

-- which option it is
pub data Kind : Type 0 where
  of_opening : Kind
  of_log : Kind
  of_touched : Kind
  of_changes : Kind
  of_differ : Kind
  of_threads : Kind
  of_seed : Kind
  of_calls : Kind

-- what an option gives, if it is of this kind: its number, or 0 where it takes none
abbrev pub value_for : Kind → Given → Option ℕ
value_for of_opening Opening = Some 0
value_for of_log Log = Some 0
value_for of_touched Touched = Some 0
value_for of_changes Changes = Some 0
value_for of_differ Differ = Some 0
value_for of_threads (Threads n) = Some n
value_for of_seed (Seed n) = Some n
value_for of_calls (Calls n) = Some n
value_for _ _ = None

-- what is asked for of this kind, once or not at all
abbrev pub asked_for : Kind → Asked → List ℕ
asked_for of_opening asked = if asked.opening then 0 ∷ [] else []
asked_for of_log asked = if asked.log then 0 ∷ [] else []
asked_for of_touched asked = if asked.touched then 0 ∷ [] else []
asked_for of_changes asked = if asked.changes then 0 ∷ [] else []
asked_for of_differ asked = if asked.differ then 0 ∷ [] else []
asked_for of_threads asked = option_to_list asked.threads
asked_for of_seed asked = option_to_list asked.seed
asked_for of_calls asked = option_to_list asked.calls

-- the words are spellings of options that ask for this: of each kind, what they give is what is asked for
abbrev pub DoAsk : List (List ℕ) → Asked → Type 0
DoAsk words asked = Ask BeginsWithOption value_for (λ kind. []) words (λ kind. asked_for kind asked)

-- what the first word makes of the options behind it. `play` takes its own alone, and is on one thread where no number
-- is asked for; `load` takes all three of its own, and no other; `check` takes `--opening` alone
abbrev pub IsCommand : List ℕ → Asked → Command → Type 0
IsCommand name asked (Play options threads) =
    (name ≡ codes "play")
    × (asked.opening ≡ options.opening)
    × (asked.log ≡ options.log)
    × (asked.touched ≡ options.touched)
    × (asked.changes ≡ options.changes)
    × (asked.differ ≡ options.differ)
    × (threads ≡ unwrap_or asked.threads 1)
    × (asked.seed ≡ None)
    × (asked.calls ≡ None)
IsCommand name asked (Load seed threads calls) =
    (name ≡ codes "load")
    × (asked.opening ≡ false)
    × (asked.log ≡ false)
    × (asked.touched ≡ false)
    × (asked.changes ≡ false)
    × (asked.differ ≡ false)
    × (asked.seed ≡ Some seed)
    × (asked.threads ≡ Some threads)
    × (asked.calls ≡ Some calls)
IsCommand name asked (Check opening) =
    (name ≡ codes "check")
    × (asked.opening ≡ opening)
    × (asked.log ≡ false)
    × (asked.touched ≡ false)
    × (asked.changes ≡ false)
    × (asked.differ ≡ false)
    × (asked.threads ≡ None)
    × (asked.seed ≡ None)
    × (asked.calls ≡ None)

-- the words ask for this
pub record AskFor (words : List (List ℕ)) (command : Command) : Type 0 where
  pub name : List ℕ
  pub rest : List (List ℕ)
  pub whole : words ≡ name ∷ rest
  pub asked : Asked
  pub options : DoAsk rest asked
  pub is : IsCommand name asked command

-- the words ask for nothing that there is
abbrev pub RefusesWords : List (List ℕ) → Type 0
RefusesWords words = (command : Command) → ¬ AskFor words command

-- the words ask for an input to be played
abbrev pub AskToPlay : List (List ℕ) → Type 0
AskToPlay words = (options : Options) × (threads : ℕ) × AskFor words (Play options threads)

-- the words ask for a load
abbrev pub AskForLoad : List (List ℕ) → Type 0
AskForLoad words = (seed : ℕ) × (threads : ℕ) × (calls : ℕ) × AskFor words (Load seed threads calls)

-- the words ask for a log to be checked
abbrev pub AskForCheck : List (List ℕ) → Type 0
AskForCheck words = (opening : Bool) × AskFor words (Check opening)

-- the words ask for something that reads the input
abbrev pub AskToRead : List (List ℕ) → Type 0
AskToRead words = AskToPlay words ⊎ AskForCheck words

-- the words ask for one thing at most
abbrev pub AskForOne : List (List ℕ) → Type 0
AskForOne words = (first other : Command) → AskFor words first → AskFor words other → first ≡ other

-- the numbers of a command are in their ranges
abbrev pub HasRanges : Command → Type 0
HasRanges (Play options threads) = (1 ≤ threads) × (threads ≤ 16)
HasRanges (Load seed threads calls) = (seed ≤ 2147483647) × (1 ≤ threads) × (threads ≤ 16) × (calls ≤ 1048576)
HasRanges (Check opening) = ⊤

-- an option that takes no number has this name
abbrev pub IsFlag : List ℕ → Given → Type 0
IsFlag name given = (name ≡ option_name given) × (number_of given ≡ None)

-- an option that takes this number has this name
abbrev pub IsNamed : List ℕ → ℕ → Given → Type 0
IsNamed name n given = (name ≡ option_name given) × (number_of given ≡ Some n)

-- an option has this name, and this is the text of its number
pub record IsNumbered (name value : List ℕ) (given : Given) : Type 0 where
  pub number : ℕ
  pub named : IsNamed name number given
  pub text : value ≡ decimal number
  pub in_range : HasNumberInRange given

-- what was asked for, and this option besides
abbrev pub Adds : Asked → Given → Asked → Type 0
Adds before given after = AddsOne value_for (λ kind. asked_for kind before) given (λ kind. asked_for kind after)

-- an option of the same kind was asked for already
pub record IsAsked (before : Asked) (given : Given) : Type 0 where
  pub kind : Kind
  pub value : ℕ
  pub gives : value_for kind given ≡ Some value
  pub already : 0 < length (asked_for kind before)
