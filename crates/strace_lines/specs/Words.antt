-- What the words of the command line ask for, this project's own profile. `--strict` and `--process N` stand in any
-- order, each at most once; the number is a word of its own or stands behind `=`. Where `--help` or `-h` is among the
-- words, help is asked for, whatever the others are.
use Rattle.std.specs.Prelude.{◌≡◌, ◌⊎◌, ℕ, ◌^◌, ◌<◌, List, [], ◌∷◌, ◌++◌, Option, Some, None, Bool, if◌then◌else◌}
use Rattle.std.specs.Prelude.{codes, Contains, decimal, option_to_list, true, IsSome}
use Rattle.command_words.specs.Spellings.{Ask, AddsOne}
use Rattle.strace_lines.specs.declared.words.Asked.{Asked}
use Rattle.strace_lines.specs.declared.words.Asked.TheVariants.{Help, Rewrite}
use Rattle.strace_lines.specs.declared.words.Given.{Given}
use Rattle.strace_lines.specs.declared.words.Given.TheVariants.{Strict, Process}
use Rattle.strace_lines.specs.declared.words.Options.{Options}

-- help is asked for
abbrev pub AskForHelp : List (List ℕ) → Type 0
AskForHelp words = Contains words (codes "--help") ⊎ Contains words (codes "-h")

-- the words are the spelling of an option, and then the rest
abbrev pub BeginsWithOption : Given → List (List ℕ) → List (List ℕ) → Type 0
BeginsWithOption Strict rest words = words ≡ codes "--strict" ∷ rest
BeginsWithOption (Process n) rest words = (n < 2 ^ 32)
    × ((words ≡ codes "--process" ∷ decimal n ∷ rest) ⊎ (words ≡ (codes "--process=" ++ decimal n) ∷ rest))

-- which option it is
pub data Kind : Type 0 where
  of_strict : Kind
  of_process : Kind

-- what an option gives, if it is of this kind: its number, or 0 where it takes none
abbrev pub value_for : Kind → Given → Option ℕ
value_for of_strict Strict = Some 0
value_for of_process (Process n) = Some n
value_for _ _ = None

-- what a flag gives
abbrev pub flag_list : Bool → List ℕ
flag_list given = if given then 0 ∷ [] else []

-- what is asked for of this kind, once or not at all
abbrev pub asked_for : Kind → Options → List ℕ
asked_for of_strict options = flag_list options.strict
asked_for of_process options = option_to_list options.process

-- the words ask for a log to be rewritten: each option is given once or not at all
abbrev pub AskToRewrite : List (List ℕ) → Option ℕ → Bool → Type 0
AskToRewrite words process strict =
    Ask BeginsWithOption value_for (λ kind. []) words (λ kind. asked_for kind (record { process = process; strict = strict }))

-- the words ask for this
abbrev pub AskFor : List (List ℕ) → Asked → Type 0
AskFor words Help = AskForHelp words
AskFor words (Rewrite process strict) = (¬ AskForHelp words) × AskToRewrite words process strict

-- the words ask for nothing that there is
abbrev pub RefusesWords : List (List ℕ) → Type 0
RefusesWords words = (asked : Asked) → ¬ AskFor words asked

-- the words ask for one thing at most
abbrev pub AskForOne : List (List ℕ) → Type 0
AskForOne words = (first other : Asked) → AskFor words first → AskFor words other → first ≡ other

-- what was asked for, and this option besides
abbrev pub Adds : Options → Given → Options → Type 0
Adds before given after = AddsOne value_for (λ kind. asked_for kind before) given (λ kind. asked_for kind after)

-- the option was asked for already
abbrev pub IsAsked : Options → Given → Type 0
IsAsked before Strict = before.strict ≡ true
IsAsked before (Process n) = IsSome before.process
