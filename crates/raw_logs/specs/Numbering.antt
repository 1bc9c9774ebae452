-- Lines without a number beside lines with `[pid N]`. Without -o strace(1) prints a number only while there are several
-- threads, so the first thread's lines come with and without one. In a log that has both, each line gets a plain
-- number: the first thread's where none stands. Its number is the one with which strace began (-p), or the first in
-- brackets that no message says was attached and no call gave as its result. In every other log, but one that begins
-- with such a message, the numbers stay as they are.
use Rattle.std.specs.Prelude.{◌≡◌, ◌≢◌, ◌⊎◌, ℕ, List, [], ◌∷◌, ◌++◌, Option, Some, None, Contains, decimal, codes}
use Rattle.strace_reader.specs.Grammar.{BeginsWith, EndsWith, IsPid, IsBracketed, IsPrefixed, IsBehindSpaces, IsCut}
use Rattle.raw_lines.specs.declared.makers.MadeAs.{MadeAs}
use Rattle.raw_lines.specs.declared.makers.Making.TheVariants.{Makes, Ends}
use Rattle.raw_lines.specs.Beginnings.{IsOfProfile}
use Rattle.raw_lines.specs.Makers.{IsMaking}
use Rattle.raw_lines.specs.Marks.{IsUnread}
use Rattle.raw_logs.specs.declared.numbering.Numbering.{Numbering}
use Rattle.raw_logs.specs.declared.numbering.Numbering.TheVariants.{AsPrinted, Plain}
use Rattle.raw_logs.specs.Log.{Numbered}

-- the text begins with the number of a process in brackets
abbrev pub HasBrackets : List ℕ → Type 0
HasBrackets text = (pid : ℕ) × (rest : List ℕ) × IsBracketed text pid rest

-- the text begins with no number of a process
abbrev pub HasNoNumber : List ℕ → Type 0
HasNoNumber text = (pid : ℕ) (rest : List ℕ) → ¬ IsPrefixed text pid rest

-- a call of the profile, or the second half of one, without a number
abbrev pub IsBareCall : List ℕ → Type 0
IsBareCall text = HasNoNumber text × IsOfProfile text

-- a message says that the thread was attached
abbrev pub IsAttached : List (List ℕ) → ℕ → Type 0
IsAttached lines pid = (line digits : List ℕ) × Contains lines line × IsPid digits pid
    × EndsWith (codes "strace: Process " ++ (digits ++ codes " attached")) line

-- a line gives the number as the result of a call that makes a process or a thread
abbrev pub Gives : List ℕ → ℕ → Type 0
Gives text pid = (parent : ℕ) × (body : List ℕ) × IsCut text parent body
    × (((kind : MadeAs) × IsMaking body (Makes kind (Some pid))) ⊎ IsMaking body (Ends (Some pid)))

-- the number came later than the first thread's: a message says that it was attached, or a line gives it as a result
abbrev pub IsLater : List (List ℕ) → List (List ℕ) → ℕ → Type 0
IsLater lines texts pid = IsAttached lines pid ⊎ ((text : List ℕ) × Contains texts text × Gives text pid)

-- the message with which strace begins where it is let to a process: strace: Process 4711 attached with 3 threads
abbrev pub IsStart : List ℕ → ℕ → Type 0
IsStart line pid = (text body : List ℕ) × (line ≡ codes "strace: Process " ++ text) × IsCut text pid body × BeginsWith (codes "attached") body × (pid ≢ 0)

-- the first line of the log is that message
abbrev pub StartsAt : List (List ℕ) → ℕ → Type 0
StartsAt [] pid = ⊥
StartsAt (line ∷ lines) pid = IsStart line pid

-- the log has lines of both kinds
abbrev pub IsMixed : List (List ℕ) → Type 0
IsMixed texts = ((text : List ℕ) × Contains texts text × HasBrackets text) × ((text : List ℕ) × Contains texts text × IsBareCall text)

-- each line of the log gets a number: it has lines of both kinds, or begins with the number of those without one
abbrev pub NeedsNumbers : List (List ℕ) → List (List ℕ) → Type 0
NeedsNumbers lines texts = IsMixed texts ⊎ ((pid : ℕ) × StartsAt lines pid)

-- the first number in brackets that didn't come later
pub record IsFirstThread (later : ℕ → Type 0) (texts : List (List ℕ)) (pid : ℕ) : Type 0 where
  pub before : List (List ℕ)
  pub text : List ℕ
  pub after : List (List ℕ)
  pub parts : texts ≡ before ++ (text ∷ after)
  pub rest : List ℕ
  pub is : IsBracketed text pid rest
  pub fresh : ¬ later pid
  pub others : (other : List ℕ) (n : ℕ) (behind : List ℕ) → Contains before other → IsBracketed other n behind → later n

-- the number of the lines without one
abbrev pub IsRoot : List (List ℕ) → List (List ℕ) → ℕ → Type 0
IsRoot lines texts pid = StartsAt lines pid ⊎ (((n : ℕ) → ¬ StartsAt lines n) × IsFirstThread (IsLater lines texts) texts pid)

-- how the lines of a log are numbered, by its raw lines and its plain texts
abbrev pub IsNumbering : List (List ℕ) → List (List ℕ) → Numbering → Type 0
IsNumbering lines texts AsPrinted = ¬ NeedsNumbers lines texts
IsNumbering lines texts (Plain (Some pid)) = NeedsNumbers lines texts × IsRoot lines texts pid
IsNumbering lines texts (Plain None) = NeedsNumbers lines texts × ((pid : ℕ) → ¬ IsRoot lines texts pid)

-- the text with a number before it
abbrev pub with_number : ℕ → List ℕ → List ℕ
with_number pid body = decimal pid ++ (32 ∷ body)

-- the number in brackets is written plain
abbrev pub LosesBrackets : List ℕ → List ℕ → Type 0
LosesBrackets text line = (pid : ℕ) × (rest body : List ℕ) × IsBracketed text pid rest × IsBehindSpaces rest body × (line ≡ with_number pid body)

-- a line without a number, not an empty one and not one that couldn't be read, gets the first thread's
abbrev pub GetsNumber : ℕ → List ℕ → List ℕ → Type 0
GetsNumber pid text line = HasNoNumber text × (text ≢ []) × (¬ IsUnread text) × (line ≡ with_number pid text)

-- what changes of a text
abbrev pub ChangesNumber : Numbering → List ℕ → List ℕ → Type 0
ChangesNumber AsPrinted text line = ⊥
ChangesNumber (Plain None) text line = LosesBrackets text line
ChangesNumber (Plain (Some pid)) text line = LosesBrackets text line ⊎ GetsNumber pid text line

-- the text with another number, where it changes
abbrev pub IsRenumbered : Numbering → Numbered → Option (List ℕ) → Type 0
IsRenumbered numbering text None = (line : List ℕ) → ¬ ChangesNumber numbering text.text line
IsRenumbered numbering text (Some line) = ChangesNumber numbering text.text line
