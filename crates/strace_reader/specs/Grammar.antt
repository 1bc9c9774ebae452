-- The forms of a line and what each is, in the order in which they are tried: lines of strace(1), in this project's
-- own profile, as the table of docs/FORMATS.md. A line is a prefix, which names a process, and a body. `Spells` is
-- the relation that the reader of lines is, and `Refuses` says where a line is refused and why; both speak of whole
-- texts.
use Rattle.std.specs.Prelude.{false, ◌≡◌, ◌≢◌, ◌⊎◌, ℕ, ◌+◌, ◌^◌, ◌<◌, List, [], ◌∷◌, ◌++◌, length, codes}
use Rattle.line_parts.specs.declared.refusal.Refusal.{Refusal}
use Rattle.line_parts.specs.Parts.{starts, Refused}
use Rattle.line_parts.specs.Leaves.{is, EachIs, Digits}
use Rattle.page_types.specs.Named.{IsNamedCall}
use Rattle.strace_reader.specs.declared.item.BadCall.{BadCall}
use Rattle.strace_reader.specs.declared.item.Body.{Body}
use Rattle.strace_reader.specs.declared.item.Body.TheVariants.{Called, FirstHalf, SecondHalf, Other}
use Rattle.strace_reader.specs.declared.item.Item.{Item}
use Rattle.strace_reader.specs.declared.item.Item.TheVariants.{Played, Unfinished, Resumed, Other as Skipped, Blank}
use Rattle.strace_reader.specs.declared.item.Name.{Name}
use Rattle.strace_reader.specs.Words.{call_head, resumed_head}
use Rattle.strace_reader.specs.Calls.{call}

-- the text begins with the word
abbrev pub BeginsWith : List ℕ → List ℕ → Type 0
BeginsWith word text = (rest : List ℕ) × (text ≡ word ++ rest)

-- the text ends with the word
abbrev pub EndsWith : List ℕ → List ℕ → Type 0
EndsWith word text = (front : List ℕ) × (text ≡ front ++ word)

-- the text doesn't begin as the call of this name
abbrev pub NoHead : (Name → List ℕ) → Name → List ℕ → Type 0
NoHead head name text = (rest : List ℕ) → text ≢ head name ++ rest

-- how the first half of an interrupted line ends
abbrev pub unfinished : List ℕ
unfinished = codes "<unfinished ...>"

-- The call never returned: <unfinished ...>), one or more spaces, and = ?.
abbrev pub NeverReturned : List ℕ → Type 0
NeverReturned text = (front more : List ℕ) × EachIs (is 32) more × (text ≡ front ++ (codes "<unfinished ...>)" ++ ((32 ∷ more) ++ codes "= ?")))

-- ---- the process of a line

-- a process number of 32 bits, in decimal digits
abbrev pub IsPid : List ℕ → ℕ → Type 0
IsPid digits pid = Digits 10 digits pid × (pid < 2 ^ 32)

-- a process number, then a word, then the rest
abbrev pub PidThen : List ℕ → List ℕ → ℕ → List ℕ → Type 0
PidThen word text pid rest = (digits : List ℕ) × IsPid digits pid × (text ≡ digits ++ (word ++ rest))

-- [pid, spaces, digits, ] and a space
abbrev pub IsBracketed : List ℕ → ℕ → List ℕ → Type 0
IsBracketed text pid rest = (more after : List ℕ) × EachIs (is 32) more × (text ≡ codes "[pid " ++ (more ++ after)) × PidThen (codes "] ") after pid rest

-- Digits and a space, or a process number in brackets; more spaces may follow, and are in the rest.
abbrev pub IsPrefixed : List ℕ → ℕ → List ℕ → Type 0
IsPrefixed text pid rest = PidThen (codes " ") text pid rest ⊎ IsBracketed text pid rest

-- what is left behind all the spaces at the front
abbrev pub IsBehindSpaces : List ℕ → List ℕ → Type 0
IsBehindSpaces text rest = (spaces : List ℕ) × EachIs (is 32) spaces × (text ≡ spaces ++ rest) × (starts (is 32) rest ≡ false)

-- The process of a line, and its body, which is what stands behind the prefix and all its spaces. A line with no
-- prefix is its body, and its process is 0.
abbrev pub IsCut : List ℕ → ℕ → List ℕ → Type 0
IsCut text pid body =
    ((rest : List ℕ) × IsPrefixed text pid rest × IsBehindSpaces rest body)
    ⊎ ((pid ≡ 0) × (body ≡ text) × ((n : ℕ) (rest : List ℕ) → IsPrefixed text n rest → ⊥))

-- ---- the forms of a body

-- the form of a call, which names it and is neither a half nor a call that never returned
pub record IsCall (name : Name) (text : List ℕ) : Type 0 where
  pub names : BeginsWith (call_head name) text
  pub returned : NeverReturned text → ⊥
  pub whole : EndsWith unfinished text → ⊥

-- what is kept of a first half: all before the spaces and the ending
pub record IsHalf (text half : List ℕ) : Type 0 where
  pub spaces : List ℕ
  pub only_spaces : EachIs (is 32) spaces
  pub parts : text ≡ half ++ (spaces ++ unfinished)
  pub ended : (front : List ℕ) → half ≢ front ++ (32 ∷ [])

-- what is kept of a second half: all behind its beginning and the spaces
abbrev pub IsResumption : Name → List ℕ → List ℕ → Type 0
IsResumption name text rest = (behind : List ℕ) × (text ≡ resumed_head name ++ behind) × IsBehindSpaces behind rest

-- none of the other forms
pub record NoForm (text : List ℕ) : Type 0 where
  pub no_signal : BeginsWith (codes "---") text → ⊥
  pub no_exit : BeginsWith (codes "+++") text → ⊥
  pub no_resumption : (name : Name) → BeginsWith (resumed_head name) text → ⊥
  pub no_call : (name : Name) → BeginsWith (call_head name) text → ⊥

-- the forms of a body that is passed over
abbrev pub IsOther : List ℕ → Type 0
IsOther text = BeginsWith (codes "---") text
    ⊎ BeginsWith (codes "+++") text
    ⊎ ((name : Name) × BeginsWith (call_head name) text × NeverReturned text)
    ⊎ ((name : Name) × IsCall name text × (call name).takes text [] Other)
    ⊎ NoForm text

-- a body and what it is
unfoldable pub IsBody : List ℕ → Body → Type 0
IsBody text (Called done recorded) = (name : Name) × IsCall name text × (call name).takes text [] (Called done recorded)
IsBody text (FirstHalf name len) = (half : List ℕ) × BeginsWith (call_head name) text × IsHalf text half × (len ≡ length half)
IsBody text (SecondHalf name left) = (rest : List ℕ) × IsResumption name text rest × (left ≡ length rest)
IsBody text Other = IsOther text

-- where a body is refused, and why
unfoldable pub RefusesBody : List ℕ → Refusal → Type 0
RefusesBody text refusal = (name : Name) × (column : ℕ) × IsCall name text × Refused (call name) text column refusal.what
    × (column + refusal.left ≡ length text + 1)

-- ---- whole lines

-- a whole line and what it is; places are counted from 0
unfoldable pub Spells : List ℕ → Item → Type 0
Spells text (Played pid done recorded) = (body : List ℕ) × IsCut text pid body × IsBody body (Called done recorded)
Spells text (Unfinished pid name from to) = (body : List ℕ) × (len : ℕ) × IsCut text pid body × IsBody body (FirstHalf name len)
    × (from + length body ≡ length text) × (to ≡ from + len)
Spells text (Resumed pid name from) = (body : List ℕ) × (left : ℕ) × IsCut text pid body × IsBody body (SecondHalf name left) × (from + left ≡ length text)
Spells text Skipped = (text ≢ []) × (pid : ℕ) × (body : List ℕ) × IsCut text pid body × IsBody body Other
Spells text Blank = text ≡ []

-- where a line is refused, and why; columns are counted from 1, in the whole line
unfoldable pub Refuses : List ℕ → BadCall → Type 0
Refuses text bad = (pid : ℕ) × (body : List ℕ) × (refusal : Refusal) × IsCut text pid body × RefusesBody body refusal
    × (bad.column + refusal.left ≡ length text + 1) × (bad.what ≡ refusal.what)

-- the sets of bits of a call have no bit but the named ones
abbrev pub IsNamedBody : Body → Type 0
IsNamedBody (Called done recorded) = IsNamedCall done
IsNamedBody (FirstHalf name len) = Unit {0}
IsNamedBody (SecondHalf name left) = Unit {0}
IsNamedBody Other = Unit {0}

-- the sets of bits of a call that is played have no bit but the named ones
abbrev pub IsNamedItem : Item → Type 0
IsNamedItem (Played pid done recorded) = IsNamedCall done
IsNamedItem (Unfinished pid name from to) = Unit {0}
IsNamedItem (Resumed pid name from) = Unit {0}
IsNamedItem Skipped = Unit {0}
IsNamedItem Blank = Unit {0}
