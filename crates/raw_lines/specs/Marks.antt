-- Lines that strace(1) prints of itself, and the mark of a line that couldn't be read. A message of strace begins with
-- the program's name, and stands on a line of its own or breaks into another line, as strace writes both to standard
-- error. The mark is this project's own: it begins as the line of a signal does, so that a reader passes the line over.
use Rattle.std.specs.Prelude.{◌≡◌, ◌⊎◌, ℕ, List, [], ◌++◌, Bool, true, false, ◌==◌, if◌then◌else◌, codes}
use Rattle.line_parts.specs.Leaves.{EachIs, Digits}
use Rattle.strace_reader.specs.Grammar.{BeginsWith, EndsWith}

-- what a line begins with that is passed on unread
abbrev pub unread_mark : List ℕ
unread_mark = codes "--- unread: "

-- the line with that mark
abbrev pub unread_text : List ℕ → List ℕ
unread_text text = unread_mark ++ text

-- the line bears that mark
abbrev pub IsUnread : List ℕ → Type 0
IsUnread text = BeginsWith unread_mark text

-- a line of a stack, as the option -k adds them behind a call
abbrev pub IsStackLine : List ℕ → Type 0
IsStackLine text = BeginsWith (codes " > ") text

-- the byte is no space
abbrev pub is_no_space : ℕ → Bool
is_no_space byte = if byte == 32 then false else true

-- the folder of a program: nothing, or bytes without a space that end with a slash
abbrev pub IsFolder : List ℕ → Type 0
IsFolder path = EachIs is_no_space path × ((path ≡ []) ⊎ EndsWith (codes "/") path)

-- a message on a line of its own
abbrev pub IsMessage : List ℕ → Type 0
IsMessage text = (path rest : List ℕ) × IsFolder path × (text ≡ path ++ (codes "strace: " ++ rest))

-- what a message that breaks into a line ends with
abbrev pub IsVerb : List ℕ → Type 0
IsVerb verb = (verb ≡ codes " attached") ⊎ (verb ≡ codes " detached")

-- a message broke into the line, behind these bytes of it
abbrev pub IsBroken : List ℕ → List ℕ → Type 0
IsBroken text front = (digits verb : List ℕ) × (n : ℕ) × Digits 10 digits n × IsVerb verb
    × (text ≡ front ++ (codes "strace: Process " ++ (digits ++ verb)))
