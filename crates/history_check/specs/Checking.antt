-- What the parts of the check say to each other; of private functions. A part is told of the entries before by what is
-- remembered of them, so its clauses range over every list of entries of which that is remembered.
use Rattle.std.specs.Prelude.{◌≡◌, ◌⊎◌, ℕ, ◌+◌, ◌^◌, ◌<◌, Option, Some, None, List, [], ◌∷◌, ◌++◌, length, All, slice_index}
use Rattle.std.specs.List.{Contains}
use Rattle.space_model.specs.declared.areas.Area.{Area}
use Rattle.space_model.specs.declared.entries.Entry.{Entry}
use Rattle.space_model.specs.History.{FitsAndReplies}
use Rattle.line_parts.specs.Lines.{lines_of}
use Rattle.maps_printer.specs.Lines.{area_line}
use Rattle.history_check.specs.declared.verdict.WrongLog.{WrongLog}
use Rattle.history_check.specs.declared.verdict.WrongLog.TheVariants.{Form, Rest}
use Rattle.history_check.specs.declared.verdict.Verdict.{Verdict}
use Rattle.history_check.specs.declared.verdict.Verdict.TheVariants.{Legal, Wrong}
use Rattle.history_check.specs.declared.taking.Seen.{Seen}
use Rattle.history_check.specs.LogLines.{HasNarrowRows, IsLogLine}
use Rattle.history_check.specs.Logs.{AreRestLines, WorkersRise}
use Rattle.history_check.specs.Verdicts.{FailsAs, FailsAt}

-- one of the entries is of this worker, and this number is its line plus 1
abbrev pub HasLine : List Entry → ℕ → ℕ → Type 0
HasLine before worker next = (e : Entry) × Contains before e × (e.worker ≡ worker) × (e.line + 1 ≡ next)

-- the worker's line number plus 1 is above those of its entries
abbrev pub IsBelow : List ℕ → Entry → Type 0
IsBelow last e = (e.worker < 16) × (e.line < slice_index last e.worker)

-- this is remembered of the entries: their number, and of each worker the line of its last one plus 1, or 0
pub record IsSeen (before : List Entry) (seen : Seen) : Type 0 where
  pub number : seen.next ≡ length before
  pub rise : WorkersRise before
  pub above : All (IsBelow seen.last) before
  pub last : (worker : ℕ) → worker < 16 → (slice_index seen.last worker ≡ 0) ⊎ HasLine before worker (slice_index seen.last worker)

-- the number of an entry behind these is that of its place, and its line number is above the last one of its worker
pub record IsInPlace (before : List Entry) (e : Entry) : Type 0 where
  pub number : e.number ≡ length before
  pub order : WorkersRise (before ++ e ∷ [])

-- whether an entry behind those is in its place, or why not
abbrev pub TellsPlace : List Entry → Entry → Option WrongLog → Type 0
TellsPlace before e None = IsInPlace before e
TellsPlace before e (Some why) = (A : List Area) → FailsAs A before e why

-- whether an entry in its place held what it has to and has the right reply on area list A, and leaves B, or why not
abbrev pub TellsCall : List Area → Entry → Option WrongLog → List Area → Type 0
TellsCall A e None B = FitsAndReplies A e B
TellsCall A e (Some why) B = (before : List Entry) → IsInPlace before e → FailsAs A before e why

-- why a line behind those entries is none of the log: it has no entry, or its entry fails
abbrev pub FailsLine : List Area → List Entry → List ℕ → WrongLog → Type 0
FailsLine A before text why = ((why ≡ Form) × ((e : Entry) → ¬ IsLogLine text e)) ⊎ ((e : Entry) × IsLogLine text e × FailsAs A before e why)

-- the line was taken behind those entries and leaves area list B, or why not
abbrev pub IsTaken : List Entry → List Area → List ℕ → Option WrongLog → List Area → Seen → Type 0
IsTaken before A text None B seen = (e : Entry) × IsLogLine text e × IsInPlace before e × FitsAndReplies A e B × IsSeen (before ++ e ∷ []) seen
IsTaken before A text (Some why) B seen = FailsLine A before text why

-- the lines don't begin with that of this area
abbrev pub LacksArea : Area → List (List ℕ) → Type 0
LacksArea a [] = Unit {0}
LacksArea a (line ∷ lines) = ¬ (line ++ 10 ∷ [] ≡ area_line a)

-- the text begins with the line of this area, and behind it comes the rest
pub record IsBehindArea (a : Area) (text rest : List ℕ) : Type 0 where
  pub line : List ℕ
  pub lines : lines_of text ≡ line ∷ lines_of rest
  pub line_is : line ++ 10 ∷ [] ≡ area_line a
  pub shorter : length rest < length text

-- these are the whole rest of a log that leaves these areas: lines of it alone, and none is missing
pub record IsWholeRest (B : List Area) (rest : List (List ℕ)) : Type 0 where
  pub lines : AreRestLines B rest (length rest)
  pub long : length B < length rest

-- the verdict on what follows a log of so many entries that leave these areas
abbrev pub TellsRest : List Area → List (List ℕ) → ℕ → Verdict → Type 0
TellsRest B rest entries (Legal n) = (n ≡ entries) × IsWholeRest B rest
TellsRest B rest entries (Wrong line why) = (why ≡ Rest) × (count : ℕ) × (line ≡ entries + count + 1) × FailsAt B rest count

-- the numbers of an entry that are narrower than 64 bits are so
pub record IsNarrow (e : Entry) : Type 0 where
  pub line : e.line < 2 ^ 32
  pub rows : HasNarrowRows e.reply
