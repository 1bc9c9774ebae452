-- The verdict on a log: how many entries a good one has, or the first wrong line with its cause. An earlier line comes
-- before a later one and the log before the rest; of one line the first cause that applies counts, in the order in
-- which they stand here. Lines are counted from 1. The causes are this project's own profile.
use Rattle.std.specs.Prelude.{◌≡◌, ◌≢◌, ◌⊎◌, ℕ, ◌+◌, ◌≤◌, List, [], ◌∷◌, ◌++◌, length, All, slice_get, Some}
use Rattle.space_model.specs.declared.areas.Area.{Area}
use Rattle.space_model.specs.declared.entries.Entry.{Entry}
use Rattle.space_model.specs.Answers.{Answers}
use Rattle.space_model.specs.Held.{FitsUnder}
use Rattle.history_check.specs.declared.verdict.WrongLog.{WrongLog}
use Rattle.history_check.specs.declared.verdict.WrongLog.TheVariants.{Form, Number, Order, Held, Reply, Rest}
use Rattle.history_check.specs.declared.verdict.Verdict.{Verdict}
use Rattle.history_check.specs.declared.verdict.Verdict.TheVariants.{Legal, Wrong}
use Rattle.history_check.specs.LogLines.{BeginsLog, IsLogLine}
use Rattle.history_check.specs.Logs.{IsLogAndRest, AreRight, AreRestLines, IsGoodLog, IsRestLine, WorkersRise}

-- why an entry behind these, which leave area list B, is none of such a history: its number isn't that of its place,
-- its line isn't above the last one of its worker, it held what doesn't fit, or its reply isn't the one that is due
abbrev pub FailsAs : List Area → List Entry → Entry → WrongLog → Type 0
FailsAs B before e Form = ⊥
FailsAs B before e Number = e.number ≢ length before
FailsAs B before e Order = (e.number ≡ length before) × ¬ WorkersRise (before ++ e ∷ [])
FailsAs B before e Held = (e.number ≡ length before) × WorkersRise (before ++ e ∷ []) × ¬ FitsUnder B e.call e.under
FailsAs B before e Reply =
    (e.number ≡ length before) × WorkersRise (before ++ e ∷ []) × FitsUnder B e.call e.under × ((C : List Area) → ¬ Answers B e.call e.reply C)
FailsAs B before e Rest = ⊥

-- the first wrong line is one of the log: those before it are right, and it has no entry, or its entry fails
pub record FailsInLog (A : List Area) (lines : List (List ℕ)) (line : ℕ) (why : WrongLog) : Type 0 where
  pub front : List (List ℕ)
  pub text : List ℕ
  pub behind : List (List ℕ)
  pub entries : List Entry
  -- what the entries before it leave
  pub state : List Area
  pub whole : lines ≡ front ++ text ∷ behind
  pub log_lines : All BeginsLog (front ++ text ∷ [])
  pub right : AreRight A front entries state
  pub place : line ≡ length front + 1
  pub fails : ((why ≡ Form) × ((e : Entry) → ¬ IsLogLine text e)) ⊎ ((e : Entry) × IsLogLine text e × FailsAs state entries e why)

-- the rest of a log that leaves these areas fails at this place, counted from 0: the lines before are right, and the
-- line there is another, or there is none where one is due
pub record FailsAt (B : List Area) (rest : List (List ℕ)) (count : ℕ) : Type 0 where
  pub before : AreRestLines B rest count
  pub fails : ((text : List ℕ) × (slice_get rest count ≡ Some text) × ¬ IsRestLine B count text) ⊎ ((count ≡ length rest) × (count ≤ length B))

-- each line of the log is right, and the first wrong line is one of the rest, or the one behind it
pub record FailsInRest (A : List Area) (lines : List (List ℕ)) (line : ℕ) : Type 0 where
  pub log : List (List ℕ)
  pub rest : List (List ℕ)
  pub entries : List Entry
  -- what the entries leave
  pub last : List Area
  pub cut : IsLogAndRest lines log rest
  pub right : AreRight A log entries last
  pub some_rest : rest ≢ []
  -- how many lines of the rest are right
  pub count : ℕ
  pub place : line ≡ length log + count + 1
  pub fails : FailsAt last rest count

-- the verdict on a log from area list A
abbrev pub IsVerdict : List Area → List (List ℕ) → Verdict → Type 0
IsVerdict A lines (Legal n) = (entries : List Entry) × IsGoodLog A lines entries × (n ≡ length entries)
IsVerdict A lines (Wrong line Form) = FailsInLog A lines line Form
IsVerdict A lines (Wrong line Number) = FailsInLog A lines line Number
IsVerdict A lines (Wrong line Order) = FailsInLog A lines line Order
IsVerdict A lines (Wrong line Held) = FailsInLog A lines line Held
IsVerdict A lines (Wrong line Reply) = FailsInLog A lines line Reply
IsVerdict A lines (Wrong line Rest) = FailsInRest A lines line
