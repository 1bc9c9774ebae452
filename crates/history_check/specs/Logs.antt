-- A good log: the log of a history, and behind it nothing, or what its run leaves. The first lines of a text are its
-- log as long as they begin as log lines do, so where the log ends is seen from the lines alone. A reader may rely on a
-- good log to be one of a legal history, in which each call held what it has to. The form is this project's own
-- profile.
use Rattle.std.specs.Prelude.{◌≡◌, ◌⊎◌, ℕ, zero, suc, ◌<◌, List, [], ◌∷◌, ◌++◌, length, codes, slice_get, Some, IfSome, All}
use Rattle.std.specs.List.{AllPairs, AllZip}
use Rattle.space_model.specs.declared.areas.Area.{Area}
use Rattle.space_model.specs.declared.entries.Entry.{Entry}
use Rattle.space_model.specs.History.{Runs}
use Rattle.strace_reader.specs.Grammar.{BeginsWith}
use Rattle.maps_printer.specs.Lines.{area_line}
use Rattle.history_check.specs.LogLines.{BeginsLog, IsLogLine}

-- the lines of the log, up to the first that doesn't begin so, and the rest
pub record IsLogAndRest (lines log rest : List (List ℕ)) : Type 0 where
  -- the log comes first
  pub whole : lines ≡ log ++ rest
  -- each of its lines begins as one of a log
  pub log_lines : All BeginsLog log
  -- the rest is empty, or its first line begins otherwise
  pub ended : IfSome (slice_get rest 0) (λ line. ¬ BeginsLog line)

-- the line numbers of each worker rise
abbrev pub WorkersRise : List Entry → Type 0
WorkersRise = AllPairs (λ one other. one.worker ≡ other.worker → one.line < other.line)

-- the lines are those of these entries, which lead from one area list to another, numbered from 0; each fits what it
-- held and has the right reply, and the line numbers of each worker rise
pub record AreRight (A : List Area) (lines : List (List ℕ)) (entries : List Entry) (B : List Area) : Type 0 where
  pub spelled : AllZip IsLogLine lines entries
  pub runs : Runs 0 A entries B
  pub rise : WorkersRise entries

-- this is a line of the rest at its place, counted from 0: a maps line for each area, then one line that begins
-- `played `, then at most one that begins `touched `
abbrev pub IsRestLine : List Area → ℕ → List ℕ → Type 0
IsRestLine [] zero text = BeginsWith (codes "played ") text
IsRestLine [] (suc zero) text = BeginsWith (codes "touched ") text
IsRestLine [] (suc (suc i)) text = ⊥
IsRestLine (a ∷ B) zero text = text ++ 10 ∷ [] ≡ area_line a
IsRestLine (a ∷ B) (suc i) text = IsRestLine B i text

-- the lines at the places before this one are lines of the rest
abbrev pub AreRestLines : List Area → List (List ℕ) → ℕ → Type 0
AreRestLines B rest count = (i : ℕ) (text : List ℕ) → i < count → slice_get rest i ≡ Some text → IsRestLine B i text

-- from area list A the lines are a good log of these entries
pub record IsGoodLog (A : List Area) (lines : List (List ℕ)) (entries : List Entry) : Type 0 where
  pub log : List (List ℕ)
  pub rest : List (List ℕ)
  -- what the entries leave
  pub last : List Area
  pub cut : IsLogAndRest lines log rest
  pub right : AreRight A log entries last
  -- nothing follows, or lines of the rest alone, and none is missing up to the one that begins `played `
  pub whole : (rest ≡ []) ⊎ (AreRestLines last rest (length rest) × (length last < length rest))
