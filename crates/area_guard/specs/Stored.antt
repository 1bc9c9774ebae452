-- That the history of a running address space is the callers' entries, by number, that the rows show its last state,
-- that it is legal as the one-thread model has it, and that each number is drawn under the range that its entry
-- names. While a call under everything isn't written yet, its caller holds everything and has a plan that shows the
-- last state. What a caller has to write is always what the last of its entries leaves. Between two steps a reader may
-- take the entry of a number from the one caller who stores it.
use Rattle.std.specs.Prelude.{true, false, ℕ, ◌≡◌, ◌≢◌, ◌+◌, Option, List, [], ◌∷◌, ◌++◌, length, slice_index}
use mathlib.Core.Option.{some}
use lib.ListN.{get_elem?}
use Rattle.space_model.specs.declared.areas.Area.{Area}
use Rattle.space_model.specs.declared.entries.Entry.{Entry}
use Rattle.space_model.specs.declared.entries.Under.TheVariants.{Whole}
use Rattle.space_model.specs.History.{IsLegal, StateAfter}
use Rattle.lock_core.specs.Grants.{Grants, Holds}
use Rattle.lock_core.specs.Client.{ClientStep, loads, stores, adds, exchanges, words_after}
use Rattle.lock_core.specs.declared.range.Held.{Held}
use Rattle.area_guard.specs.declared.guard.Note.{Note}
use Rattle.area_guard.specs.declared.guard.Pass.{Pass}
use Rattle.area_guard.specs.declared.guard.Pending.TheVariants.{Planned}
use Rattle.area_guard.specs.declared.guard.Splice.{Splice}
use Rattle.area_guard.specs.Rows.{nb_in, keeps_in, number_place, IsLayoutPlace}
use Rattle.area_guard.specs.Reads.{everything}
use Rattle.area_guard.specs.History.{Runs, StartsWith, whole_count, planned_count, RowsStandFor, Backs, HasHistory, HoldsFor, Allowed, entry_of, rest_of}
use Rattle.area_guard.specs.History.{IsOwed, IsNew, MayStore, rows_after}

-- the caller of that number has the entry at that place among its own
abbrev pub Stores : List Pass → ℕ → ℕ → Entry → Type 0
Stores passes worker place e = (pass : Pass) × (get_elem? passes worker ≡ some pass) × (get_elem? pass.mine place ≡ some e)

-- one caller stores the entry at one place, and no other entry of any caller has its number
pub record IsStoredOnce (passes : List Pass) (e : Entry) : Type 0 where
  pub place : ℕ
  pub there : Stores passes e.worker place e
  pub once : (worker other : ℕ) (f : Entry) → Stores passes worker other f → f.number ≡ e.number
      → (worker ≡ e.worker) × (other ≡ place) × (f ≡ e)

-- the history has as many entries as the number word says, where the space keeps it. It runs from the start with which
-- each caller began to the state that the rows show, unless a call under everything isn't written yet; what is to be
-- written is right for that state and is what its caller's last entry leaves, and the caller holds the range. The entry
-- of each number is stored once, every stored entry is one of them, and each caller has seen a beginning
pub record IsStored (grants : Grants) (words : List ℕ) (passes : List Pass) (history : List Entry) (start state : List Area) : Type 0 where
  pub runs : Runs 0 start history state
  pub began : (worker : ℕ) (pass : Pass) → get_elem? passes worker ≡ some pass → pass.start ≡ start
  pub rows : planned_count passes ≡ 0 → RowsStandFor state passes words
  pub pending : (worker : ℕ) (pass : Pass) → get_elem? passes worker ≡ some pass → Backs grants state worker pass.pending
  pub owed : (worker : ℕ) (pass : Pass) → get_elem? passes worker ≡ some pass → IsOwed start history pass.mine pass.pending
  pub sequence : slice_index words 1 + planned_count passes ≡ whole_count history
  pub count : keeps_in words ≡ true → length history ≡ slice_index words (number_place (nb_in words))
  pub numbered : (n : ℕ) (e : Entry) → get_elem? history n ≡ some e → e.number ≡ n
  pub once : (n : ℕ) (e : Entry) → get_elem? history n ≡ some e → IsStoredOnce passes e
  pub no_other : (worker place : ℕ) (e : Entry) → Stores passes worker place e → get_elem? history e.number ≡ some e
  pub seen : (worker : ℕ) (pass : Pass) → get_elem? passes worker ≡ some pass → StartsWith history pass.seen

-- the rule of the guard stores one history, and its rows show the last state
abbrev pub HistoryIsStored : Type 0
HistoryIsStored = (grants : Grants) (words : List ℕ) (passes : List Pass) → HasHistory grants words passes
    → (history : List Entry) × (start : List Area) × (state : List Area) × IsStored grants words passes history start state

-- a caller has this plan to write, and holds everything; its last entry was numbered under everything, and leaves the
-- rows of the plan
pub record IsOfWhole (grants : Grants) (passes : List Pass) (worker : ℕ) (plan : Splice) : Type 0 where
  pub pass : Pass
  pub there : get_elem? passes worker ≡ some pass
  pub planned : pass.pending ≡ Planned plan
  pub holds : Holds grants worker everything
  pub others : List Entry
  pub entry : Entry
  pub last : pass.mine ≡ others ++ entry ∷ []
  pub under : entry.under ≡ Whole

-- the row count is stored by calls under everything alone, each of which leaves so many rows
abbrev pub CountIsOfWhole : Type 0
CountIsOfWhole = (grants : Grants) (words : List ℕ) (passes : List Pass) (worker value : ℕ) (note : Note) (after : Pass)
    → Allowed grants words passes worker (stores 2 value) note after
    → (plan : Splice) × IsOfWhole grants passes worker plan × (value ≡ length (rows_after plan))

-- so are the other words that say which words are rows, and in which order
abbrev pub LayoutIsOfWhole : Type 0
LayoutIsOfWhole = (grants : Grants) (words : List ℕ) (passes : List Pass) (worker place value : ℕ) (note : Note) (after : Pass)
    → IsLayoutPlace (nb_in words) place → Allowed grants words passes worker (stores place value) note after
    → (plan : Splice) × IsOfWhole grants passes worker plan

-- while a call under everything is to be written, its caller stores rows that stood before it or that it leaves, in
-- slots, their count, and words of the layout; and no word that stands there already
abbrev pub StoresAreNew : Type 0
StoresAreNew = (grants : Grants) (words : List ℕ) (passes : List Pass) (worker place value : ℕ) (note : Note) (pass after : Pass)
    (plan : Splice) → get_elem? passes worker ≡ some pass → pass.pending ≡ Planned plan
    → Allowed grants words passes worker (stores place value) note after
    → MayStore plan place value pass after × IsNew words place value

-- a run is legal, and leaves its last state
abbrev pub RunsAreLegal : Type 0
RunsAreLegal = (A B : List Area) (entries : List Entry) → Runs 0 A entries B → IsLegal A entries × StateAfter A entries B

-- a caller's own entries are as before, and what was held at the last draw
pub record KeepsDraw (before after : Pass) : Type 0 where
  pub mine : after.mine ≡ before.mine
  pub drew : after.drew ≡ before.drew

-- the step draws a number: an addition to the number word, or a load of it in a space that keeps no history
abbrev pub IsDraw : List ℕ → ClientStep → Type 0
IsDraw words (loads place) = (place ≡ number_place (nb_in words)) × (keeps_in words ≡ false)
IsDraw words (stores place value) = ⊥
IsDraw words (adds place by) = place ≡ number_place (nb_in words)
IsDraw words (exchanges place expected new) = ⊥

-- a step that draws a number is made while its caller holds what the entry names. The pass keeps what was held then,
-- and the caller sees the entry behind the history
abbrev pub DrawsHold : Type 0
DrawsHold = (grants : Grants) (words : List ℕ) (passes : List Pass) (worker : ℕ) (step : ClientStep) (note : Note) (after : Pass)
    → IsDraw words step → Allowed grants words passes worker step note after
    → (held : Option Held) × (get_elem? grants worker ≡ some held) × HoldsFor (keeps_in words) held note.under × (after.drew ≡ held)
    × (history : List Entry) × (after.seen ≡ history ++ entry_of (length history) worker note ∷ [])

-- every other step of a caller, and giving its range back, keep what was held at its last draw, and its own entries
abbrev pub LastDrawIsKept : Type 0
LastDrawIsKept = (grants : Grants) (words : List ℕ) (passes : List Pass) (worker : ℕ) (step : ClientStep) (note : Note)
    (pass after : Pass) → get_elem? passes worker ≡ some pass → ¬ IsDraw words step
    → Allowed grants words passes worker step note after → KeepsDraw pass after × KeepsDraw pass (rest_of pass)

-- every allowed step on a client word is counted since the caller's last draw, and a draw begins this count anew and
-- keeps what it was. Giving the range back leaves both
abbrev pub StepsAreCounted : Type 0
StepsAreCounted = (grants : Grants) (words : List ℕ) (passes : List Pass) (worker : ℕ) (step : ClientStep) (note : Note)
    (pass after : Pass) → get_elem? passes worker ≡ some pass → Allowed grants words passes worker step note after
    → (¬ IsDraw words step → (after.since ≡ pass.since + 1) × (after.took ≡ pass.took))
    × (IsDraw words step → (after.since ≡ 0) × (after.took ≡ pass.since)) × ((rest_of pass).since ≡ pass.since) × ((rest_of pass).took ≡ pass.took)

-- the word that tells whether the space keeps its history stands still, and so does the number word where it doesn't
abbrev pub WordStands : List ℕ → List ℕ → Type 0
WordStands words after = (keeps_in after ≡ keeps_in words)
    × (keeps_in words ≡ false → slice_index after (number_place (nb_in words)) ≡ slice_index words (number_place (nb_in words)))

-- no allowed step stores these words. So callers share the number word only where their space keeps its history
abbrev pub KeptWordStands : Type 0
KeptWordStands = (grants : Grants) (words : List ℕ) (passes : List Pass) (worker : ℕ) (step : ClientStep) (note : Note) (after : Pass)
    → Allowed grants words passes worker step note after → WordStands words (words_after words step)
