-- The report of a run, as one text: the log where it is asked for, or its lines whose reply differs alone, each with
-- what was recorded, the changes of each call where they are asked for, the maps of the last areas, the summary, and
-- how many pages were touched where that is asked for. The texts of its parts are the printer's. The order of the parts
-- and what is counted are this project's own profile.
use Rattle.std.specs.Prelude.{◌≡◌, ◌≢◌, ◌⊎◌, ◌↔◌, ℕ, ◌+◌, ◌^◌, ◌<◌, ◌∷◌, Bool, true, false, List, [], ◌++◌, Option, None, Some, length, count_by, slice_index_or, if◌then◌else◌}
use Rattle.std.specs.List.{AllPairs, Contains}
use Rattle.page_types.specs.declared.calls.Call.TheVariants.{Fault}
use Rattle.page_types.specs.declared.calls.Kind.{Kind}
use Rattle.page_types.specs.declared.calls.Reply.{Reply}
use Rattle.page_types.specs.declared.calls.Reply.TheVariants.{At, Zero, Granted, Refused}
use Rattle.page_types.specs.declared.sets.Access.{Access}
use Rattle.page_types.specs.Pages.{page_of}
use Rattle.space_model.specs.declared.areas.Area.{Area}
use Rattle.space_model.specs.declared.entries.Entry.{Entry}
use Rattle.area_changes.specs.declared.changes.EntryChange.{EntryChange}
use Rattle.maps_printer.specs.declared.differing.DifferingReply.{DifferingReply}
use Rattle.maps_printer.specs.Lines.{changes_text, differing_text, log_text, maps_text, summary_text, touched_text}
use Rattle.strace_reader.specs.declared.item.Recorded.{Recorded}
use Rattle.strace_reader.specs.Playing.{Agrees}
use Rattle.trace_driver.specs.declared.report.Counts.{Counts}
use Rattle.trace_driver.specs.declared.trace.Line.{Line}
use Rattle.command_words.specs.declared.commands.Options.{Options}

-- the reply is a refusal
abbrev pub is_refused : Reply → Bool
is_refused (At addr) = false
is_refused Zero = false
is_refused (Granted kind) = false
is_refused (Refused why) = true

-- how many entries have a refusal as their reply
abbrev pub refused_count : List Entry → ℕ
refused_count entries = count_by (λ entry. is_refused entry.reply) entries

-- the numbers of the lines rise
abbrev pub LinesRise : List Line → Type 0
LinesRise lines = AllPairs (λ one other. one.number < other.number) lines

-- the line of this number stands at that place
abbrev pub IsPlaceOf : List Line → ℕ → ℕ → Type 0
IsPlaceOf lines number place = (place < length lines) × ((d : Line) → (slice_index_or lines place d).number ≡ number)

-- no line has this number
abbrev pub HasNoLine : List Line → ℕ → Type 0
HasNoLine lines number = (line : Line) → Contains lines line → line.number ≢ number

-- this was recorded in the entry's line, and the entry's reply is not that
abbrev pub DiffersFrom : List Line → Entry → Recorded → Type 0
DiffersFrom lines entry recorded = (line : Line) × Contains lines line × (line.number ≡ entry.line)
    × (line.recorded ≡ Some recorded) × (¬ Agrees entry.reply recorded)

-- the entry's reply differs from the recorded result of its line
abbrev pub DiffersFromLine : List Line → Entry → Type 0
DiffersFromLine lines entry = (recorded : Recorded) × DiffersFrom lines entry recorded

-- so many entries have a reply that differs from the recorded result of their line
abbrev pub Differing : List Line → List Entry → ℕ → Type 0
Differing lines [] count = count ≡ 0
Differing lines (entry ∷ entries) count =
    (DiffersFromLine lines entry × ((rest : ℕ) × Differing lines entries rest × (count ≡ 1 + rest)))
    ⊎ ((¬ DiffersFromLine lines entry) × Differing lines entries count)

-- these are the entries whose reply differs from the recorded result of their line, in their order, each with that
abbrev pub AreDiffering : List Line → List Entry → List DifferingReply → Type 0
AreDiffering lines [] list = list ≡ []
AreDiffering lines (entry ∷ entries) list =
    ((recorded : Recorded) × DiffersFrom lines entry recorded × ((rest : List DifferingReply) × AreDiffering lines entries rest
    × (list ≡ (record { entry = entry; recorded = recorded }) ∷ rest)))
    ⊎ ((¬ DiffersFromLine lines entry) × AreDiffering lines entries list)

-- the replies with one more at their end, where a result is given that it differs from
abbrev pub with_other : Option Recorded → List DifferingReply → Entry → List DifferingReply
with_other None list entry = list
with_other (Some recorded) list entry = list ++ (record { entry = entry; recorded = recorded }) ∷ []

-- the log, where it is asked for: of the replies that differ where they are asked for, and otherwise of all entries
abbrev pub asked_log : Options → List Entry → List DifferingReply → List ℕ
asked_log options entries differing = if options.differ then differing_text differing else if options.log then log_text entries else []

-- the changes, where they are asked for
abbrev pub asked_changes : Options → List EntryChange → List ℕ
asked_changes options changes = if options.changes then changes_text changes else []

-- so many pages were touched: these are the pages of the faults among the entries that were granted, each counted once
pub record CountsTouched (entries : List Entry) (count : ℕ) : Type 0 where
  pub pages : List ℕ
  pub rising : AllPairs (λ one other. one < other) pages
  pub all : (page : ℕ) → Contains pages page ↔ ((entry : Entry) × (addr : ℕ) × (access : Access) × (kind : Kind)
      × Contains entries entry × (entry.call ≡ Fault addr access) × (entry.reply ≡ Granted kind) × (page ≡ page_of addr))
  pub counted : count ≡ length pages
  pub narrow : count < 2 ^ 32

-- how many pages were touched, where it is asked for
abbrev pub asked_touched : Options → ℕ → List ℕ
asked_touched options count = if options.touched then touched_text count else []

-- the whole report
abbrev pub report_text : Options → List Area → List Entry → List DifferingReply → List EntryChange → Counts → List ℕ
report_text options last entries differing changes counts =
    (if options.differ then differing_text differing else if options.log then log_text entries else [])
    ++ ((if options.changes then changes_text changes else []) ++ (maps_text last
    ++ (summary_text (length entries) counts.skipped counts.refused counts.differ
    ++ (if options.touched then touched_text counts.touched else []))))
