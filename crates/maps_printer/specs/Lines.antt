-- The texts as functions of what they show: the maps of an address space, as proc_pid_maps(5) has them, and the log
-- of a history and the summary of a run, which are this project's own profile. The text of a list is the texts of its
-- items one after the other, so a first part of the list has a first part of the text.
use Rattle.std.specs.Prelude.{ℕ, List, ◌++◌, Option, Some, None, codes, decimal}
use Rattle.std.specs.List.{flat_map}
use Rattle.page_types.specs.declared.pages.Span.{Span}
use Rattle.page_types.specs.declared.calls.Kind.{Kind}
use Rattle.space_model.specs.declared.areas.Area.{Area}
use Rattle.area_changes.specs.declared.changes.EntryChange.{EntryChange}
use Rattle.space_model.specs.declared.entries.Entry.{Entry}
use Rattle.space_model.specs.declared.entries.Under.{Under}
use Rattle.space_model.specs.declared.entries.Under.TheVariants.{Nothing, Reader, Area as UnderArea, Whole}
use Rattle.maps_printer.specs.declared.differing.DifferingReply.{DifferingReply}
use Rattle.maps_printer.specs.Numbers.{page_address, prefixed_hex}
use Rattle.maps_printer.specs.Calls.{call_text, recorded_text, reply_text}
use Rattle.maps_printer.specs.Words.{kind_text, log_kind}

-- proc_pid_maps(5): addresses, permissions, and the offset, device and inode of memory that no file backs
abbrev pub area_line : Area → List ℕ
area_line a = page_address a.lo ++ codes "-" ++ page_address a.hi ++ codes " " ++ kind_text a.kind ++ codes " 00000000 00:00 0\n"

-- a line for each area
abbrev pub maps_text : List Area → List ℕ
maps_text areas = flat_map area_line areas

-- how many calls were played, lines were skipped, calls were refused, and replies differ from what was recorded
abbrev pub summary_text : ℕ → ℕ → ℕ → ℕ → List ℕ
summary_text played skipped refused differ = codes "played " ++ decimal played ++ codes " skipped " ++ decimal skipped
    ++ codes " refused " ++ decimal refused ++ codes " differ " ++ decimal differ ++ codes "\n"

-- how many pages were touched
abbrev pub touched_text : ℕ → List ℕ
touched_text count = codes "touched " ++ decimal count ++ codes "\n"

-- a span as its first page and the page after its last one
abbrev pub span_text : Span → List ℕ
span_text s = prefixed_hex s.lo ++ codes "-" ++ prefixed_hex s.hi

-- which range was held when the call's number was drawn
abbrev pub under_text : Under → List ℕ
under_text Nothing = codes "none"
under_text (Reader span) = codes "reader " ++ span_text span
under_text (UnderArea span) = codes "area " ++ span_text span
under_text Whole = codes "whole"

-- number, worker and line, the call, its reply, what was held, and an ending
abbrev pub entry_ended : Entry → List ℕ → List ℕ
entry_ended e ending = decimal e.number ++ codes " " ++ decimal e.worker ++ codes " " ++ decimal e.line ++ codes " "
    ++ call_text e.call ++ codes " = " ++ reply_text e.reply ++ codes " under " ++ under_text e.under ++ ending

-- the line of an entry ends there
abbrev pub entry_line : Entry → List ℕ
entry_line e = entry_ended e (codes "\n")

-- a line for each entry
abbrev pub log_text : List Entry → List ℕ
log_text entries = flat_map entry_line entries

-- the line of an entry, with what was recorded of its call before its end
abbrev pub differing_line : DifferingReply → List ℕ
differing_line d = entry_ended d.entry (codes " recorded ") ++ recorded_text d.recorded ++ codes "\n"

-- a line for each reply that isn't the recorded one
abbrev pub differing_text : List DifferingReply → List ℕ
differing_text replies = flat_map differing_line replies

-- the kind of a page as a log has it, or that it isn't mapped; this project's own profile
abbrev pub kind_or_none : Option Kind → List ℕ
kind_or_none None = codes "none"
kind_or_none (Some kind) = log_kind kind

-- what the call of an entry changed: the entry's number, the addresses as maps have them, and the kind of the pages
-- before and after the call; this project's own profile
abbrev pub change_line : EntryChange → List ℕ
change_line c = decimal c.number ++ codes " " ++ page_address c.change.lo ++ codes "-" ++ page_address c.change.hi ++ codes " "
    ++ kind_or_none c.change.before ++ codes " " ++ kind_or_none c.change.after ++ codes "\n"

-- a line for each change
abbrev pub changes_text : List EntryChange → List ℕ
changes_text changes = flat_map change_line changes
