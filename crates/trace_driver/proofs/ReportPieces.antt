-- The report is written in five parts, one after the other.
use Rattle.std.proofs.Common.{ℕ, List, length, Option, Result}
use Rattle.std.specs.Prelude.{OnOk, OnErr}
use Rattle.std.proofs.lemmas.Result.{on_err_weaker, on_ok_weaker}
use Rattle.std.specs.Io.KnownBytes.{Appends}
use Rattle.std.proofs.KnownBytes.{Appends-trans}
use Rattle.byte_ports.specs.Bytes.{AppendsPrefix}
use Rattle.byte_ports.proofs.Pieces.{AppendsPrefix-after}
use Rattle.space_model.specs.declared.areas.Area.{Area}
use Rattle.space_model.specs.declared.entries.Entry.{Entry}
use Rattle.area_changes.specs.declared.changes.EntryChange.{EntryChange}
use Rattle.maps_printer.specs.declared.differing.DifferingReply.{DifferingReply}
use Rattle.maps_printer.specs.Lines.{maps_text, summary_text}
use Rattle.trace_driver.specs.declared.report.Counts.{Counts}
use Rattle.command_words.specs.declared.commands.Options.{Options}
use Rattle.trace_driver.specs.Report.{asked_changes, asked_log, asked_touched, report_text}

-- what the summary says
abbrev pub summary_of : List Entry → Counts → List ℕ
summary_of entries counts = summary_text (length entries) counts.skipped counts.refused counts.differ

module _ {T E : Type 0} (r : Result T E) (a b c d e f : Option (List ℕ)) (options : Options) (areas : List Area) (entries : List Entry)
    (differing : List DifferingReply) (changes : List EntryChange) (counts : Counts) where
  -- a log, the changes, the maps, the summary and the whole count, one behind the other, are the whole report
  pub report_all : Appends a b (asked_log options entries differing) → Appends b c (asked_changes options changes)
      → Appends c d (maps_text areas) → Appends d e (summary_of entries counts)
      → OnOk r (Appends e f (asked_touched options counts.touched)) → OnOk r (Appends a f (report_text options areas entries differing changes counts))
  report_all log changed maps summary count = on_ok_weaker r (λ last. Appends-trans a b f (asked_log options entries differing) _ log
      (Appends-trans b c f (asked_changes options changes) _ changed
      (Appends-trans c d f (maps_text areas) _ maps (Appends-trans d e f (summary_of entries counts) _ summary last)))) count

  -- a log, the changes, the maps, the summary and a first part of the count are a first part of the report
  pub report_prefix : Appends a b (asked_log options entries differing) → Appends b c (asked_changes options changes)
      → Appends c d (maps_text areas) → Appends d e (summary_of entries counts)
      → OnErr r (AppendsPrefix e f (asked_touched options counts.touched))
      → OnErr r (AppendsPrefix a f (report_text options areas entries differing changes counts))
  report_prefix log changed maps summary count = on_err_weaker r (λ last. AppendsPrefix-after a (asked_log options entries differing) log
      (AppendsPrefix-after b (asked_changes options changes) changed
      (AppendsPrefix-after c (maps_text areas) maps (AppendsPrefix-after d (summary_of entries counts) summary last)))) count
