-- What a run wrote of the history that it played is the report of its input.
use Rattle.std.proofs.Common.{◌≡◌, ℕ, true, List, Option, inl, ap, subst, ◌∙◌}
use Rattle.area_changes.specs.declared.changes.EntryChange.{EntryChange}
use Rattle.area_changes.specs.Changes.{Make}
use Rattle.area_rows.specs.Callers.{ClosedView}
use Rattle.command_words.specs.Commands.{AskFor}
use Rattle.command_words.specs.declared.commands.Command.TheVariants.{Play}
use Rattle.command_words.specs.declared.commands.Options.{Options}
use Rattle.maps_printer.specs.declared.differing.DifferingReply.{DifferingReply}
use Rattle.space_model.specs.declared.areas.Area.{Area}
use Rattle.space_model.specs.declared.entries.Entry.{Entry}
use Rattle.trace_driver.specs.declared.report.Counts.{Counts}
use Rattle.trace_driver.specs.declared.script.Script.{Script}
use Rattle.trace_driver.specs.declared.trace.Line.{Line}
use Rattle.trace_driver.specs.Play.{IsHistoryOf}
use Rattle.trace_driver.specs.Report.{AreDiffering, CountsTouched, Differing, refused_count, report_text}
use Rattle.trace_driver.specs.Run.{Reports}
use Rattle.trace_driver.specs.Script.{IsReadScript}

-- what was read of the lines and the entries, by each function that looked at them, is what was played
pub reported : (words : List (List ℕ)) (options : Options) (threads : ℕ) (a b : Option (List ℕ)) (script : Script) (closed : ClosedView)
    (played lines others : List Line) (one two three four : List Entry) (differing listed : List DifferingReply) (changes made : List EntryChange)
    (areas : List Area) (counts : Counts) → AskFor words (Play options threads) → IsReadScript options a b script
    → played ≡ script.lines.items → IsHistoryOf threads script.opening played closed.entries closed.areas
    → (options.touched ≡ true → CountsTouched closed.entries counts.touched)
    → lines ≡ script.lines.items → one ≡ closed.entries → (options.differ ≡ true → AreDiffering lines one differing)
    → (options.changes ≡ true → Make script.opening one changes) → two ≡ closed.entries → counts.refused ≡ refused_count two
    → others ≡ script.lines.items → three ≡ closed.entries → Differing others three counts.differ
    → four ≡ closed.entries → areas ≡ closed.areas → listed ≡ differing → made ≡ changes → counts.skipped ≡ script.skipped
    → Reports words a b closed (report_text options areas four listed made counts)
reported words options threads a b script closed played lines others one two three four differing listed changes made areas counts asked read
    played_is history touches lines_is one_is differ change two_is refused others_is three_is differs four_is areas_is listed_is made_is skipped =
    inl (record {
      options = options;
      threads = threads;
      accepted = asked;
      bytes = read.0;
      input = read.1;
      holds = record {
        start = script.opening;
        lines = script.lines.items;
        skipped = script.skipped;
        script = read.2;
        played = subst (λ ls. IsHistoryOf threads script.opening ls closed.entries closed.areas) played_is history;
        differ = counts.differ;
        differs = subst (λ es. Differing script.lines.items es counts.differ) three_is (subst (λ ls. Differing ls three counts.differ) others_is differs);
        touched = counts.touched;
        touches = touches;
        differing = differing;
        differing_are = λ is. subst (λ es. AreDiffering script.lines.items es differing) one_is
            (subst (λ ls. AreDiffering ls one differing) lines_is (differ is));
        changes = changes;
        changes_are = λ is. subst (λ es. Make script.opening es changes) one_is (change is);
        text = λ i. report_text options (areas_is i) (four_is i) (listed_is i) (made_is i)
            (record { skipped = skipped i; refused = (refused ∙ ap refused_count two_is) i; differ = counts.differ; touched = counts.touched });
      };
    })
