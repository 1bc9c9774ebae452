use Rattle.std.proofs.Common.{◌++◌, arith, ap, ◌∙◌}
use Rattle.std.proofs.lemmas.Result.{on_err_weaker}
use Rattle.maps_printer.specs.Lines.{entry_line}
use Rattle.byte_ports.proofs.Pieces.{on_err}
use Rattle.maps_printer.proofs.Waiting.{AppendsAllBut-flush_failed, lines_go_on, lines_done, lines_stop}
use Rattle.maps_printer.proofs.log.write_log.Goals as goal

-- with one entry more its line is written or waits too, and there is room for the next
pub loop-entry-preserved : goal.loop-entry-preserved
loop-entry-preserved g c =
    let pushed = c.push_entry.ensures.text ∙ ap (λ e. c.loop-entry.buffer ++ entry_line e) c.entry-item.is in (
      lines_go_on entry_line _ _ _ _ _ _ _ _ _ c.loop-entry-test.true c.loop-entry.invariant.0 pushed c.in_ok-make_room.ensures.moved,
      c.in_ok-make_room.ensures.room,
      omega arith,
    )

-- where the sink failed while room was made, a first part of the log was written
pub returns-in_err-make_room-clause-failed_prefix : goal.returns-in_err-make_room-clause-failed_prefix
returns-in_err-make_room-clause-failed_prefix g c =
    let pushed = c.push_entry.ensures.text ∙ ap (λ e. c.loop-entry.buffer ++ entry_line e) c.entry-item.is in
    on_err _ (lines_stop entry_line _ _ _ _ _ _ _ _ c.loop-entry-test.true c.loop-entry.invariant.0 pushed c.in_err-make_room.ensures.failed_prefix)

-- where it failed at the last flush, a first part of the log was written
pub returns-clause-failed_prefix : goal.returns-clause-failed_prefix
returns-clause-failed_prefix g c = on_err_weaker c.flush.result (AppendsAllBut-flush_failed _
    (lines_done entry_line _ _ _ _ _ c.loop-entry-test.false c.loop-entry.invariant.0)) c.flush.ensures.failed_prefix
