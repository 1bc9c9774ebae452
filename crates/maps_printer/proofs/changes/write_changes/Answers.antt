use Rattle.std.proofs.Common.{arith}
use Rattle.std.proofs.lemmas.Result.{on_err_weaker}
use Rattle.maps_printer.specs.Lines.{change_line}
use Rattle.byte_ports.proofs.Pieces.{on_err}
use Rattle.maps_printer.proofs.Waiting.{AppendsAllBut-flush_failed, lines_go_on, lines_done, lines_stop}
use Rattle.maps_printer.proofs.changes.write_changes.Goals as goal

-- with one change more its line is written or waits too, and there is room for the next
pub loop-change-preserved : goal.loop-change-preserved
loop-change-preserved g c = (
  lines_go_on change_line _ _ _ _ _ _ _ _ _ c.loop-change-test.true c.loop-change.invariant.0 c.push_change.ensures.text c.in_ok-make_room.ensures.moved,
  c.in_ok-make_room.ensures.room,
  omega arith,
)

-- where the sink failed while room was made, a first part of the text was written
pub returns-in_err-make_room-clause-failed_prefix : goal.returns-in_err-make_room-clause-failed_prefix
returns-in_err-make_room-clause-failed_prefix g c = on_err _
    (lines_stop change_line _ _ _ _ _ _ _ _ c.loop-change-test.true c.loop-change.invariant.0 c.push_change.ensures.text
    c.in_err-make_room.ensures.failed_prefix)

-- where it failed at the last flush, a first part of the text was written
pub returns-clause-failed_prefix : goal.returns-clause-failed_prefix
returns-clause-failed_prefix g c = on_err_weaker c.flush.result (AppendsAllBut-flush_failed _
    (lines_done change_line _ _ _ _ _ c.loop-change-test.false c.loop-change.invariant.0)) c.flush.ensures.failed_prefix
