use Rattle.std.proofs.Common.{◌++◌, arith, ap, ◌∙◌}
use Rattle.std.proofs.lemmas.Result.{on_err_weaker}
use Rattle.maps_printer.specs.Lines.{differing_line}
use Rattle.byte_ports.proofs.Pieces.{on_err}
use Rattle.maps_printer.proofs.Waiting.{AppendsAllBut-flush_failed, lines_go_on, lines_done, lines_stop}
use Rattle.maps_printer.proofs.differing.write_differing.Goals as goal

-- with one reply more its line is written or waits too, and there is room for the next
pub loop-reply-preserved : goal.loop-reply-preserved
loop-reply-preserved g c =
    let pushed = c.push_differing.ensures.text ∙ ap (λ d. c.loop-reply.buffer ++ differing_line d) c.reply-item.is in (
      lines_go_on differing_line _ _ _ _ _ _ _ _ _ c.loop-reply-test.true c.loop-reply.invariant.0 pushed c.in_ok-make_room.ensures.moved,
      c.in_ok-make_room.ensures.room,
      omega arith,
    )

-- where the sink failed while room was made, a first part of the text was written
pub returns-in_err-make_room-clause-failed_prefix : goal.returns-in_err-make_room-clause-failed_prefix
returns-in_err-make_room-clause-failed_prefix g c =
    let pushed = c.push_differing.ensures.text ∙ ap (λ d. c.loop-reply.buffer ++ differing_line d) c.reply-item.is in
    on_err _ (lines_stop differing_line _ _ _ _ _ _ _ _ c.loop-reply-test.true c.loop-reply.invariant.0 pushed c.in_err-make_room.ensures.failed_prefix)

-- where it failed at the last flush, a first part of the text was written
pub returns-clause-failed_prefix : goal.returns-clause-failed_prefix
returns-clause-failed_prefix g c = on_err_weaker c.flush.result (AppendsAllBut-flush_failed _
    (lines_done differing_line _ _ _ _ _ c.loop-reply-test.false c.loop-reply.invariant.0)) c.flush.ensures.failed_prefix
