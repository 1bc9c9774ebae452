use Rattle.std.proofs.Common.{refl}
use Rattle.trace_driver.proofs.CleanLemmas.{run_wrote, run_checked, err_faults, err_line, out_faults, out_complete, is_done}
use Rattle.trace_driver.proofs.clean.run_clean.Goals as goal

-- what the run wrote into the sized sink is what the caller's sink holds
pub returns-clause-out : goal.returns-clause-out
returns-clause-out g c = run_wrote _ _ _ c.args.out.now c.sized-sized_out.result.sink c.run-status.new.out.sink
    c.run-status.result c.sized-sized_out.ensures c.run-status.ensures.out

-- so it is with what a check said
pub returns-clause-verdict : goal.returns-clause-verdict
returns-clause-verdict g c = run_checked _ _ c.args.out.now c.sized-sized_out.result.sink c.run-status.new.out.sink
    c.run-status.result c.sized-sized_out.ensures c.run-status.ensures.verdict

-- the caller's sink for errors has the whole line of the status
pub returns-clause-err : goal.returns-clause-err
returns-clause-err g c = err_line c.args.err.now c.sized-sized_err.result.sink c.run-status.new.err.sink c.sized-sized_err.ensures
    c.requires.err_room c.run-status.result c.line_is_short.ensures c.run-status.ensures.err

-- the sink for errors counts no new failure
pub returns-clause-err_faults : goal.returns-clause-err_faults
returns-clause-err_faults g c = err_faults c.args.err.now c.sized-sized_err.result.sink c.run-status.new.err.sink
    c.sized-sized_err.ensures c.requires.err_room c.run-status.result c.line_is_short.ensures c.run-status.ensures.err

-- with room for each report the sink for it counts no new failure
pub returns-clause-out_faults : goal.returns-clause-out_faults
returns-clause-out_faults g c = λ room. out_faults c.args.out.now c.sized-sized_out.result.sink c.run-status.new.out.sink
    c.sized-sized_out.ensures c.requires.out_room _ _ _ c.run-status.result room c.run-status.ensures.out c.run-status.ensures.verdict

-- with such room the run ended as its words and its bytes call for, or for want of memory
pub returns-clause-complete : goal.returns-clause-complete
returns-clause-complete g c = λ room.
    out_complete c.args.out.now c.sized-sized_out.result.sink c.run-status.new.out.sink c.sized-sized_out.ensures
    c.requires.out_room _ _ _ c.run-status.result room c.run-status.ensures.out c.run-status.ensures.verdict (c.run-status.ensures.complete _ refl)

-- with such room it is done where that is called for, unless there was no memory
pub returns-clause-done : goal.returns-clause-done
returns-clause-done g c = λ room called. is_done _ _ c.run-status.result (returns-clause-complete g c room) called
