use Rattle.std.proofs.Common.{rules, ◌-◌}
use Rattle.range_wait.specs.declared.waiting.TheConstants.{AWAKE_TRIES}
use Rattle.range_wait.specs.Seats.{both}
use Rattle.range_wait.proofs.Waited.{long_call}
use Rattle.range_wait.proofs.up_to.up_to.Goals as goal

-- more tries than are made without an announcement
pub returns-in-Err-clause-tried : goal.returns-in-Err-clause-tried
returns-in-Err-clause-tried g c = record {
  short = λ few. search rules;
  long = λ many. long_call (record { range = c.args.range; mode = c.args.mode }) AWAKE_TRIES (c.args.tries - AWAKE_TRIES)
      (both c.args.seat.now c.args.event.now) (both c.tries_awake-2.new.seat c.tries_awake-2.new.event) c.in-Err.field-0 c.told_up_to.result
      (both c.told_up_to.new.seat c.told_up_to.new.event) c.in-Err.ensures.tried c.told_up_to.ensures.tried;
}
