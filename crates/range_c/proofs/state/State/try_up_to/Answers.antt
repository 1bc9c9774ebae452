use Rattle.std.proofs.Common.{rules, ◌+◌, ◌<◌, ◌≤◌}
use Rattle.range_c.proofs.Tries.{trials_after, one_more, at_last, all_made}
use Rattle.range_c.proofs.state.State.try_up_to.Goals as goal

-- one more try was refused, and the seat still holds nothing
pub tries-preserved : goal.tries-preserved
tries-preserved c =
    let now = trials_after c.tries.invariant.0 c.in-Err.ensures.kept in
    let few : c.tries.made + 1 ≤ c.args.tries = search rules in
    let more = one_more (record { range = c.args.range; mode = c.args.mode }) c.tries.made c.try_once.new.self c.tries.answer c.in-Err.why
    c.tries.invariant.0 c.tries.invariant.1 c.tries.invariant.3 c.in-Err.ensures.refused in (now, c.in-Err.ensures.refused.free, few, more)

-- one more try holds what was asked for
pub returns-in-Ok-clause-answer : goal.returns-in-Ok-clause-answer
returns-in-Ok-clause-answer c =
    let more : c.tries.made < c.args.tries = search rules in
    at_last (record { range = c.args.range; mode = c.args.mode }) c.args.tries c.tries.made c.try_once.new.self c.tries.answer more c.tries.invariant.0
    c.tries.invariant.1 c.tries.invariant.3 c.in-Ok.ensures.held

-- all tries were refused, or none was asked for
pub returns-clause-answer : goal.returns-clause-answer
returns-clause-answer c =
    let all : c.args.tries ≤ c.tries.made = search rules in
    all_made (record { range = c.args.range; mode = c.args.mode }) c.args.tries c.tries.made c.args.self.now c.tries.self
    c.tries.answer all c.tries.invariant.2 c.tries.invariant.3
